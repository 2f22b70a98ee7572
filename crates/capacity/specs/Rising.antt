-- More keys have no smaller capacity, up to `max_keys`: its proof is a second test of the table (proofs/Rising.antt).
-- Assumes nothing.
use Rattle.std.specs.Prelude.{ℕ, ◌≤◌}
use Rattle.capacity.specs.Capacity.{max_keys, capacity_of}

abbrev pub Rising : Type 0
Rising = (n m : ℕ) → n ≤ m → m ≤ max_keys → capacity_of n ≤ capacity_of m
