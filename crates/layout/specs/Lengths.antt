-- The lengths that the C header offers for buffers: enough for every list up to a size. Its GP_SLOTS_UP_TO(n) and GP_STARTS_UP_TO(n) are the
-- slots and the bucket starts of the first row here that is not below n. (That each row is enough is `lengths`, proofs/Lengths.antt.)
-- Assumes nothing.
use Rattle.std.specs.Prelude.{ℕ, ◌≤◌}
use Rattle.capacity.specs.Capacity.{max_keys}
use Rattle.layout.specs.Layout.{max_slots, max_starts, slot_count_of, bucket_starts_of}

-- any list of up to hi keys needs at most a slots and p bucket starts
pub record Enough (hi a p : ℕ) : Type 0 where
  pub slots : (n : ℕ) → n ≤ hi → slot_count_of n ≤ a
  pub starts : (n : ℕ) → n ≤ hi → bucket_starts_of n ≤ p

pub record Lengths : Type 0 where
  pub up_to_2 : Enough 2 12 2
  pub up_to_4 : Enough 4 24 2
  pub up_to_8 : Enough 8 24 4
  pub up_to_27 : Enough 27 64 8
  pub up_to_91 : Enough 91 160 8
  pub up_to_303 : Enough 303 448 16
  pub up_to_1009 : Enough 1009 1408 32
  pub up_to_3361 : Enough 3361 4608 64
  pub up_to_4096 : Enough 4096 5632 64
  pub up_to_most : Enough max_keys max_slots max_starts
