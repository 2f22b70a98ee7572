-- Document 01, "One attempt, and the order that fixes the bytes", and answer 6: the search over attempts ("the first attempt at which nothing
-- is stuck ends the search"). `at k` has the slots of the keys in attempt k; the attempts `first` to `last` are allowed. Definitions only.
-- Assumes nothing.
use Rattle.std.specs.Prelude.{List, ℕ, ◌≤◌, ◌<◌}
use Rattle.stuck.specs.Stuck.{Slots, SomeStuck, NoneStuck}

-- attempt k is the first allowed one without a stuck set
pub record First (at : ℕ → List Slots) (first last k : ℕ) : Type 0 where
  pub low : first ≤ k
  pub high : k ≤ last
  pub free : NoneStuck (at k)
  pub before : (j : ℕ) → first ≤ j → j < k → SomeStuck (at j)

-- every allowed attempt has a stuck set
abbrev pub AllStuck : (at : ℕ → List Slots) (first last : ℕ) → Type 0
AllStuck at first last = (j : ℕ) → first ≤ j → j ≤ last → SomeStuck (at j)
