-- Document 01, module 8: "Counting from attempt 1, the first attempt at which nothing is stuck ends the search". What the search over the
-- attempts `first` to `last` promises. Assumes nothing.
use Rattle.std.specs.Prelude.{◌≡◌, true, List, ℕ, ◌+◌, ◌-◌, ◌≤◌, length}
use Rattle.peel.specs.Buffers.{picks_in}
use Rattle.fuse.specs.Attempts.{picks_at, free}
use Rattle.fuse.specs.Build.{first_free}

-- the first free attempt, or 0 where none is free; the keys that a free one took lie in `order` and `positions`
pub record Sought (keys : List ℕ) (first last found : ℕ) (positions order : List ℕ) : Type 0 where
  pub is : found ≡ first_free (free keys) first (last + 1 - first)
  pub high : found ≤ last
  pub there : 1 ≤ found → (free keys found ≡ true) × (picks_in (length keys) order positions ≡ picks_at keys found)
