-- What one line does to the keys in the first places of the room, for the function that stores its key. No public promise names
-- this. Assumes nothing.
use Rattle.std.specs.Prelude.{ℕ, ◌≤◌, ◌≡◌, List, length, take, drop, Option, Result}
use Rattle.due_text.specs.Keys.{KeysOutcome, keys_outcome, bad, after_line}
use Rattle.due_text.specs.declared.line.Fault.{Fault}

-- there are `more` keys now; and this whatever the number of the line is, and however `next` goes on
pub record GoesOn (said : Result (Option ℕ) Fault) (room after : List ℕ) (count more : ℕ) : Type 0 where
  pub grown : count ≤ more
  pub places : more ≤ length room
  pub untouched : drop more after ≡ drop more room
  pub then : (number : ℕ) (next : List ℕ → KeysOutcome) → after_line (length room) number (take count room) said next ≡ next (take more after)

-- the reading ends with this fault, and nothing is stored
pub record Stops (said : Result (Option ℕ) Fault) (room after : List ℕ) (count : ℕ) (why : Fault) : Type 0 where
  pub kept : after ≡ room
  pub then : (number : ℕ) (next : List ℕ → KeysOutcome)
      → after_line (length room) number (take count room) said next ≡ keys_outcome (bad number why) (take count room)
