-- Document 01, answers 5 and 6 and "What the promises say": the demand that a build stops at the first allowed attempt without a stuck set and that every
-- listed key then answers yes. It stands beside the equation, which fixes the rest, and follows from it (proofs/Demanded.antt). A build has the attempts 1 to its
-- limit, a single attempt just its number; fingerprints have w bits. Assumes nothing.
use Rattle.std.specs.Prelude.{◌≡◌, ◌↔◌, true, List, ℕ, ◌<◌, length, take, get_or}
use Rattle.answers.specs.Answers.{Answer, refuses, gives}
use Rattle.answers.specs.Checks.{done}
use Rattle.repeats.specs.Repeats.{Twice}
use Rattle.stuck.specs.FirstFree.{First, AllStuck}
use Rattle.layout.specs.Layout.{slot_count_of}
use Rattle.fuse.specs.Attempts.{descriptor_at, slots_at}
use Rattle.fuse.specs.Memory.{Memory, checked}
use Rattle.fuse.specs.Build.{Success, success}
use Rattle.fuse.specs.Query.{accepts, contains_of}

-- `memory` is what was lent at entry, `fingerprints` what the room for them holds at exit. Check 2 is of `last`.
pub record Demand3 (w : ℕ) (keys : List ℕ) (first last : ℕ) (memory : Memory) (answer : Answer Success) (fingerprints : List ℕ) : Type 0 where
  -- the attempt named is the first allowed one without a stuck set
  pub names_the_first : (s : Success) → answer ≡ gives s → First (slots_at keys) first last s.attempt
  -- and where there is one, and checks 1 to 4 pass, it is named, with its descriptor and A
  pub stops_at_the_first : (i : ℕ) → checked (length keys) last memory ≡ gives done → First (slots_at keys) first last i
      → answer ≡ gives (success (descriptor_at (length keys) i) (slot_count_of (length keys)) i)
  -- checks 8 to 11 accept the descriptor with the first A fingerprints
  pub accepted : (s : Success) → answer ≡ gives s → accepts s.descriptor (take s.slots fingerprints) ≡ gives done
  -- every listed key then answers yes, asked of the descriptor and the first A fingerprints alone
  pub every_key_yes : (s : Success) → answer ≡ gives s → (j : ℕ) → j < length keys
      → contains_of w s.descriptor (take s.slots fingerprints) (get_or keys j 0) ≡ gives true
  -- 5 exactly when two keys are equal and nothing earlier refuses
  pub five : (answer ≡ refuses 5) ↔ ((checked (length keys) last memory ≡ gives done) × Twice keys)
  -- 6 exactly when each allowed attempt has a stuck set and nothing earlier refuses
  pub six : (answer ≡ refuses 6) ↔ ((checked (length keys) last memory ≡ gives done) × ((¬ Twice keys) × AllStuck (slots_at keys) first last))
