-- Document 01, answers 1 to 6: what a build and a single attempt answer, and all the memory that they leave, for every input and fingerprints
-- of w bits. Assumes nothing.
use Rattle.std.specs.Prelude.{Bool, cond, List, ℕ, zero, suc, length}
use Rattle.answers.specs.Answers.{refuses, gives, Outcome, outcome}
use Rattle.answers.specs.Checks.{unless_refused}
use Rattle.descriptor.specs.declared.Descriptor.{Descriptor}
use Rattle.layout.specs.Layout.{slot_count_of}
use Rattle.repeats.specs.Repeats.{repeats?}
use Rattle.fuse.specs.Attempts.{descriptor_at, free, fingerprints_at}
use Rattle.fuse.specs.Memory.{Memory, checked, begins, zeroed, scratch_zeroed}

-- a success "answers with the descriptor, A and the attempt number"
pub record Success : Type 0 where
  pub descriptor : Descriptor
  pub slots : ℕ
  pub attempt : ℕ

abbrev pub success : Descriptor → ℕ → ℕ → Success
success d slots attempt = record { descriptor = d; slots = slots; attempt = attempt }

-- of `count` attempts from `first` on, the number of the first that is free, or 0 where none is
unfoldable pub first_free : (ℕ → Bool) → (first count : ℕ) → ℕ
first_free free first zero = 0
first_free free first (suc count) = cond (free first) first (first_free free (suc first) count)

-- none of the attempts was free: 6, the first A fingerprints and the scratch zeroed
abbrev pub stuck_outcome : List ℕ → Memory → Outcome Success Memory
stuck_outcome keys m =
    let n = length keys in
    outcome (refuses 6) (scratch_zeroed n m (zeroed (slot_count_of n) m.fingerprints))

-- attempt i was the first free one: its A fingerprints are written, the scratch is zeroed
abbrev pub built_outcome : (w : ℕ) → List ℕ → ℕ → Memory → Outcome Success Memory
built_outcome w keys i m =
    let n = length keys in
    outcome (gives (success (descriptor_at n i) (slot_count_of n) i)) (scratch_zeroed n m (begins (slot_count_of n) (fingerprints_at w keys i) m.fingerprints))

abbrev pub found_outcome : (w : ℕ) → List ℕ → (found : ℕ) → Memory → Outcome Success Memory
found_outcome w keys zero m = stuck_outcome keys m
found_outcome w keys (suc i) m = built_outcome w keys (suc i) m

-- two keys equal: 5, fingerprints unchanged, scratch zeroed
abbrev pub repeated_outcome : List ℕ → Memory → Outcome Success Memory
repeated_outcome keys m = outcome (refuses 5) (scratch_zeroed (length keys) m m.fingerprints)

-- a refusal by 1 to 4 leaves all unchanged; check 2 is of `limit`; the attempts are the `count` ones from `first` on
unfoldable pub search_of : (w : ℕ) → List ℕ → (limit first count : ℕ) → Memory → Outcome Success Memory
search_of w keys limit first count m =
    unless_refused (checked (length keys) limit m) m
    (cond (repeats? keys) (repeated_outcome keys m) (found_outcome w keys (first_free (free keys) first count) m))

-- the attempts 1 to limit
abbrev pub build_of : (w : ℕ) → List ℕ → (limit : ℕ) → Memory → Outcome Success Memory
build_of w keys limit m = search_of w keys limit 1 limit m

-- one attempt by its number
abbrev pub attempt_of : (w : ℕ) → List ℕ → (number : ℕ) → Memory → Outcome Success Memory
attempt_of w keys number m = search_of w keys number number 1 m
