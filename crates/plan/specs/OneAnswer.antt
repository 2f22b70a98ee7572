-- No other answer of a build or of one attempt fits its promise, and no other memory, whatever the width. Assumes nothing.
use Rattle.std.specs.Prelude.{◌≡◌, refl, List, ℕ, Result, Ok, Err}
use Rattle.std.proofs.Common.{ap}
use Rattle.answers.specs.declared.Refusal.{Refusal}
use Rattle.answers.specs.Answers.{Answer, Outcome, outcome}
use Rattle.answers.specs.OneNumber.{refusal_number}
use Rattle.answers.specs.OneAnswer.{answer_of, only_answer, only_outcome}
use Rattle.fuse.specs.Memory.{Memory}
use Rattle.fuse.specs.Build.{Success, build_of, attempt_of}
use Rattle.plan.specs.declared.Built.{Built}
use Rattle.plan.specs.Paper.{paper}

-- two answers, each with what it leaves, that both come to what `promised` says of a list of keys, a limit or number, and memory are the same
abbrev pub OneAnswer : (promised : List ℕ → ℕ → Memory → Outcome Success Memory) → Type 0
OneAnswer promised =
    (keys : List ℕ) (number : ℕ) (before : Memory) (r s : Result Built Refusal) (after other : Memory)
    → outcome (paper r) after ≡ promised keys number before → outcome (paper s) other ≡ promised keys number before → (r ≡ s) × (after ≡ other)

back : Answer Success → Result Built Refusal
back = answer_of (λ (s : Success). Ok (record { descriptor = s.descriptor; slots = s.slots; attempt = s.attempt })) Err

told : (r : Result Built Refusal) → back (paper r) ≡ r
unfolding back
told (Ok built) = refl
told (Err why) = ap Err (refusal_number why)

-- an answer is told by its reading
pub one_reading : (r s : Result Built Refusal) → paper r ≡ paper s → r ≡ s
one_reading r s e = only_answer paper back told r s e refl

pub one_build : (w : ℕ) → OneAnswer (build_of w)
one_build w keys limit before r s after other = only_outcome paper back told r s after other

pub one_attempt : (w : ℕ) → OneAnswer (attempt_of w)
one_attempt w keys number before r s after other = only_outcome paper back told r s after other
