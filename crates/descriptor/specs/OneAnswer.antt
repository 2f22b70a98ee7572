-- No other answer of `check`, `read` or `write` fits its promise, and no other memory that of `write`. Assumes nothing.
use Rattle.std.specs.Prelude.{◌≡◌, List, ℕ, Result}
use Rattle.answers.specs.declared.Refusal.{Refusal}
use Rattle.answers.specs.Answers.{outcome}
use Rattle.answers.specs.Paper.{paper, passed}
use Rattle.answers.specs.OneReading.{one_answer, one_passed, one_passed_outcome}
use Rattle.descriptor.specs.declared.Descriptor.{Descriptor}
use Rattle.descriptor.specs.Descriptor.{check_of, read_of, write_of}

pub one_check : (d : Descriptor) (r s : Result (Unit {0}) Refusal) → passed r ≡ check_of d → passed s ≡ check_of d → r ≡ s
one_check d = one_passed

pub one_read : (bytes : List ℕ) (r s : Result Descriptor Refusal) → paper r ≡ read_of bytes → paper s ≡ read_of bytes → r ≡ s
one_read bytes = one_answer

pub one_write : (d : Descriptor) (room : List ℕ) (r s : Result (Unit {0}) Refusal) (after other : List ℕ)
    → outcome (passed r) after ≡ write_of d room → outcome (passed s) other ≡ write_of d room → (r ≡ s) × (after ≡ other)
one_write d room = one_passed_outcome
