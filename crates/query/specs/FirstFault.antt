-- What the functions that a query of any width calls promise: whether checks 8 to 11 pass, the refusal where they do not; and the answer
-- that the number tells which a C program is given. Assumes nothing.
use Rattle.std.specs.Prelude.{Bool, true, false, not, cond, ℕ, eqb}
use Rattle.answers.specs.Answers.{Answer, refuses, gives}
use Rattle.answers.specs.Checks.{Done, refuse_if, ◌then◌}
use Rattle.descriptor.specs.declared.Descriptor.{Descriptor}
use Rattle.descriptor.specs.Descriptor.{check_of}
use Rattle.fuse.specs.Query.{fingerprints_for}

-- no check looks at the seed
abbrev pub unseeded : (segment mask span : ℕ) → Descriptor
unseeded segment mask span =
    record { seed = 0; segment_length = segment; segment_length_mask = mask; segment_count_length = span }

abbrev pub passed? : Answer Done → Bool
passed? (refuses number) = false
passed? (gives value) = true

-- whether checks 8 to 10 of the record, and 11 of the number of fingerprints given, all pass
abbrev pub suits_of : Descriptor → (given : ℕ) → Bool
suits_of d given = passed? (check_of d then refuse_if (not (eqb given (fingerprints_for d))) 11)

-- the refusal of a query where they do not all pass: the first of 8 to 10 that fails, or else 11
abbrev pub first_fault : Descriptor → Answer Bool
first_fault d = check_of d then refuses 11

-- 0 is told for no, 1 for yes, and any other number for a refusal
abbrev pub answer_told : (code : ℕ) → Descriptor → Answer Bool
answer_told code d = cond (eqb code 0) (gives false) (cond (eqb code 1) (gives true) (first_fault d))
