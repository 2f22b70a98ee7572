-- No two results have the same reading. So where the reading of a call's result is promised, and what the call leaves, no other result and
-- no other memory fits. Assumes nothing.
use Rattle.std.specs.Prelude.{◌≡◌, refl, Result, Ok, Err}
use Rattle.std.proofs.Common.{ap}
use Rattle.answers.specs.declared.Refusal.{Refusal}
use Rattle.answers.specs.Answers.{Answer, Outcome, outcome}
use Rattle.answers.specs.Checks.{Done}
use Rattle.answers.specs.OneNumber.{refusal_number}
use Rattle.answers.specs.OneAnswer.{answer_of, only_answer, only_outcome}
use Rattle.answers.specs.Paper.{paper, passed}

module _ {A : Type 0} where
  told : (r : Result A Refusal) → answer_of Ok Err (paper r) ≡ r
  told (Ok value) = refl
  told (Err why) = ap Err (refusal_number why)

  pub one_reading : (r s : Result A Refusal) → paper r ≡ paper s → r ≡ s
  one_reading r s e = only_answer paper (answer_of Ok Err) told r s e refl

  pub one_answer : {o : Answer A} (r s : Result A Refusal) → paper r ≡ o → paper s ≡ o → r ≡ s
  one_answer = only_answer paper (answer_of Ok Err) told

  pub one_outcome : {M : Type 0} {o : Outcome A M} (r s : Result A Refusal) (m n : M)
      → outcome (paper r) m ≡ o → outcome (paper s) n ≡ o → (r ≡ s) × (m ≡ n)
  one_outcome = only_outcome paper (answer_of Ok Err) told

abbrev back : Answer Done → Result (Unit {0}) Refusal
back = answer_of (λ _. Ok tt) Err

passed_told : (r : Result (Unit {0}) Refusal) → back (passed r) ≡ r
passed_told (Ok _) = refl
passed_told (Err why) = ap Err (refusal_number why)

pub one_passed_reading : (r s : Result (Unit {0}) Refusal) → passed r ≡ passed s → r ≡ s
one_passed_reading r s e = only_answer passed back passed_told r s e refl

pub one_passed : {o : Answer Done} (r s : Result (Unit {0}) Refusal) → passed r ≡ o → passed s ≡ o → r ≡ s
one_passed = only_answer passed back passed_told

pub one_passed_outcome : {M : Type 0} {o : Outcome Done M} (r s : Result (Unit {0}) Refusal) (m n : M)
    → outcome (passed r) m ≡ o → outcome (passed s) n ≡ o → (r ≡ s) × (m ≡ n)
one_passed_outcome = only_outcome passed back passed_told
