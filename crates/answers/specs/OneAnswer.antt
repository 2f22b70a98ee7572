-- Why no second answer fits a promise. A promise says that the paper's reading of an answer is such and such; where an answer can be
-- told from its reading, two answers that both fit are equal, and so is the memory that they leave. Assumes nothing.
use Rattle.std.specs.Prelude.{◌≡◌}
use Rattle.std.proofs.Common.{sym, ap, ◌∙◌}
use Rattle.answers.specs.declared.Refusal.{Refusal}
use Rattle.answers.specs.Answers.{Answer, refuses, gives, Outcome, outcome}
use Rattle.answers.specs.OneNumber.{refusal_of}

-- the answer with this reading, of an enum with these cases
abbrev pub answer_of : {R A : Type 0} → (good : A → R) (refused : Refusal → R) → Answer A → R
answer_of good refused (gives value) = good value
answer_of good refused (refuses number) = refused (refusal_of number)

module _ {R A : Type 0} (paper : R → Answer A) (back : Answer A → R) (told : (r : R) → back (paper r) ≡ r) where
  pub only_answer : {o : Answer A} (r s : R) → paper r ≡ o → paper s ≡ o → r ≡ s
  only_answer r s p q = sym (told r) ∙ ap back (p ∙ sym q) ∙ told s

  pub only_outcome : {M : Type 0} {o : Outcome A M} (r s : R) (m n : M) → outcome (paper r) m ≡ o → outcome (paper s) n ≡ o → (r ≡ s) × (m ≡ n)
  only_outcome {M} r s m n p q =
      (only_answer r s (ap (λ (x : Outcome A M). x.answer) p) (ap (λ (x : Outcome A M). x.answer) q), ap (λ (x : Outcome A M). x.leaves) (p ∙ sym q))
