-- Document 01, "Answers": checks run in the order of the numbers, and most refusals leave all lent memory unchanged.
-- Assumes nothing.
use Rattle.std.specs.Prelude.{ℕ, Bool, cond}
use Rattle.answers.specs.Answers.{Answer, refuses, gives, Outcome, outcome}

-- the value of a call that has nothing more to tell
pub data Done : Type 0 where
  done : Done

-- one check: where there is this fault, it refuses with this number
abbrev pub refuse_if : (fault : Bool) (number : ℕ) → Answer Done
refuse_if fault number = cond fault (refuses number) (gives done)

-- one after the other: the first that refuses decides
infixr 20 ◌then◌
abbrev pub ◌then◌ : {A B : Type 0} → Answer A → Answer B → Answer B
refuses number then next = refuses number
gives value then next = next

-- a refusal leaves the memory as it was; else the outcome is the one that follows
abbrev pub unless_refused : {A B M : Type 0} → (checks : Answer A) (memory : M) (next : Outcome B M) → Outcome B M
unless_refused (refuses number) memory next = outcome (refuses number) memory
unless_refused (gives value) memory next = next
