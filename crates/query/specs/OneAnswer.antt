-- No other answer of `contains`, `contains_bytes` or `contains_told` fits its promise, at any width. Assumes nothing.
use Rattle.std.specs.Prelude.{◌≡◌, Bool, List, ℕ, Result}
use Rattle.std.proofs.Common.{sym, ◌∙◌}
use Rattle.answers.specs.declared.Refusal.{Refusal}
use Rattle.answers.specs.Answers.{Answer}
use Rattle.answers.specs.Paper.{paper}
use Rattle.answers.specs.OneReading.{one_answer}
use Rattle.fuse.specs.Query.{contains_of, contains_bytes_of, told}

-- two answers that are both what `promised` says of a descriptor (the record or its bytes), fingerprints and a key are the same
abbrev pub OneAnswer : {D : Type 0} → (promised : D → List ℕ → ℕ → Answer Bool) → Type 0
OneAnswer {D} promised =
    (descriptor : D) (fingerprints : List ℕ) (key : ℕ) (r s : Result Bool Refusal)
    → paper r ≡ promised descriptor fingerprints key → paper s ≡ promised descriptor fingerprints key → r ≡ s

pub one_contains : (w : ℕ) → OneAnswer (contains_of w)
one_contains w descriptor fingerprints key = one_answer

pub one_contains_bytes : (w : ℕ) → OneAnswer (contains_bytes_of w)
one_contains_bytes w descriptor fingerprints key = one_answer

-- and so are two numbers that a C program may be told
abbrev pub OneTold : (w : ℕ) → Type 0
OneTold w =
    (descriptor fingerprints : List ℕ) (key r s : ℕ)
    → r ≡ told (contains_bytes_of w descriptor fingerprints key) → s ≡ told (contains_bytes_of w descriptor fingerprints key) → r ≡ s

pub one_contains_told : (w : ℕ) → OneTold w
one_contains_told w descriptor fingerprints key r s p q = p ∙ sym q
