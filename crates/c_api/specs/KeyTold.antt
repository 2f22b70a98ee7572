-- Ours, not document 01's, which exports only the query: the flush key ("Flush key" and answer 12, as document 02's wish 3
-- corrects them) offered to C as well. What the C program is told, and what its key then holds. Assumes nothing.
use Rattle.std.specs.Prelude.{ℕ}
use Rattle.answers.specs.Answers.{code_of, Answer, refuses, gives}

pub record KeyTold : Type 0 where
  pub code : ℕ
  pub key : ℕ

abbrev pub key_told : ℕ → ℕ → KeyTold
key_told code key = record { code = code; key = key }

-- 0 and the key; or 16 plus the refusal's number, and the key as it was
abbrev pub told_key : Answer ℕ → (before : ℕ) → KeyTold
told_key (gives key) before = key_told 0 key
told_key (refuses number) before = key_told (code_of number) before
