-- No other answer of a public call fits its promise, and no other room that of `keys::read`. Assumes nothing.
use Rattle.std.specs.Prelude.{◌≡◌, List, ℕ, Option, Result}
use Rattle.std.proofs.Common.{sym, ap, ◌∙◌}
use Rattle.due_text.specs.Decimal.{number_of}
use Rattle.due_text.specs.Line.{plain_of, due_of, line_of}
use Rattle.due_text.specs.Keys.{KeysOutcome, keys_outcome, keys_of}
use Rattle.due_text.specs.declared.decimal.NumberError.{NumberError}
use Rattle.due_text.specs.declared.line.Fault.{Fault}
use Rattle.due_text.specs.declared.keys.BadLine.{BadLine}

pub one_number : (word : List ℕ) (r s : Result ℕ NumberError) → r ≡ number_of word → s ≡ number_of word → r ≡ s
one_number word r s p q = p ∙ sym q

pub one_plain : (key : List ℕ) (r s : Result ℕ Fault) → r ≡ plain_of key → s ≡ plain_of key → r ≡ s
one_plain key r s p q = p ∙ sym q

pub one_due : (unit valve seconds : List ℕ) (r s : Result ℕ Fault) → r ≡ due_of unit valve seconds → s ≡ due_of unit valve seconds → r ≡ s
one_due unit valve seconds r s p q = p ∙ sym q

pub one_line : (text : List ℕ) (r s : Result (Option ℕ) Fault) → r ≡ line_of text → s ≡ line_of text → r ≡ s
one_line text r s p q = p ∙ sym q

pub one_keys : (text room : List ℕ) (r s : Result ℕ BadLine) (after other : List ℕ)
    → keys_outcome r after ≡ keys_of text room → keys_outcome s other ≡ keys_of text room → (r ≡ s) × (after ≡ other)
one_keys text room r s after other p q = (ap (λ (t : KeysOutcome). t.answer) (p ∙ sym q), ap (λ (t : KeysOutcome). t.leaves) (p ∙ sym q))
