-- A number that is not above the last one allowed, and then what is said with it. Assumes nothing.
use Rattle.std.proofs.Common.{◌≡◌, refl, ap, ℕ, Bool, true, false, cond, ltb}
use Rattle.std.specs.Prelude.{Result, Ok, Err}
use Rattle.answers.specs.declared.Refusal.{Refusal}
use Rattle.answers.specs.OneNumber.{refusal_number}
use Rattle.answers.specs.Paper.{paper}
use Rattle.std.specs.Result.{result_map_both}
use Rattle.due_text.specs.Line.{up_to, keyed_of}
use Rattle.due_text.specs.declared.decimal.NumberError.{NumberError}
use Rattle.due_text.specs.declared.line.Fault.{Fault}
use Rattle.due_text.specs.declared.line.Fault.TheVariants.{Refused}

abbrev pub and_then : Result ℕ Fault → (next : ℕ → Result ℕ Fault) → Result ℕ Fault
and_then (Ok n) next = next n
and_then (Err why) next = Err why

pub in_turn : (last : ℕ) (above : Fault) (read : Result ℕ NumberError) (next : ℕ → Result ℕ Fault)
    → up_to last above read next ≡ and_then (up_to last above read Ok) next
in_turn last above (Err why) next = refl
in_turn last above (Ok n) next = by (ltb last n)
  where
    by : (b : Bool) → cond b (Err above) (next n) ≡ and_then (cond b (Err above) (Ok n)) next
    by true = refl
    by false = refl

-- the answer to a flush, with its refusal as what is wrong
pub told : (answer : Result ℕ Refusal) → keyed_of (paper answer) ≡ result_map_both (λ key. key) Refused answer
told (Ok key) = refl
told (Err why) = ap (λ (w : Refusal). Err (Refused w)) (refusal_number why)
