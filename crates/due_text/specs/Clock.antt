-- Seconds of the clock in a text of due flushes: a number in decimal, after a minus sign for the time before zero, that a clock in
-- signed 64 bits can show. This project's own format; document 01 has none. Assumes nothing.
use Rattle.std.specs.Prelude.{ℕ, ◌-◌, ◌^◌, Bool, true, false, cond, List, [], ◌∷◌, leb, eqb, ℤ, pos, neg_ℤ, Result, Ok, Err}
use Rattle.due_text.specs.Decimal.{number_of}
use Rattle.due_text.specs.declared.decimal.NumberError.{NumberError}
use Rattle.due_text.specs.declared.decimal.NumberError.TheVariants.{NotDigits, TooLarge}

abbrev pub signed : (negative : Bool) → ℕ → ℤ
signed true seconds = neg_ℤ (pos seconds)
signed false seconds = pos seconds

-- how many seconds the clock can show before zero, and after it
abbrev pub most_seconds : (negative : Bool) → ℕ
most_seconds true = 2 ^ 63
most_seconds false = 2 ^ 63 - 1

-- the clock that so many seconds name, before zero or after it
abbrev pub clock_at : (negative : Bool) → Result ℕ NumberError → Result ℤ NumberError
clock_at negative (Ok seconds) = cond (leb seconds (most_seconds negative)) (Ok (signed negative seconds)) (Err TooLarge)
clock_at negative (Err NotDigits) = Err NotDigits
clock_at negative (Err TooLarge) = Err TooLarge

-- `-` is 45
unfoldable pub clock_of : List ℕ → Result ℤ NumberError
clock_of [] = Err NotDigits
clock_of (byte ∷ rest) = cond (eqb byte 45) (clock_at true (number_of rest)) (clock_at false (number_of (byte ∷ rest)))
