-- A number in decimal: digits only, at least one, the highest first, leading zeros allowed. The text of due flushes is this
-- project's own; document 01 has none. Assumes nothing.
use Rattle.std.specs.Prelude.{ℕ, ◌+◌, ◌-◌, ◌*◌, ◌^◌, Bool, true, false, cond, List, [], ◌∷◌, length, leb, ltb, eqb, Result, Ok, Err}
use Rattle.due_text.specs.declared.decimal.NumberError.{NumberError}
use Rattle.due_text.specs.declared.decimal.NumberError.TheVariants.{NotDigits, TooLarge}

-- `0` is 48 and `9` is 57
abbrev pub digit? : ℕ → Bool
digit? byte = cond (leb 48 byte) (leb byte 57) false

unfoldable pub all_digits : List ℕ → Bool
all_digits [] = true
all_digits (byte ∷ rest) = cond (digit? byte) (all_digits rest) false

-- the number so far, with the digits that follow
unfoldable pub value_from : (value : ℕ) → List ℕ → ℕ
value_from value [] = value
value_from value (byte ∷ rest) = value_from (value * 10 + (byte - 48)) rest

-- a number that 64 bits hold
unfoldable pub fitting : ℕ → Result ℕ NumberError
fitting value = cond (ltb value (2 ^ 64)) (Ok value) (Err TooLarge)

unfoldable pub number_of : List ℕ → Result ℕ NumberError
number_of word = cond (eqb (length word) 0) (Err NotDigits) (cond (all_digits word) (fitting (value_from 0 word)) (Err NotDigits))
