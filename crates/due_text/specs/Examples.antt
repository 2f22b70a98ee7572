-- Some texts and what they say, as the definitions compute it. Bytes are numbers: newline 10, space 32, `#` 35, `-` 45, `0` 48.
-- Assumes nothing.
use Rattle.std.specs.Prelude.{ℕ, ◌+◌, ◌-◌, ◌^◌, ◌≡◌, refl, List, [], ◌∷◌, Some, Ok, Err}
use Rattle.answers.specs.declared.Refusal.TheVariants.{RepeatedKeys}
use Rattle.flush.specs.FlushKey.{flush_key_of, key_at_hour}
use Rattle.due_text.specs.Decimal.{all_digits, value_from, fitting, number_of}
use Rattle.repeats.specs.Repeats.{among?}
use Rattle.due_text.specs.Cut.{cut, before_comment}
use Rattle.due_text.specs.Clock.{clock_of}
use Rattle.due_text.specs.Line.{plain_of, due_at_unit, due_of, line_of}
use Rattle.due_text.specs.Keys.{keys_outcome, bad, read_lines, keys_of}
use Rattle.due_text.specs.declared.line.Fault.TheVariants.{NotNumber, WordCount, Refused, TooManyKeys}

-- `1 2 7199#x`: a flush, with a comment
flush_line : line_of (49 ∷ 32 ∷ 50 ∷ 32 ∷ 55 ∷ 49 ∷ 57 ∷ 57 ∷ 35 ∷ 120 ∷ []) ≡ Ok (Some (2 ^ 48 + 2 ^ 41 + 1))
unfolding line_of before_comment cut due_of due_at_unit clock_of number_of all_digits value_from fitting flush_key_of key_at_hour
flush_line = refl

-- `0 0 -1`: the last second before zero
second_before_zero : line_of (48 ∷ 32 ∷ 48 ∷ 32 ∷ 45 ∷ 49 ∷ []) ≡ Ok (Some (2 ^ 40 - 1))
unfolding line_of before_comment cut due_of due_at_unit clock_of number_of all_digits value_from fitting flush_key_of key_at_hour
second_before_zero = refl

-- `1 2`, and `-7`
two_words : line_of (49 ∷ 32 ∷ 50 ∷ []) ≡ Err WordCount
unfolding line_of before_comment cut
two_words = refl

below_zero : line_of (45 ∷ 55 ∷ []) ≡ Err NotNumber
unfolding line_of before_comment cut plain_of number_of all_digits
below_zero = refl

-- `5`, an empty line, ` 6`, into room for three; then into room for one; then with `5` for the 6
text : (last : ℕ) → List ℕ
text last = 53 ∷ 10 ∷ 10 ∷ 32 ∷ last ∷ []

two_keys : keys_of (text 54) (1 ∷ 2 ∷ 3 ∷ []) ≡ keys_outcome (Ok 2) (5 ∷ 6 ∷ 3 ∷ [])
unfolding text keys_of read_lines among? line_of before_comment cut plain_of number_of all_digits value_from fitting
two_keys = refl

no_place : keys_of (text 54) (1 ∷ []) ≡ keys_outcome (bad 3 TooManyKeys) (5 ∷ [])
unfolding text keys_of read_lines among? line_of before_comment cut plain_of number_of all_digits value_from fitting
no_place = refl

again : keys_of (text 53) (1 ∷ 2 ∷ 3 ∷ []) ≡ keys_outcome (bad 3 (Refused RepeatedKeys)) (5 ∷ 2 ∷ 3 ∷ [])
unfolding text keys_of read_lines among? line_of before_comment cut plain_of number_of all_digits value_from fitting
again = refl
