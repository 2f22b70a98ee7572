-- Digits: what a number grows to by those to come, and when 64 bits no longer hold it. Assumes nothing.
use Prim.Native.Nat.{ℕ, ◌+◌, ◌-◌, ◌*◌, ◌^◌, ◌≤◌, ◌<◌}
use mathlib.Core.Path.{◌≡◌, refl}
use mathlib.Core.Bool.{Bool, true, false, cond, ◌&&◌}
use mathlib.Core.List.{List, [], ◌∷◌}
use native.Mathlib.Numerals.{add-one}
use native.Mathlib.Omega.{arith}
use lib.ListN.{length, get_or, drop, drop_of_length-le}
use lib.Seq.{drop-cons}
use lib.Dec.{leb}
use borrow.Author.Tests.{lt-ltb, le-ltb}
use Rattle.std.specs.Prelude.{Ok, Err}
use Rattle.std.specs.List.{list_all}
use Rattle.std.specs.Char.{is_ascii_digit}
use Rattle.due_text.specs.declared.decimal.NumberError.TheVariants.{TooLarge}
use Rattle.due_text.specs.Decimal.{all_digits, value_from, fitting}

pub one_digit_more : (word : List ℕ) (i value : ℕ) → i < length word
    → value_from value (drop i word) ≡ value_from (value * 10 + (get_or word i 0 - 48)) (drop (i + 1) word)
unfolding value_from
one_digit_more word i value inside = rw (add-one, drop-cons word i 0)

-- a number only grows by the digits that follow
grows : (value : ℕ) (word : List ℕ) → value ≤ value_from value word
unfolding value_from
grows value [] = omega arith
grows value (byte ∷ rest) = omega (arith, grows (value * 10 + (byte - 48)) rest)

pub too_large : (word : List ℕ) (i value : ℕ) → i < length word → value_from value (drop i word) ≡ value_from 0 word
    → (value * 10 + (get_or word i 0 - 48) < 2 ^ 64 → ⊥) → Err TooLarge ≡ fitting (value_from 0 word)
unfolding fitting
too_large word i value h e big =
    let more = grows (value * 10 + (get_or word i 0 - 48)) (drop (i + 1) word) in
    let large : 2 ^ 64 ≤ value_from 0 word = omega (arith, more, one_digit_more word i value h) in
    rw (le-ltb (value_from 0 word) (2 ^ 64) large)

pub all_read : (word : List ℕ) (i value : ℕ) → length word ≤ i → value < 2 ^ 64 → value_from value (drop i word) ≡ value_from 0 word
    → Ok value ≡ fitting (value_from 0 word)
unfolding fitting value_from
all_read word i value h fits e =
    let whole : value ≡ value_from 0 word = rw (drop_of_length-le word {i = i} h) at e in
    rw (← whole, lt-ltb value (2 ^ 64) fits)

-- the digits are those of ASCII
pub ascii : (word : List ℕ) → list_all is_ascii_digit word ≡ all_digits word
unfolding all_digits
ascii [] = refl
ascii (byte ∷ rest) = rw (ascii rest) (both (leb 48 byte) (leb byte 57))
  where
    both : (low high : Bool) → ((low && high) && all_digits rest) ≡ cond (cond low high false) (all_digits rest) false
    both true true = refl
    both true false = refl
    both false high = refl

pub ruleset steps = (one_digit_more, too_large, all_read)
