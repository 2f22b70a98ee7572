-- What the clock answers, by the word's first byte. Assumes nothing.
use Prim.Native.Nat.{ℕ}
use mathlib.Core.Path.{◌≡◌, refl}
use mathlib.Core.Bool.{Bool, true, false, cond, ◌&&◌}
use mathlib.Core.List.{List, [], ◌∷◌}
use lib.ListN.{take, drop}
use lib.Dec.{eqb}
use Rattle.std.specs.Prelude.{nat_eq}
use Rattle.std.specs.Cmp.Lexicographic.{pointwise}
use Rattle.due_text.specs.Decimal.{number_of}
use Rattle.due_text.specs.Clock.{clock_at, clock_of}

-- digits that stand behind a minus sign, and a word with none
pub with_minus : (word digits : List ℕ) → pointwise nat_eq (take 1 word) (45 ∷ []) ≡ true → digits ≡ drop 1 word
    → clock_of word ≡ clock_at true (number_of digits)
unfolding clock_of
with_minus [] digits s d = cc
with_minus (byte ∷ rest) digits s d = rw d (by (eqb byte 45) s)
  where
    by : (minus : Bool) → (minus && true) ≡ true
        → cond minus (clock_at true (number_of rest)) (clock_at false (number_of (byte ∷ rest))) ≡ clock_at true (number_of rest)
    by true s = refl
    by false s = cc

pub without_minus : (word : List ℕ) → pointwise nat_eq (take 1 word) (45 ∷ []) ≡ false → clock_of word ≡ clock_at false (number_of word)
unfolding clock_of number_of
without_minus [] s = refl
without_minus (byte ∷ rest) s = by (eqb byte 45) s
  where
    by : (minus : Bool) → (minus && true) ≡ false
        → cond minus (clock_at true (number_of rest)) (clock_at false (number_of (byte ∷ rest))) ≡ clock_at false (number_of (byte ∷ rest))
    by true s = cc
    by false s = refl

pub ruleset signs = (with_minus, without_minus)
