-- Document 01, "Answers", number 5: two keys equal. `Twice` says it of a list of keys, and `repeats?` is its test, which the code's
-- promise names; that the two agree is `repeats_iff` of Laws. Assumes nothing.
use Rattle.std.specs.Prelude.{◌≡◌, Bool, false, ◌||◌, List, [], ◌∷◌, ℕ, ◌<◌, length, get_or, eqb}

-- two places that hold equal keys
pub record Twice (keys : List ℕ) : Type 0 where
  pub first : ℕ
  pub second : ℕ
  pub apart : first < second
  pub within : second < length keys
  pub equal : get_or keys first 0 ≡ get_or keys second 0

-- the key is among the keys
unfoldable pub among? : ℕ → List ℕ → Bool
among? key [] = false
among? key (other ∷ keys) = eqb other key || among? key keys

-- some key stands again further on
unfoldable pub repeats? : List ℕ → Bool
repeats? [] = false
repeats? (key ∷ keys) = among? key keys || repeats? keys
