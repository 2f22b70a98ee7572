-- The low bits of a run go with what is done to the run: reading, writing, joining, cutting, clearing. Assumes nothing.
use Rattle.std.specs.Prelude.{◌≡◌, ℕ, zero, suc, ◌%◌, ◌^◌, List, [], ◌∷◌, ◌++◌, length, drop, replicate, slice_index, slice_index_or, slice_set}
use Rattle.std.proofs.Math.Path.{refl, ap, ap₂}
use Rattle.std.proofs.Common.{sym, ◌∙◌}
use mathlib.Core.List.{map-append}
use Rattle.std.proofs.Math.Nat.{zero-mod}
use Rattle.std.proofs.Math.ListN.{length-map, get_or-map}
use Rattle.words.specs.Low.{low}

module _ (w : ℕ) where
  pub low-length : (values : List ℕ) → length (low w values) ≡ length values
  unfolding low
  low-length values = length-map values (λ x. x % 2 ^ w)

  pub low_get_d : (values : List ℕ) (i : ℕ) → slice_index (low w values) i ≡ slice_index values i % 2 ^ w
  unfolding low
  low_get_d values i = ap (slice_index_or (low w values) i) (sym (zero-mod (2 ^ w))) ∙ get_or-map (λ (x : ℕ). x % 2 ^ w) values i 0

  pub low-set : (values : List ℕ) (i x : ℕ) → low w (slice_set values i x) ≡ slice_set (low w values) i (x % 2 ^ w)
  unfolding low
  low-set [] i x = refl
  low-set (y ∷ values) zero x = refl
  low-set (y ∷ values) (suc i) x = ap (λ (l : List ℕ). y % 2 ^ w ∷ l) (low-set values i x)

  pub low-append : (front back : List ℕ) → low w (front ++ back) ≡ low w front ++ low w back
  unfolding low
  low-append front back = map-append (λ (x : ℕ). x % 2 ^ w) front back

  pub low-drop : (n : ℕ) (values : List ℕ) → low w (drop n values) ≡ drop n (low w values)
  unfolding low
  low-drop zero values = refl
  low-drop (suc n) [] = refl
  low-drop (suc n) (x ∷ values) = low-drop n values

  pub low_zeros : (n : ℕ) → low w (replicate n 0) ≡ replicate n 0
  unfolding low
  low_zeros zero = refl
  low_zeros (suc n) = ap₂ (λ (x : ℕ) (l : List ℕ). x ∷ l) (zero-mod (2 ^ w)) (low_zeros n)
