-- Document 01, "Layout in whole numbers": the rows of its table, and the row of document 02, wish 4, as one statement. Assumes nothing.
use Rattle.std.specs.Prelude.{◌≡◌, refl, ℕ, ◌^◌}
use Rattle.std.proofs.Math.Path.{sym, ap, ap₂}
use Rattle.std.proofs.Math.Bool.{cond}
use Rattle.std.proofs.Common.{lit≤}
use Rattle.capacity.specs.Capacity.{capacity_of, obeys}
use Rattle.capacity.specs.OneCapacity.{capacity_is}
use Rattle.layout.specs.declared.Layout.{Layout}
use Rattle.layout.specs.Layout.{reaches, exponent_of, count_of, layout_with, plain_of, halved_of, halves, layout_of}

-- L, count, count length, A
abbrev pub laid : ℕ → ℕ → ℕ → ℕ → Layout
laid l k s a = record { segment_length = l; segment_count = k; segment_count_length = s; array_length = a }

-- n keys have the capacity c, and p and q are their layouts on attempts 1 and 2
pub record Row (n c : ℕ) (p q : Layout) : Type 0 where
  pub capacity : capacity_of n ≡ c
  pub plain : layout_of n 1 ≡ p
  pub second : layout_of n 2 ≡ q

-- up to four keys there is no halved layout, and the second attempt has the plain one
pub record Rows : Type 0 where
  pub at_0 : Row 0 0 (laid 4 1 4 12) (laid 4 1 4 12)
  pub at_1 : Row 1 0 (laid 4 1 4 12) (laid 4 1 4 12)
  pub at_2 : Row 2 12 (laid 4 1 4 12) (laid 4 1 4 12)
  pub at_3 : Row 3 12 (laid 8 1 8 24) (laid 8 1 8 24)
  pub at_5 : Row 5 15 (laid 8 1 8 24) (laid 4 4 16 24)
  pub at_100 : Row 100 163 (laid 64 1 64 192) (laid 32 4 128 192)
  pub at_1000 : Row 1000 1375 (laid 128 9 1152 1408) (laid 64 20 1280 1408)
  pub at_4096 : Row 4096 5285 (laid 512 9 4608 5632) (laid 256 20 5120 5632)
  pub at_8192 : Row 8192 10308 (laid 512 19 9728 10752) (laid 256 40 10240 10752)

-- ---- a row follows from its capacity and its exponent

module _ (n c e : ℕ) (q : c ≡ capacity_of n) (r : exponent_of n ≡ e) where
  plain_is : plain_of n ≡ layout_with (2 ^ e) (count_of c (2 ^ e))
  unfolding plain_of
  plain_is = ap₂ (λ (x y : ℕ). layout_with (2 ^ x) (count_of y (2 ^ x))) r (sym q)

  pub row : let p = layout_with (2 ^ e) (count_of c (2 ^ e)) in Row n c (cond (halves n 1) (halved_of p) p) (cond (halves n 2) (halved_of p) p)
  unfolding layout_of
  row = record {
    capacity = sym q;
    plain = ap (λ (p : Layout). cond (halves n 1) (halved_of p) p) plain_is;
    second = ap (λ (p : Layout). cond (halves n 2) (halved_of p) p) plain_is;
  }

pub rows : Rows
unfolding capacity_of obeys exponent_of reaches halves
rows = record {
  at_0 = row 0 0 2 refl refl;
  at_1 = row 1 0 2 refl refl;
  at_2 = row 2 12 2 (capacity_is {n = 2} {c = 12} (lit≤ tt) tt) refl;
  at_3 = row 3 12 3 (capacity_is {n = 3} {c = 12} (lit≤ tt) tt) refl;
  at_5 = row 5 15 3 (capacity_is {n = 5} {c = 15} (lit≤ tt) tt) refl;
  at_100 = row 100 163 6 (capacity_is {n = 100} {c = 163} (lit≤ tt) tt) refl;
  at_1000 = row 1000 1375 7 (capacity_is {n = 1000} {c = 1375} (lit≤ tt) tt) refl;
  at_4096 = row 4096 5285 9 (capacity_is {n = 4096} {c = 5285} (lit≤ tt) tt) refl;
  at_8192 = row 8192 10308 9 (capacity_is {n = 8192} {c = 10308} (lit≤ tt) tt) refl;
}
