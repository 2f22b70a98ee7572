-- Document 02, wish 3: a whole number divided by d, d above zero, and rounded down; and the number modulo d. `pos n` is n, `negsuc n` is
-- -(n + 1). The two records say what a floor and a remainder are, without the definitions; `FloorLaws` proves that the number defined here
-- fits, and no other. Assumes nothing.
use Rattle.std.specs.Prelude.{◌≡◌, ℕ, ◌-◌, ◌/◌, ◌%◌, ◌<◌, ℤ, pos, negsuc, ◌+ℤ◌, ◌*ℤ◌, ◌≤ℤ◌, ◌<ℤ◌}

-- from -1 down to -d it is -1: n is below d there, so n / d is 0
abbrev pub floor_div : (s : ℤ) (d : ℕ) → ℤ
floor_div (pos n) d = pos (n / d)
floor_div (negsuc n) d = negsuc (n / d)

-- of -1 it is d - 1, of -d it is 0
abbrev pub modulo : (s : ℤ) (d : ℕ) → ℕ
modulo (pos n) d = n % d
modulo (negsuc n) d = d - 1 - n % d

-- q is the floor of s / d: q × d ≤ s < (q + 1) × d
pub record IsFloor (s : ℤ) (d : ℕ) (q : ℤ) : Type 0 where
  pub reached : (q *ℤ pos d) ≤ℤ s
  pub not_passed : s <ℤ ((q +ℤ pos 1) *ℤ pos d)

-- r is s modulo d: below d, and s less r is a multiple of d
pub record IsModulo (s : ℤ) (d r : ℕ) : Type 0 where
  pub below : r < d
  pub times : ℤ
  pub is : times *ℤ pos d +ℤ pos r ≡ s
