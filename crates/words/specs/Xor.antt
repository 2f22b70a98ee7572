-- The xor of two numbers: the laws that the library has not. Assumes nothing.
use Rattle.std.specs.Prelude.{◌≡◌, ℕ, zero, suc, ◌+◌, ◌*◌, ◌/◌, ◌%◌, ◌^◌, ◌<◌, bit_xor, refl}
use Rattle.std.proofs.Common.{sym, ap, ap₂, ◌∙◌, mod-lt, arith}
use Rattle.std.proofs.Math.Nat.{div-eq_of_lt}
use Rattle.std.proofs.Math.Arith.{bin_ind, digits_mod}
use Rattle.std.specs.Int.Bits.{differ, xor_step, xor_self, xor_zero_l, xor_zero_r}
use Rattle.std.proofs.lemmas.Nat.{xor_shr, xor_comm}

-- ---- associative: digit by digit, where it is a table of eight rows

differ-lt : (x y : ℕ) → x < 2 → y < 2 → differ x y < 2
differ-lt zero y hx hy = hy
differ-lt (suc zero) zero hx hy = hx
differ-lt (suc zero) (suc zero) hx hy = omega arith
differ-lt (suc zero) (suc (suc y)) hx hy = omega arith
differ-lt (suc (suc x)) y hx hy = omega arith

differ_assoc : (x y z : ℕ) → x < 2 → y < 2 → z < 2 → differ (differ x y) z ≡ differ x (differ y z)
differ_assoc zero y z hx hy hz = refl
differ_assoc (suc zero) zero z hx hy hz = refl
differ_assoc (suc zero) (suc zero) zero hx hy hz = refl
differ_assoc (suc zero) (suc zero) (suc zero) hx hy hz = refl
differ_assoc (suc zero) (suc zero) (suc (suc z)) hx hy hz = omega arith
differ_assoc (suc zero) (suc (suc y)) z hx hy hz = omega arith
differ_assoc (suc (suc x)) y z hx hy hz = omega arith

bit-lt : (n : ℕ) → n % 2 < 2
bit-lt n = mod-lt n (omega arith)

xor_half : (a b : ℕ) → bit_xor a b / 2 ≡ bit_xor (a / 2) (b / 2)
xor_half a b = xor_shr a b 1

xor_odd : (a b : ℕ) → bit_xor a b % 2 ≡ differ (a % 2) (b % 2)
xor_odd a b =
    ap (λ (x : ℕ). x % 2) (xor_step a b) ∙ digits_mod (bit_xor (a / 2) (b / 2)) (differ-lt (a % 2) (b % 2) (bit-lt a) (bit-lt b))

pub xor_assoc : (a b c : ℕ) → bit_xor (bit_xor a b) c ≡ bit_xor a (bit_xor b c)
xor_assoc a =
    bin_ind (λ (n : ℕ). (b c : ℕ) → bit_xor (bit_xor n b) c ≡ bit_xor n (bit_xor b c)) (λ b c. refl)
    (λ n ih b c.
    xor_step (bit_xor n b) c
    ∙ ap₂ (λ (x y : ℕ). bit_xor x (c / 2) * 2 + differ y (c % 2)) (xor_half n b) (xor_odd n b)
    ∙ ap₂ (λ (x y : ℕ). x * 2 + y) (ih (b / 2) (c / 2)) (differ_assoc (n % 2) (b % 2) (c % 2) (bit-lt n) (bit-lt b) (bit-lt c))
    ∙ ap₂ (λ (x y : ℕ). bit_xor (n / 2) x * 2 + differ (n % 2) y) (sym (xor_half b c)) (sym (xor_odd b c))
    ∙ sym (xor_step n (bit_xor b c)))
    a

pub xor_left_comm : (a b c : ℕ) → bit_xor a (bit_xor b c) ≡ bit_xor b (bit_xor a c)
xor_left_comm a b c = sym (xor_assoc a b c) ∙ ap (λ (z : ℕ). bit_xor z c) (xor_comm a b) ∙ xor_assoc b a c

-- ---- a number xored in twice is gone

pub xor_cancel_left : (a b : ℕ) → bit_xor a (bit_xor a b) ≡ b
xor_cancel_left a b = sym (xor_assoc a a b) ∙ ap (λ (z : ℕ). bit_xor z b) (xor_self a) ∙ xor_zero_l b

pub xor_cancel_right : (a b : ℕ) → bit_xor (bit_xor a b) b ≡ a
xor_cancel_right a b = xor_assoc a b b ∙ ap (bit_xor a) (xor_self b) ∙ xor_zero_r a

-- ---- above a power of two: what is below 2 ^ k changes the k low digits only

pub xor_above : (k a b : ℕ) → b < 2 ^ k → bit_xor a b / 2 ^ k ≡ a / 2 ^ k
xor_above k a b h = xor_shr a b k ∙ ap (bit_xor (a / 2 ^ k)) (div-eq_of_lt h) ∙ xor_zero_r (a / 2 ^ k)
