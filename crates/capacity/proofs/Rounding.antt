-- A large power of n against powers of ten, without computing it: n is raised to the fourth power again and again, and after each time only
-- the first ten to twenty digits are kept, once rounded down and once rounded up.
-- Assumes nothing.
use mathlib.Core.Path.{◌≡◌, refl, sym, ap, ◌∙◌, subst}
use mathlib.Core.Bool.{true, false}
use Prim.Native.Nat.{ℕ, zero, suc, ◌+◌, ◌*◌, ◌/◌, ◌^◌, ◌≤◌, ◌<◌}
use native.Mathlib.Nat.{div-mul-le_self, le_of_lt, le_trans, lt_irrefl, lt-mul-div-succ, lt_of_lt_of_le, lt_of_not-le, mul_assoc, mul_comm}
use native.Mathlib.Nat.{mul-le-mul, mul-le-mul_right, mul-mul-mul_comm, one-le-pow, pow-le-pow_left, pow-le-pow_right, pow-lt-pow_left, pow-suc}
use native.Mathlib.Nat.{pow-succ', zero-lt-suc}
use native.Mathlib.Omega.{arith}
use borrow.Author.Tests.{leb-true, leb-false}
use lib.Dec.{leb, ltb}
use lib.Pow.{pow-add}
use Rattle.capacity.specs.Powers.{pow_one, pow_mul, pow_swap}

-- low × 10^tens and high × 10^tens
pub record Rounded : Type 0 where
  pub low : ℕ
  pub high : ℕ
  pub tens : ℕ

-- how many digits to drop of q, below 10^80, so that at most twenty are left, and at least ten of more
abbrev dropped : ℕ → ℕ
dropped q =
    elim (ltb q (10 ^ 50)) [
      | true ↦ elim (ltb q (10 ^ 30)) [
        | true ↦ elim (ltb q (10 ^ 20)) [ true ↦ 0 | false ↦ 10 ]
        | false ↦ elim (ltb q (10 ^ 40)) [ true ↦ 20 | false ↦ 30 ]
      ]
      | false ↦ elim (ltb q (10 ^ 60)) [ true ↦ 40 | false ↦ elim (ltb q (10 ^ 70)) [ true ↦ 50 | false ↦ 60 ] ]
    ]

-- both, raised to the fourth power k times
unfoldable pub rounded : ℕ → ℕ → ℕ → ℕ → Rounded
rounded zero low high tens = record { low = low; high = high; tens = tens }
rounded (suc k) low high tens =
    let a = low * low in
    let b = high * high in
    let q = b * b in
    let j = dropped q in
    let d = 10 ^ j in
    rounded k (a * a / d) (q / d + 1) (tens + tens + (tens + tens) + j)

pub record Between (r : Rounded) (x : ℕ) : Type 0 where
  pub from : r.low * 10 ^ r.tens ≤ x
  pub to : x ≤ r.high * 10 ^ r.tens

-- ---- one fourth power

ten_positive : (k : ℕ) → 0 < 10 ^ k
ten_positive k = one-le-pow k 10 (zero-lt-suc 9)

squared : (m e : ℕ) → (m * 10 ^ e) * (m * 10 ^ e) ≡ m * m * 10 ^ (e + e)
squared m e = rw (pow-add 10 e e) (mul-mul-mul_comm m (10 ^ e) m (10 ^ e))

square_down : (m e x : ℕ) → m * 10 ^ e ≤ x → m * m * 10 ^ (e + e) ≤ x * x
square_down m e x h = subst (λ (y : ℕ). y ≤ x * x) (squared m e) (mul-le-mul h h)

square_up : (m e x : ℕ) → x ≤ m * 10 ^ e → x * x ≤ m * m * 10 ^ (e + e)
square_up m e x h = subst (λ (y : ℕ). x * x ≤ y) (squared m e) (mul-le-mul h h)

-- q with j more zeros
zeros : (q e j : ℕ) → q * 10 ^ (e + j) ≡ q * 10 ^ j * 10 ^ e
zeros q e j = ap (λ (y : ℕ). q * y) (pow-add 10 e j ∙ mul_comm (10 ^ e) (10 ^ j)) ∙ sym (mul_assoc q (10 ^ j) (10 ^ e))

drop_down : (q e j x : ℕ) → q * 10 ^ e ≤ x → q / 10 ^ j * 10 ^ (e + j) ≤ x
drop_down q e j x h = rw (zeros (q / 10 ^ j) e j) (le_trans (mul-le-mul_right (10 ^ e) (div-mul-le_self q (10 ^ j))) h)

drop_up : (q e j x : ℕ) → x ≤ q * 10 ^ e → x ≤ (q / 10 ^ j + 1) * 10 ^ (e + j)
drop_up q e j x h = rw (zeros (q / 10 ^ j + 1) e j) (le_trans h (mul-le-mul_right (10 ^ e) up))
  where
    up : q ≤ (q / 10 ^ j + 1) * 10 ^ j
    up = rw (mul_comm (q / 10 ^ j + 1) (10 ^ j)) (le_of_lt (lt-mul-div-succ q (ten_positive j)))

fourth_power : (x k : ℕ) → (x * x * (x * x)) ^ (4 ^ k) ≡ x ^ (4 ^ suc k)
fourth_power x k = ap (λ (y : ℕ). y ^ (4 ^ k)) four ∙ sym (pow_mul x 4 (4 ^ k)) ∙ ap (λ (y : ℕ). x ^ y) (sym (pow-succ' 4 k))
  where
    two : x * x ≡ x ^ 2
    two = ap (λ (y : ℕ). y * x) (sym (pow_one x)) ∙ sym (pow-suc x 1)

    four : x * x * (x * x) ≡ x ^ 4
    four = ap (λ (y : ℕ). y * y) two ∙ sym (pow-add x 2 2)

-- ---- k of them

pub between : (k low high tens x : ℕ) → low * 10 ^ tens ≤ x → x ≤ high * 10 ^ tens → Between (rounded k low high tens) (x ^ (4 ^ k))
unfolding rounded
between zero low high tens x from to = record { from = rw (pow_one x) from; to = rw (pow_one x) to }
between (suc k) low high tens x from to =
    let j = dropped (high * high * (high * high)) in
    let e = tens + tens in
    let y = x * x * (x * x) in
    let above = drop_down (low * low * (low * low)) (e + e) j y (square_down (low * low) e (x * x) (square_down low tens x from)) in
    let below = drop_up (high * high * (high * high)) (e + e) j y (square_up (high * high) e (x * x) (square_up high tens x to)) in
    rw (← fourth_power) (between k _ _ _ y above below)

-- ---- what a bound of n^s says of a smaller power

root : (x y s : ℕ) → 0 < s → x ^ s ≤ y ^ s → x ≤ y
root x y s some h =
    elim (leb x y) as (λ b. leb x y ≡ b → x ≤ y) [
      | true ↦ λ e. leb-true x y e
      | false ↦ λ e. absurd (lt_irrefl _ (lt_of_lt_of_le (pow-lt-pow_left (leb-false x y e) (λ z. lt_irrefl 0 (subst (λ (k : ℕ). 0 < k) z some))) h))
    ] refl

ten_mono : {i j : ℕ} → i ≤ j → 10 ^ i ≤ 10 ^ j
ten_mono h = pow-le-pow_right (zero-lt-suc 9) h

pub power_below : (n a u t s : ℕ) → 0 < s → n ^ s ≤ 10 ^ u → a * u ≤ t * s → n ^ a ≤ 10 ^ t
power_below n a u t s some h l =
    root (n ^ a) (10 ^ t) s some
    (rw (pow_swap n a s, ← pow_mul 10 t s) (le_trans (pow-le-pow_left h a) (rw (← pow_mul 10 u a, mul_comm u a) (ten_mono l))))

pub power_above_lem : (n a u t s : ℕ) → 10 ^ u ≤ n ^ s → t * s < a * u → 10 ^ t < n ^ a
power_above_lem n a u t s h l =
    lt_of_not-le (λ q. lt_irrefl (10 ^ (t * s)) (omega (arith, ten_positive (t * s), pow-suc 10 (t * s), le_trans (ten_mono l) (chain q))))
  where
    chain : n ^ a ≤ 10 ^ t → 10 ^ (a * u) ≤ 10 ^ (t * s)
    chain q =
        rw (mul_comm a u, pow_mul 10 u a) (le_trans (pow-le-pow_left h a) (rw (pow_swap n s a, pow_mul 10 t s) (pow-le-pow_left q s)))
