-- The segment length's exponent is the greatest of all numbers that reach (document 01, "Layout in whole numbers"), and grows with n.
-- Assumes nothing.
use Rattle.std.specs.Prelude.{◌≡◌, refl, Bool, true, false, ℕ, zero, suc, ◌+◌, ◌-◌, ◌*◌, ◌^◌, ◌≤◌, ◌<◌, T, leb}
use Rattle.std.proofs.Common.{sym, ap, ◌∙◌, subst, ⊎_elim, eq-or-lt_of_le, le_antisymm, le_of_eq, le_of_mul-le-mul_right, le_refl, le_trans, mul_assoc, mul-le-mul_left, mul-le-mul_right, arith, leb-true, leb-false, leb→le, le→leb, lit≤, pow-add}
use Rattle.std.proofs.Math.Nat.{pow-le-pow_left}
use Rattle.capacity.specs.Capacity.{max_keys}
use Rattle.layout.specs.Layout.{reaches, greatest, exponent_of}

-- the exponent at `max_keys`
abbrev pub max_exponent : ℕ
max_exponent = 9

-- ---- the greatest of k numbers

greatest_from : (passes : ℕ → Bool) (k : ℕ) → 2 ≤ greatest passes k
greatest_from passes zero = le_refl 2
greatest_from passes (suc k) =
    elim (passes (3 + k)) as (λ b. 2 ≤ (elim b as (λ _. ℕ) [ true ↦ 3 + k | false ↦ greatest passes k ])) [
      | true ↦ omega arith
      | false ↦ greatest_from passes k
    ]

greatest_to : (passes : ℕ → Bool) (k : ℕ) → greatest passes k ≤ 2 + k
greatest_to passes zero = le_refl 2
greatest_to passes (suc k) =
    elim (passes (3 + k)) as (λ b. (elim b as (λ _. ℕ) [ true ↦ 3 + k | false ↦ greatest passes k ]) ≤ 2 + suc k) [
      | true ↦ omega arith
      | false ↦ omega (arith, greatest_to passes k)
    ]

greatest_passes : (passes : ℕ → Bool) (k : ℕ) → 3 ≤ greatest passes k → T (passes (greatest passes k))
greatest_passes passes zero h = absurd (omega arith)
greatest_passes passes (suc k) h = by_test (passes (3 + k)) refl h (greatest_passes passes k)
  where
    by_test : (b : Bool) → passes (3 + k) ≡ b → 3 ≤ (elim b as (λ _. ℕ) [ true ↦ 3 + k | false ↦ greatest passes k ])
        → (3 ≤ greatest passes k → T (passes (greatest passes k)))
        → T (passes (elim b as (λ _. ℕ) [ true ↦ 3 + k | false ↦ greatest passes k ]))
    by_test true e q rest = subst T (sym e) tt
    by_test false e q rest = rest q

greatest_least : (passes : ℕ → Bool) (k e : ℕ) → 3 ≤ e → e ≤ 2 + k → T (passes e) → e ≤ greatest passes k
greatest_least passes zero e from to t = omega arith
greatest_least passes (suc k) e from to t = by_test (passes (3 + k)) refl (λ less. greatest_least passes k e from less t)
  where
    by_test : (b : Bool) → passes (3 + k) ≡ b → (e ≤ 2 + k → e ≤ greatest passes k)
        → e ≤ (elim b as (λ _. ℕ) [ true ↦ 3 + k | false ↦ greatest passes k ])
    by_test true q rest = omega arith
    by_test false q rest =
        rest
        (⊎_elim (λ w. let last : e ≡ 3 + k = omega arith in absurd (subst T (ap passes last ∙ q) t)) (λ w. omega arith) (eq-or-lt_of_le to))

-- ---- the greatest of all

pub exponent_from : (n : ℕ) → 2 ≤ exponent_of n
unfolding exponent_of
exponent_from n = greatest_from (reaches n) 16

pub exponent_reaches : (n : ℕ) → 3 ≤ exponent_of n → T (reaches n (exponent_of n))
unfolding exponent_of
exponent_reaches n h = greatest_passes (reaches n) 16 h

-- what reaches at one size does so at every greater size, and with it every smaller exponent
reaches_more : {n m : ℕ} (e : ℕ) → n ≤ m → T (reaches n e) → T (reaches m e)
unfolding reaches
reaches_more {n} {m} e h t =
    le→leb _ _
    (le_trans (leb→le (333 ^ (4 * e - 9)) (n ^ 4 * 100 ^ (4 * e - 9)) t) (mul-le-mul_right (100 ^ (4 * e - 9)) (pow-le-pow_left h 4)))

reaches_less : (n e : ℕ) → 3 ≤ e → T (reaches n (suc e)) → T (reaches n e)
unfolding reaches
reaches_less n e h t =
    let k = 4 * e - 9 in
    let four-more : 4 * suc e - 9 ≡ k + 4 = omega arith in
    let a : 333 ^ (k + 4) ≤ n ^ 4 * 100 ^ (k + 4) = subst (λ (x : ℕ). 333 ^ x ≤ n ^ 4 * 100 ^ x) four-more (leb→le _ _ t) in
    let regrouped : n ^ 4 * 100 ^ (k + 4) ≡ n ^ 4 * 100 ^ k * 100 ^ 4
    = ap (λ (x : ℕ). n ^ 4 * x) (pow-add 100 k 4) ∙ sym (mul_assoc (n ^ 4) (100 ^ k) (100 ^ 4)) in
    le→leb (333 ^ k) (n ^ 4 * 100 ^ k)
    (le_of_mul-le-mul_right {k = 333 ^ 4}
    (le_trans (le_of_eq (sym (pow-add 333 k 4))) (le_trans a (le_trans (le_of_eq regrouped) (mul-le-mul_left (n ^ 4 * 100 ^ k) (lit≤ tt)))))
    (lit≤ tt))

none_above_18 : (n j : ℕ) → n ≤ max_keys → T (reaches n (19 + j)) → ⊥
unfolding reaches
none_above_18 n zero h t = reaches_more 19 h t
none_above_18 n (suc j) h t = none_above_18 n j h (reaches_less n (19 + j) (omega arith) (subst (λ (x : ℕ). T (reaches n x)) (omega arith) t))

pub exponent_greatest : (n e : ℕ) → n ≤ max_keys → 3 ≤ e → T (reaches n e) → e ≤ exponent_of n
unfolding exponent_of
exponent_greatest n e h from t =
    elim (leb e 18) as (λ b. leb e 18 ≡ b → e ≤ exponent_of n) [
      | true ↦ λ q. greatest_least (reaches n) 16 e from (leb-true e 18 q) t
      | false ↦ λ q. absurd (none_above_18 n (e - 19) h (subst (λ (x : ℕ). T (reaches n x)) (omega (arith, leb-false e 18 q)) t))
    ] refl

-- ---- it grows with n, so that it is known between two sizes at which it is the same

greatest_more : (f g : ℕ → Bool) → ((e : ℕ) → T (f e) → T (g e)) → (k : ℕ) → greatest f k ≤ greatest g k
greatest_more f g h zero = le_refl 2
greatest_more f g h (suc k) = by_tests (f (3 + k)) (g (3 + k)) (h (3 + k)) (greatest_more f g h k)
  where
    by_tests : (a b : Bool) → (T a → T b) → greatest f k ≤ greatest g k
        → (elim a as (λ _. ℕ) [ true ↦ 3 + k | false ↦ greatest f k ]) ≤ (elim b as (λ _. ℕ) [ true ↦ 3 + k | false ↦ greatest g k ])
    by_tests true true q rest = le_refl (3 + k)
    by_tests true false q rest = absurd (q tt)
    by_tests false true q rest = omega (arith, greatest_to f k)
    by_tests false false q rest = rest

pub exponent_more : {n m : ℕ} → n ≤ m → exponent_of n ≤ exponent_of m
unfolding exponent_of
exponent_more {n} {m} h = greatest_more (reaches n) (reaches m) (λ e t. reaches_more e h t) 16

pub exponent_between : (lo hi e : ℕ) {n : ℕ} → lo ≤ n → n ≤ hi → exponent_of lo ≡ e → exponent_of hi ≡ e → exponent_of n ≡ e
exponent_between lo hi e l h p q = le_antisymm (le_trans (exponent_more h) (le_of_eq q)) (le_trans (le_of_eq (sym p)) (exponent_more l))

pub exponent_to : {n : ℕ} → n ≤ max_keys → exponent_of n ≤ max_exponent
unfolding exponent_of reaches
exponent_to {n} h = exponent_more {n = n} {m = max_keys} h

-- the sizes that have a halved layout
pub exponent_above_four : {n : ℕ} → 4 < n → 3 ≤ exponent_of n
unfolding exponent_of reaches
exponent_above_four {n} h = exponent_more {n = 5} {m = n} h
