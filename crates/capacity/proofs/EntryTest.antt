-- The test of one entry of the table, and of all: a list that passes it holds the capacity at each place.
-- Assumes nothing.
use mathlib.Core.Path.{◌≡◌, refl, sym, ◌∙◌, subst}
use mathlib.Core.Bool.{Bool, true, false, ◌&&◌}
use mathlib.Core.List.{List, [], ◌∷◌}
use Prim.Native.Nat.{ℕ, zero, suc, ◌+◌, ◌*◌, ◌^◌, ◌≤◌, ◌<◌}
use native.Mathlib.Nat.{add-suc, add-zero, le_of_suc-le-suc, le_refl, le_trans, mul_comm, mul-le-mul_right, mul-one, not-le_of_lt, not-suc-le-zero}
use native.Mathlib.Nat.{one-mul, pow-zero, suc-add, zero-add}
use borrow.Author.Tests.{ltb-false, ltb-true}
use lib.Dec.{T, eqb, leb, ltb, eqb→eq, leb→le, ltb→lt, lit<}
use lib.ListN.{length, get_or}
use lib.Pow.{pow-add}
use mir.Facts.{and_yes}
use Rattle.capacity.specs.Capacity.{max_capacity, lower, upper, obeys, capacity_of, Capacity}
use Rattle.capacity.specs.OneCapacity.{obeyed, capacity_is}
use Rattle.capacity.proofs.Rounding.{Rounded, Between, rounded, between, power_below, power_above_lem}

-- ---- the rule, by the two sides of n^(4^rounds)

-- so many that no size above 100 is left open, up to `max_keys`
abbrev rounds : ℕ
rounds = 15

abbrev sides : ℕ → Rounded
sides n = rounded rounds n n 0

abbrev low? : ℕ → ℕ → Rounded → Bool
low? n c r = leb r.high (10 ^ 20) && leb (lower n c * (r.tens + 20)) (12 * n * 4 ^ rounds)

abbrev high? : ℕ → ℕ → Rounded → Bool
high? n c r = ltb 0 r.low && ltb (12 * n * 4 ^ rounds) (upper n c * r.tens)

abbrev near : ℕ → ℕ → Rounded → Bool
near n c r = low? n c r && high? n c r

-- the rule itself is computed where the sides leave it open: at some small sizes, and at 100, where it holds with equality
unfoldable pub ruled : ℕ → ℕ → Bool
ruled n c = elim (near n c (sides n)) [ true ↦ true | false ↦ obeys n c ]

module _ (n c : ℕ) (r : Rounded) (b : Between r (n ^ (4 ^ rounds))) where
  low_holds : T (low? n c r) → n ^ lower n c ≤ 10 ^ (12 * n)
  low_holds t =
      let both = and_yes (leb r.high (10 ^ 20)) (leb (lower n c * (r.tens + 20)) (12 * n * 4 ^ rounds)) t in
      power_below n _ (r.tens + 20) (12 * n) (4 ^ rounds) (lit< tt)
      (le_trans b.to (rw (pow-add 10 r.tens 20, mul_comm (10 ^ r.tens) (10 ^ 20)) (mul-le-mul_right (10 ^ r.tens) (leb→le _ _ both.0))))
      (leb→le _ _ both.1)

  high_holds : T (high? n c r) → 10 ^ (12 * n) < n ^ upper n c
  high_holds t =
      let both = and_yes (ltb 0 r.low) (ltb (12 * n * 4 ^ rounds) (upper n c * r.tens)) t in
      let tens = 10 ^ r.tens in
      let some : tens ≤ r.low * tens = subst (λ (y : ℕ). y ≤ r.low * tens) (one-mul tens) (mul-le-mul_right tens (ltb→lt _ _ both.0)) in
      power_above_lem n _ r.tens (12 * n) (4 ^ rounds) (le_trans some b.from) (ltb→lt _ _ both.1)

  near-obeys : T (near n c r) → T (obeys n c)
  near-obeys t =
      let both = and_yes (low? n c r) (high? n c r) t in
      obeyed {n = n} {c = c} (record { low = low_holds both.0; high = high_holds both.1 })

sides-between : (n : ℕ) → Between (sides n) (n ^ (4 ^ rounds))
sides-between n = between rounds n n 0 n (rw (pow-zero, mul-one) (le_refl n)) (rw (pow-zero, mul-one) (le_refl n))

ruled-obeys : (n c : ℕ) → T (ruled n c) → T (obeys n c)
unfolding ruled
ruled-obeys n c t = by_test (near n c (sides n)) refl t
  where
    by_test : (b : Bool) → near n c (sides n) ≡ b → T (elim b [ true ↦ true | false ↦ obeys n c ]) → T (obeys n c)
    by_test true e t = near-obeys n c (sides n) (sides-between n) (subst T (sym e) tt)
    by_test false e t = t

-- ---- one entry

-- the entry c at the place n
unfoldable pub right : ℕ → ℕ → Bool
right n c = leb c max_capacity && elim (ltb n 2) [ true ↦ eqb c 0 | false ↦ ruled n c ]

right_capacity : (n c : ℕ) → T (right n c) → Capacity n c
unfolding right capacity_of
right_capacity n c t = by_test (ltb n 2) refl both.1
  where
    both : T (leb c max_capacity) × T (elim (ltb n 2) [ true ↦ eqb c 0 | false ↦ ruled n c ])
    both = and_yes (leb c max_capacity) (elim (ltb n 2) [ true ↦ eqb c 0 | false ↦ ruled n c ]) t

    by_test : (b : Bool) → ltb n 2 ≡ b → T (elim b [ true ↦ eqb c 0 | false ↦ ruled n c ]) → Capacity n c
    by_test true e q = record { is = simp e (eqb→eq c 0 q); rule = λ two. absurd (not-le_of_lt (ltb-true n 2 e) two); small = leb→le _ _ both.0 }
    by_test false e q =
        let obeys-it = ruled-obeys n c q in
        record { is = capacity_is {n = n} (ltb-false n 2 e) obeys-it; rule = λ two. obeys-it; small = leb→le _ _ both.0 }

-- ---- all entries

-- the test passes at each place, counted from n, and its entry
abbrev pub every : (ℕ → ℕ → Bool) → ℕ → List ℕ → Bool
every test n [] = true
every test n (c ∷ cs) = test n c && every test (suc n) cs

every_at : (test : ℕ → ℕ → Bool) (cs : List ℕ) (n : ℕ) → T (every test n cs) → (k : ℕ) → k < length cs → T (test (n + k) (get_or cs k 0))
every_at test [] n t k h = absurd (not-suc-le-zero h)
every_at test (c ∷ cs) n t zero h = subst (λ (m : ℕ). T (test m c)) (sym (add-zero n)) (and_yes (test n c) (every test (suc n) cs) t).0
every_at test (c ∷ cs) n t (suc k) h =
    subst (λ (m : ℕ). T (test m (get_or cs k 0))) (suc-add n k ∙ sym (add-suc n k))
    (every_at test cs (suc n) (and_yes (test n c) (every test (suc n) cs) t).1 k (le_of_suc-le-suc h))

pub every_capacity : (cs : List ℕ) → T (every right 0 cs) → (n : ℕ) → n < length cs → Capacity n (get_or cs n 0)
every_capacity cs t n h =
    right_capacity n (get_or cs n 0) (subst (λ (m : ℕ). T (right m (get_or cs n 0))) (zero-add n) (every_at right cs 0 t n h))
