-- Document 01's rule allows one capacity only: two numbers that obey it for the same n are equal, and `capacity_of` finds that number.
-- Each size up to `max_keys` has one: that is `EverySize`, at the end, whose proof is the test of the table (proofs/EverySize.antt).
-- Assumes nothing.
use Rattle.std.specs.Prelude.{◌≡◌, ℕ, ◌*◌, ◌^◌, ◌≤◌, ◌<◌, T, leb, ltb}
use Rattle.std.proofs.Common.{sym, le_antisymm, le_of_eq, le_trans, lt_irrefl, lt_of_le_of_lt, lt_of_lt_of_le, lt_of_not-le, arith, le-ltb, leb→le, le→leb, ltb→lt, lt→ltb, lit<}
use Rattle.std.proofs.Math.Nat.{pow-le-pow_left, pow-le-pow_right, pow-lt-pow_left}
use Rattle.std.proofs.Math.Facts.{and_yes, yes_and}
use Rattle.capacity.specs.Capacity.{max_keys, lower, upper, obeys, first, capacity_of, Capacity}
use Rattle.capacity.specs.First.{first_passes}
use Rattle.capacity.specs.Powers.{pow_mul}

-- the rule as two orders
pub record Orders (n c : ℕ) : Type 0 where
  pub low : n ^ lower n c ≤ 10 ^ (12 * n)
  pub high : 10 ^ (12 * n) < n ^ upper n c

pub orders : {n c : ℕ} → T (obeys n c) → Orders n c
unfolding obeys
orders {n} {c} t =
    let both = and_yes (leb (n ^ lower n c) (10 ^ (12 * n))) (ltb (10 ^ (12 * n)) (n ^ upper n c)) t in
    record { low = leb→le _ _ both.0; high = ltb→lt _ _ both.1 }

pub obeyed : {n c : ℕ} → Orders n c → T (obeys n c)
unfolding obeys
obeyed {n} {c} o =
    yes_and (leb (n ^ lower n c) (10 ^ (12 * n))) (ltb (10 ^ (12 * n)) (n ^ upper n c)) (le→leb _ _ o.low) (lt→ltb _ _ o.high)

-- ---- at most one

not_above : {n a b : ℕ} → 1 ≤ n → Orders n a → Orders n b → b ≤ a
not_above {n} {a} {b} some oa ob =
    let apart : lower n b < upper n a
    = lt_of_not-le (λ h. lt_irrefl _ (lt_of_le_of_lt (le_trans (pow-le-pow_right some h) ob.low) oa.high)) in
    omega arith

pub one_capacity : {n a b : ℕ} → 1 ≤ n → T (obeys n a) → T (obeys n b) → a ≡ b
one_capacity {n} some ta tb =
    let oa = orders {n = n} ta in
    let ob = orders {n = n} tb in
    le_antisymm (not_above some ob oa) (not_above some oa ob)

-- ---- `capacity_of` finds it: it is below 8n, since 2^40 is above 10^12

far_above : {n : ℕ} → 2 ≤ n → 10 ^ (12 * n) < n ^ (40 * n)
far_above {n} two =
    lt_of_lt_of_le
    (rw (pow_mul 10 12 n) (pow-lt-pow_left {a = 10 ^ 12} {b = 2 ^ 40} (lit< tt) (λ none. lt_irrefl n (omega arith))))
    (le_trans (le_of_eq (sym (pow_mul 2 40 n))) (pow-le-pow_left two (40 * n)))

in_reach : {n c : ℕ} → 2 ≤ n → Orders n c → c < 8 * n
in_reach {n} {c} two o =
    lt_of_not-le (λ far.
    let wide : 40 * n ≤ lower n c = omega arith in
    let some : 0 < n = omega arith in
    lt_irrefl _ (lt_of_lt_of_le (far_above two) (le_trans (pow-le-pow_right some wide) o.low)))

pub capacity_is : {n c : ℕ} → 2 ≤ n → T (obeys n c) → c ≡ capacity_of n
unfolding capacity_of
capacity_is {n} {c} two t =
    let reach = in_reach two (orders {n = n} t) in
    let found : T (obeys n (first (obeys n) (8 * n) 0)) = first_passes (obeys n) (8 * n) 0 c (omega arith) (omega arith) t in
    simp (le-ltb _ _ two) (one_capacity {n = n} (omega arith) t found)

-- ---- and up to the limit there is one, which the table holds

abbrev pub EverySize : Type 0
EverySize = (n : ℕ) → n ≤ max_keys → Capacity n (capacity_of n)
