-- Document 01, "Layout in whole numbers": the capacity of n keys; and document 02, wish 4: the limit on keys.
-- Assumes nothing.
use Rattle.std.specs.Prelude.{◌≡◌, ℕ, zero, suc, ◌+◌, ◌-◌, ◌*◌, ◌^◌, ◌≤◌, Bool, true, false, cond, ◌&&◌, T, leb, ltb}

-- the most keys, and the capacity there, which no smaller size exceeds
abbrev pub max_keys : ℕ
max_keys = 8192

abbrev pub max_capacity : ℕ
max_capacity = 10308

-- The exponents of the rule, 8c - 7n - 4 and 8c - 7n + 4. One below zero counts as 0, which changes no answer: a power of n below zero is,
-- as n^0, at most 1, and so at most 10^(12n).
abbrev pub lower : ℕ → ℕ → ℕ
lower n c = 8 * c - (7 * n + 4)

abbrev pub upper : ℕ → ℕ → ℕ
upper n c = 8 * c + 4 - 7 * n

-- n^(8c-7n-4) ≤ 10^(12n) < n^(8c-7n+4)
unfoldable pub obeys : ℕ → ℕ → Bool
obeys n c = leb (n ^ lower n c) (10 ^ (12 * n)) && ltb (10 ^ (12 * n)) (n ^ upper n c)

-- the first of the k numbers from c on that passes the test, and the number after them where none does
abbrev pub first : (ℕ → Bool) → ℕ → ℕ → ℕ
first passes zero c = c
first passes (suc k) c = elim (passes c) [ true ↦ c | false ↦ first passes k (suc c) ]

-- 0 for n below 2, and otherwise the number that obeys the rule. (No more than one does, and it is below 8n: OneCapacity.antt.)
unfoldable pub capacity_of : ℕ → ℕ
capacity_of n = cond (ltb n 2) 0 (first (obeys n) (8 * n) 0)

-- what is promised of the capacity c of n keys
pub record Capacity (n c : ℕ) : Type 0 where
  pub is : c ≡ capacity_of n
  pub rule : 2 ≤ n → T (obeys n c)
  pub small : c ≤ max_capacity
