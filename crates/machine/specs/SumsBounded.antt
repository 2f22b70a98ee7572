-- Counts do not wrap: a slot's count is at most the number of keys, and the xors stay within the width of the hashes and positions.
-- Assumes nothing.
use Rattle.std.specs.Prelude.{Bool, true, false, cond, List, [], ◌∷◌, length, eqb}
use Prim.Native.Nat.{ℕ, suc, ◌+◌, ◌^◌, ◌≤◌, ◌<◌, zero-le, suc-le-suc}
use Rattle.std.proofs.Math.Nat.{le_of_suc-le-suc}
use Rattle.std.proofs.Common.{arith, pow_pos}
use Rattle.std.proofs.Math.Decide.{dec_lt}
use Rattle.std.proofs.Math.ListN.{get_or, get_or-eq_default}
use Rattle.std.specs.Int.Bits.{bit_xor}
use Rattle.std.proofs.lemmas.Nat.{xor_lt}
use Rattle.std.proofs.Math.Dec.{lit<}
use Rattle.stuck.specs.Stuck.{Slots}
use Rattle.machine.specs.Machine.{share, total_all, table, sums_of}
use Rattle.machine.specs.Start.{table_at, table-length}

total_at_most : (f : ℕ → ℕ) → ((h : ℕ) → f h ≤ 1) → (hs : List ℕ) → total_all ◌+◌ f hs ≤ length hs
unfolding total_all
total_at_most f one [] = omega arith
total_at_most f one (h ∷ hs) = omega (arith, total_at_most f one hs, one h)

total_below : (f : ℕ → ℕ) (width : ℕ) (hs : List ℕ) → ((i : ℕ) → i < length hs → f (get_or hs i 0) < 2 ^ width) → total_all bit_xor f hs < 2 ^ width
unfolding total_all
total_below f width [] small = pow_pos width
total_below f width (h ∷ hs) small =
    xor_lt width (f h) (total_all bit_xor f hs) (small 0 (suc-le-suc zero-le)) (total_below f width hs (λ i lt. small (suc i) (suc-le-suc lt)))

share_below : (t : Slots) (s : ℕ) (g : ℕ → ℕ) (bound : ℕ) → 0 < bound → ((q : ℕ) → q < 3 → g q < bound) → share t s g < bound
unfolding share
share_below t s g bound pos small = by (eqb t.s0 s) (eqb t.s1 s) (eqb t.s2 s)
  where
    by : (a b c : Bool) → cond a (g 0) (cond b (g 1) (cond c (g 2) 0)) < bound
    by true b c = small 0 (lit< tt)
    by false true c = small 1 (lit< tt)
    by false false true = small 2 (lit< tt)
    by false false false = pos

-- a number of the table, or 0 beyond it
table_below : (n : ℕ) (f : ℕ → ℕ) (s bound : ℕ) → 0 < bound → f s < bound → get_or (table 0 n f) s 0 < bound
table_below n f s bound pos small = by (dec_lt s n)
  where
    by : Dec (s < n) → get_or (table 0 n f) s 0 < bound
    by (yes lt) = rw (table_at n f s lt) small
    by (no ge) = rw (get_or-eq_default (table 0 n f) 0 {n = s} (omega (arith, table-length 0 n f))) pos

module _ (slots : ℕ → Slots) (n : ℕ) (hs : List ℕ) (s : ℕ) where
  pub count_at_most : get_or (sums_of slots n hs).counts s 0 ≤ length hs
  unfolding sums_of
  count_at_most =
      le_of_suc-le-suc (table_below n (λ s. total_all ◌+◌ (λ h. share (slots h) s (λ q. 1)) hs) s (suc (length hs)) (suc-le-suc zero-le)
      (suc-le-suc (total_at_most (λ h. share (slots h) s (λ q. 1)) one hs)))
    where
      one : (h : ℕ) → share (slots h) s (λ q. 1) ≤ 1
      one h = le_of_suc-le-suc (share_below (slots h) s (λ q. 1) 2 (lit< tt) (λ q lt. lit< tt))

  pub hash_below : (width : ℕ) → ((i : ℕ) → i < length hs → get_or hs i 0 < 2 ^ width) → get_or (sums_of slots n hs).hashes s 0 < 2 ^ width
  unfolding sums_of
  hash_below width small =
      table_below n (λ s. total_all bit_xor (λ h. share (slots h) s (λ q. h)) hs) s (2 ^ width) (pow_pos width)
      (total_below (λ h. share (slots h) s (λ q. h)) width hs
      (λ i lt. share_below (slots (get_or hs i 0)) s (λ q. get_or hs i 0) (2 ^ width) (pow_pos width) (λ q q-lt. small i lt)))

  pub position_below : get_or (sums_of slots n hs).positions s 0 < 4
  unfolding sums_of
  position_below =
      table_below n (λ s. total_all bit_xor (λ h. share (slots h) s (λ q. q)) hs) s (2 ^ 2) (pow_pos 2)
      (total_below (λ h. share (slots h) s (λ q. q)) 2 hs (λ i lt. share_below (slots (get_or hs i 0)) s (λ q. q) (2 ^ 2) (pow_pos 2) (λ q q-lt. omega arith)))
