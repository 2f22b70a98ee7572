-- P of document 01's "Answers": `power_above` is the smallest power of two, at least 2, that is not below k, and P is not below the segment
-- count of any attempt.
-- Assumes nothing.
use Rattle.std.specs.Prelude.{◌≡◌, refl, Bool, true, false, cond, ◌&&◌, ℕ, ◌^◌, ◌≤◌, max, leb, ltb}
use Rattle.std.proofs.Common.{sym, ap, ⊎_elim, le_refl, le_trans, leb→le, le→leb, lit≤, arith}
use Rattle.std.proofs.Math.Nat.{le-max_left, le-max_right, max-le, max-eq_right}
use Rattle.capacity.specs.Capacity.{max_keys, first}
use Rattle.capacity.specs.First.{first_from, first_least, first_passes}
use Rattle.layout.specs.declared.Layout.{Layout}
use Rattle.layout.specs.Layout.{max_slots, plain_of, halved_of, halves, layout_of, power_above, bucket_starts_of}
use Rattle.layout.proofs.Fits.{layout_fits, count_small, two_layouts}

-- p is the smallest power of two, at least 2, that is not below k
pub record PowerAbove (k p : ℕ) : Type 0 where
  pub exponent : ℕ
  pub some : 1 ≤ exponent
  pub is : p ≡ 2 ^ exponent
  pub covers : k ≤ p
  pub least : (j : ℕ) → 1 ≤ j → k ≤ 2 ^ j → exponent ≤ j

pub power_above_lem : {k : ℕ} → k ≤ max_slots → PowerAbove k (power_above k)
unfolding power_above
power_above_lem {k} h =
    let covers : ℕ → Bool = λ j. leb k (2 ^ j) in
    let enough : k ≤ 2 ^ 31 = le_trans h (lit≤ tt) in
    record {
      exponent = first covers 31 1;
      some = first_from covers 31 1;
      is = refl;
      covers = leb→le k _ (first_passes covers 31 1 31 (lit≤ tt) (lit≤ tt) (le→leb k (2 ^ 31) enough));
      least = λ j some q. first_least covers 31 1 j some (le→leb k (2 ^ j) q);
    }

counts_small : {n : ℕ} → n ≤ max_keys → max (layout_of n 1).segment_count (layout_of n 2).segment_count ≤ max_slots
counts_small h = max-le (count_small (layout_fits 1 h)) (count_small (layout_fits 2 h))

pub starts_above : {n : ℕ} → n ≤ max_keys → PowerAbove (max (layout_of n 1).segment_count (layout_of n 2).segment_count) (bucket_starts_of n)
unfolding bucket_starts_of
starts_above h = power_above_lem (counts_small h)

pub starts_cover : {n : ℕ} (attempt : ℕ) → n ≤ max_keys → (layout_of n attempt).segment_count ≤ bucket_starts_of n
starts_cover {n} attempt h =
    let count : Layout → ℕ = λ l. l.segment_count in
    let all = (starts_above h).covers in
    ⊎_elim
    (λ e. rw e (le_trans (le-max_left (count (layout_of n 1)) (count (layout_of n 2))) all))
    (λ e. rw e (le_trans (le-max_right (count (layout_of n 1)) (count (layout_of n 2))) all))
    (two_layouts n attempt)

-- ---- the second attempt's count alone makes P

-- attempt 2 has no fewer segments than attempt 1
no_fewer : (n : ℕ) → (layout_of n 1).segment_count ≤ (layout_of n 2).segment_count
unfolding layout_of halves
no_fewer n = by_test (ltb 4 n) (plain_of n)
  where
    by_test : (b : Bool) (p : Layout) → (cond (b && false) (halved_of p) p).segment_count ≤ (cond (b && true) (halved_of p) p).segment_count
    by_test true p = omega arith
    by_test false p = le_refl _

pub starts_by_second : (n : ℕ) → power_above (layout_of n 2).segment_count ≡ bucket_starts_of n
unfolding bucket_starts_of
starts_by_second n = ap power_above (sym (max-eq_right (no_fewer n)))
