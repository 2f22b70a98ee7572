-- While the segment length stays the same, more keys need no fewer slots and no fewer bucket starts.
-- Assumes nothing.
use Rattle.std.specs.Prelude.{◌≡◌, refl, Bool, true, false, cond, ◌&&◌, ℕ, ◌+◌, ◌-◌, ◌%◌, ◌^◌, ◌≤◌, ltb, eqb}
use Rattle.std.proofs.Common.{div-mul-le_self, le-div_iff_mul-le, le_refl, le_trans, mul-le-mul_right, arith, ltb-true, ltb-false, pow_mono, pow_pos}
use Rattle.std.proofs.Math.Nat.{le-max_left, le-max_right, max-le}
use Rattle.capacity.specs.Capacity.{max_keys}
use Rattle.capacity.proofs.Rising.{rising}
use Rattle.layout.specs.Layout.{exponent_of, segments_of, count_of, plain_of, slot_count_of, halved_of, halves, layout_of, bucket_starts_of}
use Rattle.layout.proofs.BucketStarts.{starts_above}

-- f does not fall from n to a larger size m of the same segment length, up to `max_keys`
abbrev pub RisesInRange : (ℕ → ℕ) → Type 0
RisesInRange f = (n m : ℕ) → n ≤ m → m ≤ max_keys → exponent_of n ≡ exponent_of m → f n ≤ f m

-- ---- the segment count, which rises with the capacity

segments_more : (l : ℕ) {c d : ℕ} → 1 ≤ l → c ≤ d → segments_of c l ≤ segments_of d l
segments_more l {c} some h = let whole = div-mul-le_self (c + (l - 1)) l in (le-div_iff_mul-le some).1 (omega arith)

count_more : (l : ℕ) {c d : ℕ} → 1 ≤ l → c ≤ d → count_of c l ≤ count_of d l
count_more l {c} {d} some h =
    let s = segments_of c l in
    let t = segments_of d l in
    by_tests s t (segments_more l some h) (ltb s 3) (ltb t 3) refl refl
  where
    by_tests : (s t : ℕ) → s ≤ t → (a b : Bool) → ltb s 3 ≡ a → ltb t 3 ≡ b → cond a 1 (s - 2) ≤ cond b 1 (t - 2)
    by_tests s t more true true p q = le_refl 1
    by_tests s t more true false p q = omega (arith, ltb-false t 3 q)
    by_tests s t more false true p q = absurd (omega (arith, ltb-false s 3 p, ltb-true t 3 q))
    by_tests s t more false false p q = omega arith

plain_count_rises : RisesInRange (λ n. (plain_of n).segment_count)
unfolding plain_of
plain_count_rises n m h few same = rw same (count_more (2 ^ exponent_of m) (pow_pos (exponent_of m)) (rising n m h few))

-- halving starts above four keys, and makes the count greater
count_rises : (attempt : ℕ) → RisesInRange (λ n. (layout_of n attempt).segment_count)
unfolding layout_of halves
count_rises attempt n m h few same = by_tests (ltb 4 n) (ltb 4 m) (eqb (attempt % 4) 2) refl refl (plain_count_rises n m h few same)
  where
    counted : ℕ → Bool → ℕ
    counted n halved = (cond halved (halved_of (plain_of n)) (plain_of n)).segment_count

    by_tests : (a b second : Bool) → ltb 4 n ≡ a → ltb 4 m ≡ b → counted n false ≤ counted m false → counted n (a && second) ≤ counted m (b && second)
    by_tests true true true p q more = omega arith
    by_tests true true false p q more = more
    by_tests true false second p q more = absurd (omega (arith, ltb-true 4 n p, ltb-false 4 m q))
    by_tests false true true p q more = omega arith
    by_tests false true false p q more = more
    by_tests false false second p q more = more

-- ---- the slots and the bucket starts

pub slots_rise : RisesInRange slot_count_of
unfolding plain_of
slots_rise n m h few same =
    let l = 2 ^ exponent_of m in
    rw same (mul-le-mul_right l (omega (arith, count_more l (pow_pos (exponent_of m)) (rising n m h few))))

pub starts_rise : RisesInRange bucket_starts_of
starts_rise n m h few same =
    let less = starts_above (le_trans h few) in
    let more = starts_above few in
    let counts = max-le (le_trans (count_rises 1 n m h few same) (le-max_left _ _)) (le_trans (count_rises 2 n m h few same) (le-max_right _ _)) in
    rw (less.is, more.is) (pow_mono (less.least more.exponent more.some (rw (← more.is) (le_trans counts more.covers))))
