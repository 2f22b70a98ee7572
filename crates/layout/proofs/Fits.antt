-- What holds of every layout for up to `max_keys` keys: its lengths fit together, it has the same slots in each attempt, and few enough.
-- Assumes nothing.
use Rattle.std.specs.Prelude.{◌≡◌, refl, ◌⊎◌, Bool, true, false, cond, ◌&&◌, ℕ, zero, suc, ◌+◌, ◌-◌, ◌*◌, ◌/◌, ◌%◌, ◌^◌, ◌≤◌, ◌<◌, ltb, eqb}
use Rattle.std.proofs.Common.{sym, ap, ap₂, ◌∙◌, inl, inr, add-mul, div-lt_iff_lt-mul, le_of_eq, le_refl, le_trans, mul_assoc, mul-div_cancel, mul-le-mul_left, mul-le-mul_right, pow-suc, suc-mul, zero-lt-suc, arith, ltb-true, ltb-false, pow-add, pow_mono, pow_pos}
use Rattle.std.proofs.Math.Nat.{pow-succ'}
use Rattle.capacity.specs.Capacity.{max_keys, max_capacity, capacity_of}
use Rattle.capacity.proofs.EverySize.{every-size}
use Rattle.layout.specs.declared.Layout.{Layout}
use Rattle.layout.specs.Layout.{max_slots, exponent_of, segments_of, count_of, layout_with, plain_of, slot_count_of, halved_of, halves, layout_of}
use Rattle.layout.specs.Exponent.{max_exponent, exponent_from, exponent_to, exponent_above_four}

-- a power of two in 4 .. 262,144
pub record SegmentLength (l : ℕ) : Type 0 where
  pub exponent : ℕ
  pub from : 2 ≤ exponent
  pub to : exponent ≤ 18
  pub is : l ≡ 2 ^ exponent

pub record Fits (l : Layout) : Type 0 where
  pub power : SegmentLength l.segment_length
  pub counted : 1 ≤ l.segment_count
  pub multiple : l.segment_count_length ≡ l.segment_count * l.segment_length
  pub whole : l.segment_count_length + 2 * l.segment_length ≡ l.array_length
  pub small : l.array_length ≤ max_slots

pub length_from_four : {l : ℕ} → SegmentLength l → 4 ≤ l
length_from_four s = rw s.is (pow_mono s.from)

pub slots-some : {l : Layout} → Fits l → 1 ≤ l.array_length
slots-some f = omega (arith, length_from_four f.power, f.whole)

pub count_small : {l : Layout} → Fits l → l.segment_count ≤ max_slots
count_small {l} f =
    let longer = mul-le-mul_left l.segment_count (length_from_four f.power) in
    omega (arith, f.multiple, f.whole, f.small)

-- ---- the plain layout

count_cases : (c l : ℕ) (P : ℕ → Type 0) → P 1 → (3 ≤ segments_of c l → P (segments_of c l - 2)) → P (count_of c l)
count_cases c l P one more =
    let s = segments_of c l in
    elim (ltb s 3) as (λ b. ltb s 3 ≡ b → P (cond b 1 (s - 2))) [ true ↦ λ e. one | false ↦ λ e. more (ltb-false s 3 e) ] refl

count-some : (c l : ℕ) → 1 ≤ count_of c l
count-some c l = count_cases c l (λ k. 1 ≤ k) (le_refl 1) (λ h. omega arith)

-- a capacity that t segments hold takes no more of them, where t is at least 3
count_below : (c l t : ℕ) → 1 ≤ l → 3 ≤ t → c ≤ t * l → count_of c l + 2 ≤ t
count_below c l t some three h =
    let within : c + (l - 1) < suc t * l = omega (arith, suc-mul t l) in
    let few : segments_of c l < suc t = (div-lt_iff_lt-mul some).1 within in
    count_cases c l (λ k. k + 2 ≤ t) three (λ q. omega arith)

-- `max_slots` is a whole number of segments of any length
whole_segments : (e : ℕ) → e ≤ max_exponent → max_slots / 2 ^ max_exponent * 2 ^ (max_exponent - e) * 2 ^ e ≡ max_slots
whole_segments e h =
    let together : max_exponent - e + e ≡ max_exponent = omega arith in
    mul_assoc (max_slots / 2 ^ max_exponent) (2 ^ (max_exponent - e)) (2 ^ e)
    ∙ ap (λ (x : ℕ). max_slots / 2 ^ max_exponent * x) (sym (pow-add 2 (max_exponent - e) e) ∙ ap (λ (x : ℕ). 2 ^ x) together)

slots_small : (c e : ℕ) → c ≤ max_capacity → e ≤ max_exponent → (count_of c (2 ^ e) + 2) * 2 ^ e ≤ max_slots
slots_small c e hc he =
    let t = max_slots / 2 ^ max_exponent * 2 ^ (max_exponent - e) in
    let whole = whole_segments e he in
    let few = count_below c (2 ^ e) t (pow_pos e) (omega (arith, pow_pos (max_exponent - e))) (omega arith) in
    le_trans (mul-le-mul_right (2 ^ e) few) (le_of_eq whole)

fits_with : (l k : ℕ) → SegmentLength l → 1 ≤ k → (k + 2) * l ≤ max_slots → Fits (layout_with l k)
fits_with l k power some small = record { power = power; counted = some; multiple = refl; whole = sym (add-mul k 2 l); small = small }

pub plain_fits : {n : ℕ} → n ≤ max_keys → Fits (plain_of n)
unfolding plain_of
plain_fits {n} h =
    let e = exponent_of n in
    let to = exponent_to h in
    fits_with _ _ (record { exponent = e; from = exponent_from n; to = omega arith; is = refl }) (count-some (capacity_of n) (2 ^ e))
    (slots_small (capacity_of n) e (every-size n h).small to)

-- ---- the halved layout

half_power : (e : ℕ) → 2 ^ suc e / 2 ≡ 2 ^ e
half_power e = rw (pow-suc 2 e) (mul-div_cancel (2 ^ e) (zero-lt-suc 1))

half_slots : (k e : ℕ) → 1 ≤ e → (2 * k + 2 + 2) * (2 ^ e / 2) ≡ (k + 2) * 2 ^ e
half_slots k zero h = absurd (omega arith)
half_slots k (suc e) h =
    ap₂ (λ (x y : ℕ). x * y) (omega arith) (half_power e) ∙ mul_assoc (k + 2) 2 (2 ^ e) ∙ ap (λ (y : ℕ). (k + 2) * y) (sym (pow-succ' 2 e))

half_length : (e : ℕ) → 3 ≤ e → e ≤ 18 → SegmentLength (2 ^ e / 2)
half_length zero from to = absurd (omega arith)
half_length (suc e) from to = record { exponent = e; from = omega arith; to = omega arith; is = half_power e }

pub halved_slots : {n : ℕ} → 4 < n → (halved_of (plain_of n)).array_length ≡ slot_count_of n
unfolding plain_of
halved_slots {n} more = let from = exponent_above_four more in half_slots (count_of (capacity_of n) (2 ^ exponent_of n)) (exponent_of n) (omega arith)

halved_length : {n : ℕ} → n ≤ max_keys → 4 < n → SegmentLength ((plain_of n).segment_length / 2)
unfolding plain_of
halved_length {n} h more = let to = exponent_to h in half_length (exponent_of n) (exponent_above_four more) (omega arith)

pub halved_fits : {n : ℕ} → n ≤ max_keys → 4 < n → Fits (halved_of (plain_of n))
halved_fits {n} h more = fits_with _ _ (halved_length h more) (omega arith) (le_trans (le_of_eq (halved_slots more)) (plain_fits h).small)

-- ---- every layout

-- what holds of the plain layout, and of the halved one for more than four keys, holds of the layout of an attempt
layout_cases : (n attempt : ℕ) (P : Layout → Type 0) → P (plain_of n) → (4 < n → P (halved_of (plain_of n))) → P (layout_of n attempt)
unfolding layout_of halves
layout_cases n attempt P plain halved = by_tests (ltb 4 n) (eqb (attempt % 4) 2) refl
  where
    by_tests : (a b : Bool) → ltb 4 n ≡ a → P (cond (a && b) (halved_of (plain_of n)) (plain_of n))
    by_tests true true e = halved (ltb-true 4 n e)
    by_tests true false e = plain
    by_tests false b e = plain

pub layout_fits : {n : ℕ} (attempt : ℕ) → n ≤ max_keys → Fits (layout_of n attempt)
layout_fits {n} attempt h = layout_cases n attempt Fits (plain_fits h) (halved_fits h)

pub same_slots : (n attempt : ℕ) → (layout_of n attempt).array_length ≡ slot_count_of n
same_slots n attempt = layout_cases n attempt (λ l. l.array_length ≡ slot_count_of n) refl halved_slots

pub two_layouts : (n attempt : ℕ) → (layout_of n attempt ≡ layout_of n 1) ⊎ (layout_of n attempt ≡ layout_of n 2)
unfolding layout_of halves
two_layouts n attempt = by_tests (ltb 4 n) (eqb (attempt % 4) 2)
  where
    pick : Bool → Layout
    pick b = cond b (halved_of (plain_of n)) (plain_of n)

    by_tests : (a b : Bool) → (pick (a && b) ≡ pick (a && false)) ⊎ (pick (a && b) ≡ pick (a && true))
    by_tests a true = inr refl
    by_tests a false = inl refl
