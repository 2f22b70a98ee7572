-- Where the three slots of a hash lie: in three following segments, so that they differ, and below span + 2L. Assumes nothing.
use Rattle.std.specs.Prelude.{◌≡◌, ℕ, ◌+◌, ◌-◌, ◌*◌, ◌/◌, ◌^◌, ◌<◌, ◌≤◌, ◌≢◌, bit_and}
use Rattle.std.proofs.Common.{ap, ◌∙◌, subst, mul_comm, mul-le-mul_right, mul-lt-mul_of_pos_right, le_of_lt, div-lt_iff_lt-mul, mul-pos, add-mul, arith, pow_pos}
use Rattle.std.proofs.Math.Path.{subst⁻¹}
use Rattle.std.proofs.Math.Nat.{div-le_of_le-mul, add-div_right, add-mul-div_right}
use Rattle.std.specs.Int.Bits.{mask_lt}
use Rattle.words.specs.Xor.{xor_above}
use Rattle.arith.specs.Slots.{slot0, slot1, slot2}

-- ---- slot 0 alone

pub slot0-le : (hash span : ℕ) → hash < 2 ^ 64 → slot0 hash span ≤ span
unfolding slot0
slot0-le hash span h = div-le_of_le-mul (2 ^ 64) (mul-le-mul_right span (le_of_lt h))

pub slot0-lt : (hash span : ℕ) → hash < 2 ^ 64 → 0 < span → slot0 hash span < span
unfolding slot0
slot0-lt hash span h some = (div-lt_iff_lt-mul (pow_pos 64)).1 (subst (λ (x : ℕ). hash * span < x) (mul_comm (2 ^ 64) span) (mul-lt-mul_of_pos_right h some))

-- ---- all three

-- three slots in three following segments of length L, the first of which is below the span
pub record Spread (L span h0 h1 h2 : ℕ) : Type 0 where
  pub segment1 : h1 / L ≡ h0 / L + 1
  pub segment2 : h2 / L ≡ h0 / L + 2
  pub below0 : h0 < span
  pub below1 : h1 < span + 2 * L
  pub below2 : h2 < span + 2 * L

-- L is a power of two, the mask L - 1, and the span a positive multiple q of L
module _ (e q hash : ℕ) (small : hash < 2 ^ 64) (some : 0 < q) where
  abbrev L : ℕ
  L = 2 ^ e

  abbrev span : ℕ
  span = q * 2 ^ e

  first_below : slot0 hash span < span
  first_below = slot0-lt hash span small (mul-pos some (pow_pos e))

  first-segment : slot0 hash span / L < q
  first-segment = (div-lt_iff_lt-mul (pow_pos e)).1 first_below

  -- a slot in a segment at most two after the first
  in_reach : (x s : ℕ) → x / L ≡ s → s < q + 2 → x < span + 2 * L
  in_reach x s is reach = subst (λ (n : ℕ). x < n) (add-mul q 2 L) ((div-lt_iff_lt-mul (pow_pos e)).0 (subst⁻¹ (λ (n : ℕ). n < q + 2) is reach))

  second_segment : slot1 hash L (L - 1) span / L ≡ slot0 hash span / L + 1
  unfolding slot1
  second_segment = xor_above e (slot0 hash span + L) (bit_and (hash / 2 ^ 18) (L - 1)) (mask_lt (hash / 2 ^ 18) e) ∙ add-div_right (slot0 hash span) (pow_pos e)

  third_segment : slot2 hash L (L - 1) span / L ≡ slot0 hash span / L + 2
  unfolding slot2
  third_segment = xor_above e (slot0 hash span + 2 * L) (bit_and hash (L - 1)) (mask_lt hash e) ∙ add-mul-div_right (slot0 hash span) 2 (pow_pos e)

  pub spread : Spread L span (slot0 hash span) (slot1 hash L (L - 1) span) (slot2 hash L (L - 1) span)
  spread =
      record {
        segment1 = second_segment;
        segment2 = third_segment;
        below0 = first_below;
        below1 = in_reach _ _ second_segment (omega (arith, first-segment));
        below2 = in_reach _ _ third_segment (omega (arith, first-segment));
      }

-- slots in three segments are three slots
pub spread_apart : {L span h0 h1 h2 : ℕ} → Spread L span h0 h1 h2 → (h0 ≢ h1) × (h0 ≢ h2) × (h1 ≢ h2)
spread_apart {L} s = (
  λ e. omega (arith, s.segment1, ap (λ (x : ℕ). x / L) e),
  λ e. omega (arith, s.segment2, ap (λ (x : ℕ). x / L) e),
  λ e. omega (arith, s.segment1, s.segment2, ap (λ (x : ℕ). x / L) e),
)
