-- The code's tests of bits: one bit is set exactly of powers of two, and of these alone `l & (l - 1)` is 0; and under the mask L - 1
-- stands the remainder by L. Assumes nothing.
use Rattle.std.specs.Prelude.{◌≡◌, refl, Bool, true, ℕ, suc, ◌-◌, ◌/◌, ◌%◌, ◌^◌, ◌≤◌, ◌<◌, eqb, count_ones}
use Rattle.std.proofs.Common.{sym, ap, subst, ◌∙◌, ⊎_elim, arith, zero-le, lt_of_not-le, le_of_suc-le-suc, pow-suc, eq-eqb, eqb-true, pow_mono}
use Rattle.std.proofs.Math.Nat.{mod_self}
use Rattle.std.proofs.Math.Arith.{bin_ind}
use Rattle.std.proofs.lemmas.Bool.{cases_Bool, cases_eq, false≢true}
use Rattle.std.proofs.lemmas.Nat.{and_mask, ones_le_self, zero_from_ones}
use Rattle.std.specs.Int.{is_power_of_two}
use Rattle.std.specs.Int.Bits.{bit_and, and_step, and_self}
use Rattle.std.specs.Int.Count.{ones, ones_step, ones_cat}
use Rattle.descriptor.specs.Descriptor.{last_exponent, is_length}
use Rattle.descriptor.specs.Lengths.{SegmentLength, is_length_lem, no_length}

-- the low bits of a number by the mask
pub mask_mod : {l mask : ℕ} (n : ℕ) → SegmentLength l → mask ≡ l - 1 → bit_and n mask ≡ n % l
mask_mod n p q = rw (q, p.is) (and_mask n p.exponent)

-- ---- a test that just the powers of two pass decides check 8 within its bounds

Power : ℕ → Type 0
Power l = (e : ℕ) × (l ≡ 2 ^ e)

within : (l : ℕ) → 4 ≤ l → l ≤ 2 ^ last_exponent → Power l → SegmentLength l
unfolding Power
within l a b r = record {
  exponent = r.0;
  from = lt_of_not-le (λ h. omega (arith, r.1, pow_mono {i = r.0} {j = 1} h));
  to = le_of_suc-le-suc (lt_of_not-le (λ h. omega (arith, r.1, pow_mono {i = suc last_exponent} {j = r.0} h)));
  is = r.1;
}

decided : (test : Bool) (l : ℕ) → 4 ≤ l → l ≤ 2 ^ last_exponent → (test ≡ true → Power l) → (SegmentLength l → test ≡ true) → test ≡ is_length l
decided test l a b only_powers powers =
    ⊎_elim (λ t. t ∙ sym (is_length_lem (within l a b (only_powers t))))
    (λ f. f ∙ sym (no_length l (λ p. false≢true (sym f ∙ powers p)))) (cases_Bool test)

-- ---- `l & (l - 1)` is 0

power_of_two : (l : ℕ) → 0 < l → bit_and l (l - 1) ≡ 0 → Power l
unfolding Power
power_of_two =
    bin_ind (λ (l : ℕ). 0 < l → bit_and l (l - 1) ≡ 0 → Power l) (λ h q. absurd (omega arith))
    (λ l ih h q.
    let z : bit_and (l / 2) ((l - 1) / 2) ≡ 0 = omega (arith, and_step l (l - 1)) in
    ⊎_elim
    (λ even.
    let half : (l - 1) / 2 ≡ l / 2 - 1 = omega arith in
    let r = ih (omega arith) (subst (λ (x : ℕ). bit_and (l / 2) x ≡ 0) half z) in
    (suc r.0, omega (arith, r.1, pow-suc 2 r.0)))
    (λ odd.
    let half : (l - 1) / 2 ≡ l / 2 = omega (arith, odd) in
    (0, omega (arith, odd, sym (and_self (l / 2)) ∙ subst (λ (x : ℕ). bit_and (l / 2) x ≡ 0) half z)))
    (cases_eq (l % 2) 0))

pub length-test : (l : ℕ) → 4 ≤ l → l ≤ 2 ^ last_exponent → eqb (bit_and l (l - 1)) 0 ≡ is_length l
length-test l a b =
    decided _ l a b (λ t. power_of_two l (omega arith) (eqb-true (bit_and l (l - 1)) 0 t))
    (λ p. eq-eqb (bit_and l (l - 1)) 0 (mask_mod l p refl ∙ mod_self l))

-- ---- one bit is set

one_bit : (e : ℕ) → count_ones (2 ^ e) ≡ 1
unfolding ones
one_bit e = ap count_ones (omega arith) ∙ ones_cat e 1 0 (omega (arith, pow_mono {i = 0} {j = e} zero-le))

power_of_one_bit : (l : ℕ) → count_ones l ≡ 1 → Power l
unfolding Power
power_of_one_bit =
    bin_ind (λ (l : ℕ). count_ones l ≡ 1 → Power l) (λ q. absurd (omega (arith, ones_le_self 0)))
    (λ l ih q.
    let parts = sym (ones_step l) ∙ q in
    ⊎_elim (λ even. let r = ih (omega (arith, parts)) in (suc r.0, omega (arith, r.1, pow-suc 2 r.0)))
    (λ odd. (0, omega (arith, odd, zero_from_ones (l / 2) (omega (arith, odd, parts)))))
    (cases_eq (l % 2) 0))

pub one-bit-test : (l : ℕ) → 4 ≤ l → l ≤ 2 ^ last_exponent → is_power_of_two l ≡ is_length l
one-bit-test l a b =
    decided _ l a b (λ t. power_of_one_bit l (eqb-true (count_ones l) 1 t))
    (λ p. eq-eqb (count_ones l) 1 (ap count_ones p.is ∙ one_bit p.exponent))
