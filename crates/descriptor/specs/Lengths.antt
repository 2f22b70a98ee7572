-- A segment length that passes check 8 is 2 ^ e with 2 ≤ e ≤ 18, and each of these passes. Assumes nothing.
use Rattle.std.specs.Prelude.{◌≡◌, true, false, ℕ, zero, suc, ◌^◌, ◌≤◌, eqb, leb}
use Rattle.std.proofs.Common.{ap, ◌∙◌, ⊎_elim, arith, le_refl, le_of_suc-le-suc, eq-or-lt_of_le, lt_of_not-le, eq-eqb, eqb-true, le-leb, leb-true, pow_mono}
use Rattle.std.proofs.lemmas.Bool.{and_from, and_parts, false_from_ne_true, or_cases, or_left, or_right}
use Rattle.descriptor.specs.Descriptor.{is_power, last_exponent, is_length}

pub record SegmentLength (l : ℕ) : Type 0 where
  pub exponent : ℕ
  pub from : 2 ≤ exponent
  pub to : exponent ≤ last_exponent
  pub is : l ≡ 2 ^ exponent

pub at_least : {l : ℕ} → SegmentLength l → 4 ≤ l
at_least p = rw p.is (pow_mono {i = 2} p.from)

pub at_most : {l : ℕ} → SegmentLength l → l ≤ 2 ^ last_exponent
at_most p = rw p.is (pow_mono {j = last_exponent} p.to)

-- ---- powers of two, by their exponents

record PowerTo (last l : ℕ) : Type 0 where
  exponent : ℕ
  to : exponent ≤ last
  is : l ≡ 2 ^ exponent

power_of : (last l : ℕ) → is_power last l ≡ true → PowerTo last l
power_of zero l t = record { exponent = 0; to = le_refl 0; is = eqb-true l (2 ^ 0) t }
power_of (suc last) l t =
    ⊎_elim (λ q. record { exponent = suc last; to = le_refl (suc last); is = eqb-true l (2 ^ suc last) q })
    (λ r. let p = power_of last l r in record { exponent = p.exponent; to = omega (arith, p.to); is = p.is })
    (or_cases (eqb l (2 ^ suc last)) (is_power last l) t)

is_power_lem : (last l e : ℕ) → e ≤ last → l ≡ 2 ^ e → is_power last l ≡ true
is_power_lem zero l e h q = let e0 : e ≡ 0 = omega arith in eq-eqb l (2 ^ 0) (q ∙ ap (λ (x : ℕ). 2 ^ x) e0)
is_power_lem (suc last) l e h q =
    ⊎_elim (λ w. or_left _ (is_power last l) (eq-eqb l (2 ^ suc last) (q ∙ ap (λ (x : ℕ). 2 ^ x) w)))
    (λ w. or_right (eqb l (2 ^ suc last)) _ (is_power_lem last l e (le_of_suc-le-suc w) q)) (eq-or-lt_of_le h)

-- ---- and those from 4 on

pub length_of : {l : ℕ} → is_length l ≡ true → SegmentLength l
unfolding is_length
length_of {l} t =
    let parts = and_parts (leb 4 l) (is_power last_exponent l) t in
    let p = power_of last_exponent l parts.1 in
    record {
      exponent = p.exponent;
      from = lt_of_not-le (λ h. omega (arith, leb-true 4 l parts.0, p.is, pow_mono {i = p.exponent} {j = 1} h));
      to = p.to;
      is = p.is;
    }

pub is_length_lem : {l : ℕ} → SegmentLength l → is_length l ≡ true
unfolding is_length
is_length_lem {l} p = and_from (leb 4 l) _ (le-leb 4 l (at_least p)) (is_power_lem last_exponent l p.exponent p.to p.is)

pub no_length : (l : ℕ) → (SegmentLength l → ⊥) → is_length l ≡ false
no_length l h = false_from_ne_true (is_length l) (λ t. h (length_of t))
