-- The seven tests of `suits` all pass exactly where checks 8 to 11 do. Assumes nothing.
use Rattle.std.proofs.Common.{◌≡◌, refl, sym, ap, ◌∙◌, ◌≢◌, Bool, true, false, ℕ, ◌-◌, ◌^◌, ◌≤◌, eqb, bit_and, arith, eq-eqb, eqb-true}
use Rattle.std.proofs.Math.Nat.{mod_self}
use Rattle.answers.specs.Answers.{gives}
use Rattle.answers.specs.Checks.{done}
use Rattle.descriptor.specs.declared.Descriptor.{Descriptor}
use Rattle.descriptor.specs.Descriptor.{last_exponent, longest, check_of}
use Rattle.descriptor.specs.Lengths.{length_of, at_least, at_most}
use Rattle.descriptor.specs.Masks.{mask_mod, length-test}
use Rattle.descriptor.specs.Accepted.{accepted, accepts}
use Rattle.fuse.specs.Query.{fingerprints_for}
use Rattle.query.specs.FirstFault.{unseeded, suits_of}
use Rattle.query.specs.Suited.{both_passed, seedless}

pub record Tested (d : Descriptor) (given : ℕ) : Type 0 where
  pub whole : fingerprints_for d ≡ given
  pub length_masked : bit_and d.segment_length d.segment_length_mask ≡ 0
  pub count_masked : bit_and d.segment_count_length d.segment_length_mask ≡ 0
  pub mask_below : d.segment_length_mask ≡ d.segment_length - 1
  pub some : d.segment_count_length ≢ 0
  pub fits : fingerprints_for d ≤ longest
  pub low : 4 ≤ d.segment_length
  pub high : d.segment_length ≤ 2 ^ last_exponent

module _ (d : Descriptor) (given : ℕ) where
  -- what the checks pass, each test passes
  passes : suits_of d given ≡ true → Tested d given
  passes e =
      let both = both_passed (check_of d) (eqb given (fingerprints_for d)) e in
      let a = accepted d both.0 in
      record {
        whole = sym (eqb-true given (fingerprints_for d) both.1);
        fits = a.fits;
        some = λ none. omega (arith, a.positive);
        mask_below = a.mask;
        length_masked = mask_mod d.segment_length a.length a.mask ∙ mod_self d.segment_length;
        count_masked = mask_mod d.segment_count_length a.length a.mask ∙ a.multiple;
        low = at_least a.length;
        high = at_most a.length;
      }

  good : Tested d given → check_of d ≡ gives done
  good t =
      let one_bit = ap (bit_and d.segment_length) (sym t.mask_below) ∙ t.length_masked in
      let power = length_of (sym (length-test d.segment_length t.low t.high) ∙ eq-eqb _ 0 one_bit) in
      accepts d
      (record {
        length = power;
        mask = t.mask_below;
        positive = omega (arith, t.some);
        multiple = sym (mask_mod d.segment_count_length power t.mask_below) ∙ t.count_masked;
        fits = t.fits;
      })

  -- and what each test passes, the checks pass
  pub all_pass : Tested d given → true ≡ suits_of d given
  all_pass t = simp (good t, eq-eqb given (fingerprints_for d) (sym t.whole))

  pub one_fails : (Tested d given → ⊥) → false ≡ suits_of d given
  one_fails fault = told (suits_of d given) refl
    where
      told : (suits : Bool) → suits_of d given ≡ suits → false ≡ suits
      told false e = refl
      told true e = absurd (fault (passes e))

  -- the same of the record without its seed
  abbrev suits_unseeded : Bool
  suits_unseeded = suits_of (unseeded d.segment_length d.segment_length_mask d.segment_count_length) given

  pub all_pass_unseeded : Tested d given → true ≡ suits_unseeded
  all_pass_unseeded t = all_pass t ∙ seedless d given

  pub one_fails_unseeded : (Tested d given → ⊥) → false ≡ suits_unseeded
  one_fails_unseeded fault = one_fails fault ∙ seedless d given
