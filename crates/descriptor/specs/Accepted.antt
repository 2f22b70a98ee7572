-- What checks 8 to 10 accept: exactly the descriptors with L = 2 ^ e for an e in 2..18, mask L - 1, and a count length that is a
-- positive multiple of L and leaves room for 2L more. Assumes nothing.
use Rattle.std.specs.Prelude.{◌≡◌, not, ◌||◌, ◌+◌, ◌-◌, ◌*◌, ◌%◌, ◌≤◌, ◌<◌, eqb, ltb}
use Rattle.std.proofs.Common.{arith, eq-eqb, ne_eqb, le-ltb, eqb-true, ltb-false}
use Rattle.std.proofs.lemmas.Bool.{eqb-false, not-false, or_parts}
use Rattle.answers.specs.Answers.{gives}
use Rattle.answers.specs.Checks.{done, refuse_if, ◌then◌}
use Rattle.answers.specs.Passed.{no_fault, passed_first}
use Rattle.descriptor.specs.declared.Descriptor.{Descriptor}
use Rattle.descriptor.specs.Descriptor.{is_length, longest, bad_count, check_of}
use Rattle.descriptor.specs.Lengths.{SegmentLength, length_of, is_length_lem}

pub record Accepted (d : Descriptor) : Type 0 where
  pub length : SegmentLength d.segment_length
  pub mask : d.segment_length_mask ≡ d.segment_length - 1
  pub positive : 0 < d.segment_count_length
  pub multiple : d.segment_count_length % d.segment_length ≡ 0
  pub fits : d.segment_count_length + 2 * d.segment_length ≤ longest

pub accepted : (d : Descriptor) → check_of d ≡ gives done → Accepted d
unfolding check_of bad_count
accepted d e =
    let l = d.segment_length in
    let mask = d.segment_length_mask in
    let count = d.segment_count_length in
    let tenth = refuse_if (bad_count l count) 10 in
    let past8 = passed_first (not (is_length l)) 8 (refuse_if (not (eqb mask (l - 1))) 9 then tenth) done e in
    let past9 = passed_first (not (eqb mask (l - 1))) 9 tenth done past8.1 in
    let some = or_parts (eqb count 0) (not (eqb (count % l) 0) || ltb longest (count + 2 * l)) (no_fault (bad_count l count) 10 past9.1) in
    let whole = or_parts (not (eqb (count % l) 0)) (ltb longest (count + 2 * l)) some.1 in
    record {
      length = length_of (not-false (is_length l) past8.0);
      mask = eqb-true mask (l - 1) (not-false (eqb mask (l - 1)) past9.0);
      positive = omega (arith, eqb-false count 0 some.0);
      multiple = eqb-true (count % l) 0 (not-false (eqb (count % l) 0) whole.0);
      fits = ltb-false longest (count + 2 * l) whole.1;
    }

pub accepts : (d : Descriptor) → Accepted d → check_of d ≡ gives done
unfolding check_of bad_count
accepts d a =
    let l = d.segment_length in
    let count = d.segment_count_length in
    simp (
      is_length_lem a.length,
      eq-eqb d.segment_length_mask (l - 1) a.mask,
      ne_eqb count 0 (λ z. omega arith),
      eq-eqb (count % l) 0 a.multiple,
      le-ltb longest (count + 2 * l) a.fits,
    )
