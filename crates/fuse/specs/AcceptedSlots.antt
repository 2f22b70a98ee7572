-- A descriptor that checks 8 to 10 accept cuts its fingerprints into segments, so the three slots of every key differ and are below their
-- number. Assumes nothing.
use Rattle.std.specs.Prelude.{◌≡◌, refl, ℕ, ◌-◌, ◌*◌, ◌/◌}
use Rattle.std.proofs.Common.{ap, ◌∙◌, div-add-mod', pos_of_ne-zero, zero-mul, arith}
use Rattle.answers.specs.Answers.{gives}
use Rattle.answers.specs.Checks.{done}
use Rattle.arith.specs.Murmur3.{hash_of}
use Rattle.arith.specs.OneToOne.{hash-lt}
use Rattle.descriptor.specs.declared.Descriptor.{Descriptor}
use Rattle.descriptor.specs.Descriptor.{check_of}
use Rattle.descriptor.specs.Accepted.{accepted}
use Rattle.stuck.specs.Ring.{Apart}
use Rattle.peel.specs.Segments.{slots_in}
use Rattle.peel.specs.Requires.{Segmented}
use Rattle.peel.specs.SlotsApart.{slots_apart}
use Rattle.fuse.specs.Query.{fingerprints_for}

module _ (d : Descriptor) (good : check_of d ≡ gives done) where
  abbrev segment : ℕ
  segment = d.segment_length

  abbrev span : ℕ
  span = d.segment_count_length

  pub accepted_segments : Segmented segment d.segment_length_mask span (fingerprints_for d)
  accepted_segments =
      let a = accepted d good in
      let power = a.length.is in
      let whole : span ≡ span / segment * segment = omega (arith, div-add-mod' span segment, a.multiple) in
      record {
        exponent = a.length.exponent;
        segments = span / segment;
        some = pos_of_ne-zero (λ none. omega (arith, a.positive, whole ∙ ap (λ (n : ℕ). n * segment) none ∙ zero-mul segment));
        segment_is = power;
        mask_is = a.mask ∙ ap (λ (n : ℕ). n - 1) power;
        span_is = whole ∙ ap (λ (n : ℕ). span / segment * n) power;
        slots_are = refl;
        numbered = omega (arith, a.fits);
      }

  pub accepted_slots : (key : ℕ) → Apart (fingerprints_for d) (slots_in segment d.segment_length_mask span (hash_of key d.seed))
  accepted_slots key = slots_apart accepted_segments (hash_of key d.seed) (hash-lt key d.seed)
