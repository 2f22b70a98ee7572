-- What an attempt on up to `max_keys` keys comes to: its descriptor passes checks 8 to 11 with its A fingerprints; it is free exactly when it has
-- no stuck set; two equal keys leave none free; and where it is free every listed key answers yes. Assumes nothing.
use Rattle.std.specs.Prelude.{◌≡◌, refl, Bool, true, false, List, ℕ, ◌-◌, ◌*◌, ◌≤◌, ◌<◌}
use Rattle.std.proofs.Math.Path.{sym, ap}
use Rattle.std.proofs.Common.{◌∙◌, mul-pos, arith, eq-eqb, eqb-true, pow_pos}
use Rattle.std.proofs.Math.Nat.{mul-mod_left}
use Rattle.std.proofs.lemmas.Bool.{eqb-false}
use Rattle.std.proofs.Math.ListN.{length, get_or}
use Rattle.capacity.specs.Capacity.{max_keys}
use Rattle.layout.specs.Layout.{layout_of, slot_count_of}
use Rattle.layout.proofs.Fits.{layout_fits, same_slots}
use Rattle.answers.specs.Answers.{Answer, gives}
use Rattle.answers.specs.Checks.{Done, done, ◌then◌}
use Rattle.descriptor.specs.Descriptor.{check_of}
use Rattle.descriptor.specs.Accepted as descriptor
use Rattle.stuck.specs.Stuck.{NoneStuck, SomeStuck}
use Rattle.stuck.specs.Survives.{not_both}
use Rattle.stuck.proofs.EqualSlots.{equal_keys_stuck}
use Rattle.peel.specs.Segments.{slots_in, hashes_of}
use Rattle.peel.specs.Requires.{Segmented}
use Rattle.peel.specs.SlotsApart.{hashes_length, hashes_at}
use Rattle.peel.specs.Picks.{slots_of_keys}
use Rattle.peel.specs.Taken.{taken_all, taken_not_all, fingerprints_length, fingerprints_yes}
use Rattle.repeats.specs.Repeats.{repeats?, Twice}
use Rattle.repeats.specs.Laws.{twice}
use Rattle.arith.specs.Murmur3.{hash_of}
use Rattle.fuse.specs.Attempts.{descriptor_at, slots_at, picks_at, free, fingerprints_at}
use Rattle.fuse.specs.Query.{left_over, yes?, fingerprints_for, accepts, contains_of}

-- ---- the layout of an attempt

module _ {n : ℕ} (i : ℕ) (few : n ≤ max_keys) where
  pub segmented : let d = descriptor_at n i in Segmented d.segment_length d.segment_length_mask d.segment_count_length (slot_count_of n)
  unfolding descriptor_at
  segmented =
      let f = layout_fits i few in
      record {
        exponent = f.power.exponent;
        segments = (layout_of n i).segment_count;
        some = f.counted;
        segment_is = f.power.is;
        mask_is = ap (λ (l : ℕ). l - 1) f.power.is;
        span_is = f.multiple ∙ ap (λ (l : ℕ). (layout_of n i).segment_count * l) f.power.is;
        slots_are = sym (same_slots n i) ∙ sym f.whole;
        numbered = omega (arith, f.small, same_slots n i);
      }

  pub attempt_length : fingerprints_for (descriptor_at n i) ≡ slot_count_of n
  unfolding descriptor_at
  attempt_length = (layout_fits i few).whole ∙ same_slots n i

  pub attempt_accepted : check_of (descriptor_at n i) ≡ gives done
  unfolding descriptor_at
  attempt_accepted =
      let f = layout_fits i few in
      let s = segmented in
      descriptor.accepts (descriptor_at n i)
      (record {
        length = record { exponent = f.power.exponent; from = f.power.from; to = f.power.to; is = f.power.is };
        mask = refl;
        positive = rw s.span_is (mul-pos s.some (pow_pos s.exponent));
        multiple = rw f.multiple (mul-mod_left (layout_of n i).segment_count (layout_of n i).segment_length);
        fits = omega (arith, f.whole, f.small);
      })

-- ---- free and stuck

module _ (keys : List ℕ) (i : ℕ) (few : length keys ≤ max_keys) where
  pub free_none_stuck : free keys i ≡ true → NoneStuck (slots_at keys i)
  unfolding free picks_at slots_at
  free_none_stuck e = (taken_all _ _ _ _ _ keys (segmented i few)).1 (eqb-true _ _ e)

  pub not_free_stuck : free keys i ≡ false → SomeStuck (slots_at keys i)
  unfolding free picks_at slots_at
  not_free_stuck e = taken_not_all _ _ _ _ _ keys (segmented i few) (eqb-false _ _ e)

  stuck_not_free : (b : Bool) → free keys i ≡ b → SomeStuck (slots_at keys i) → b ≡ false
  stuck_not_free true e s = absurd (not_both s (free_none_stuck e))
  stuck_not_free false e s = refl

  twice_stuck : Twice keys → SomeStuck (slots_at keys i)
  unfolding slots_at slots_of_keys
  twice_stuck w =
      let d = descriptor_at (length keys) i in
      let same : get_or (hashes_of d.seed keys) w.first 0 ≡ get_or (hashes_of d.seed keys) w.second 0
      = hashes_at d.seed keys w.first (omega (arith, w.apart, w.within)) ∙ ap (λ (key : ℕ). hash_of key d.seed) w.equal
      ∙ sym (hashes_at d.seed keys w.second w.within) in
      equal_keys_stuck (slots_in d.segment_length d.segment_length_mask d.segment_count_length) (hashes_of d.seed keys) w.first w.second
      w.apart (rw (hashes_length d.seed keys) w.within) same

  pub repeats_not_free : repeats? keys ≡ true → free keys i ≡ false
  repeats_not_free e = stuck_not_free (free keys i) refl (twice_stuck (twice keys e))

-- ---- the fingerprints

pub attempt_fingerprints_length : (w : ℕ) (keys : List ℕ) (i : ℕ) → length (fingerprints_at w keys i) ≡ slot_count_of (length keys)
unfolding fingerprints_at
attempt_fingerprints_length w keys i = fingerprints_length _ _ _ _ _ keys w

-- the descriptor passes checks 8 to 11 with them
pub attempt_accepts : (w : ℕ) (keys : List ℕ) (i : ℕ) → length keys ≤ max_keys
    → accepts (descriptor_at (length keys) i) (fingerprints_at w keys i) ≡ gives done
attempt_accepts w keys i few =
    let all_there = attempt_fingerprints_length w keys i ∙ sym (attempt_length i few) in
    simp (attempt_accepted i few, eq-eqb (length (fingerprints_at w keys i)) (fingerprints_for (descriptor_at (length keys) i)) all_there)

module _ (w : ℕ) (keys : List ℕ) (i : ℕ) (few : length keys ≤ max_keys) (is_free : free keys i ≡ true) (j : ℕ) (listed : j < length keys) where
  nothing_left : left_over w (descriptor_at (length keys) i) (fingerprints_at w keys i) (get_or keys j 0) ≡ 0
  unfolding left_over free picks_at fingerprints_at
  nothing_left = fingerprints_yes _ _ _ _ _ keys (segmented i few) w (eqb-true _ _ is_free) j listed

  pub listed_key_yes : contains_of w (descriptor_at (length keys) i) (fingerprints_at w keys i) (get_or keys j 0) ≡ gives true
  unfolding contains_of
  listed_key_yes =
      ap (λ (checks : Answer Done). checks then gives (yes? w (descriptor_at (length keys) i) (fingerprints_at w keys i) (get_or keys j 0))) (attempt_accepts w keys i few)
      ∙ ap gives (eq-eqb _ 0 nothing_left)
