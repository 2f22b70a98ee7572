-- What the keys taken in one attempt mean: all of them exactly when nothing is stuck; those left are the largest stuck set; where all are taken
-- every key answers yes after the fill; and the order of the keys changes nothing. Any width. Assumes nothing.
use Rattle.std.specs.Prelude.{◌≡◌, refl, ◌≢◌, ◌↔◌, ℕ, zero, suc, ◌-◌, ◌^◌, ◌≤◌, ◌<◌, length, get_or, replicate}
use Rattle.std.proofs.Math.Path.{sym, ap}
use Rattle.std.proofs.Common.{◌∙◌, subst, arith, pow_pos}
use mathlib.Core.List.{List, [], ◌∷◌}
use Rattle.std.proofs.Math.ListN.{length-replicate}
use Rattle.arith.specs.Murmur3.{hash_of}
use Rattle.arith.specs.Fingerprint.{fingerprint_of}
use Rattle.arith.specs.FingerprintBounded.{fingerprint_lt}
use Rattle.stuck.specs.Stuck.{Slots, SomeStuck, NoneStuck, Pick, pick}
use Rattle.stuck.specs.HowMany.{Sticks}
use Rattle.stuck.specs.Ring.{Apart}
use Rattle.stuck.specs.Fill.{fill, AnswersYes}
use Rattle.stuck.specs.FillAnswers.{fill-length, Fits, fill_fits}
use Rattle.reorder.specs.Reordered.{Reordered}
use Rattle.reorder.specs.ReorderedLaws.{reordered_map}
use Rattle.machine.specs.Machine.{stores}
use Rattle.machine.specs.Order.{picks_reordered}
use Rattle.machine.specs.Picks.{SmallPositions}
use Rattle.machine.proofs.Picks.{picks_at_most, picks_small, picks_all, picks_not_all, picks_leave, picks_yes}
use Rattle.peel.specs.Segments.{slots_in, hashes_of}
use Rattle.peel.specs.SlotsApart.{slots_apart, hashes_length, hashes_at, hashes_small}
use Rattle.peel.specs.Buffers.{picks_in}
use Rattle.peel.specs.Requires.{Segmented, CanFill}
use Rattle.peel.specs.Picks.{slots_of_keys, picks_of_keys, fingerprints_of}
use Rattle.peel.specs.PicksIn.{picks_in_length, picks_in_small}

zero_at : (n s : ℕ) → ◌≡◌ {A = ℕ} (get_or (replicate n 0) s 0) 0
zero_at zero s = refl
zero_at (suc n) zero = refl
zero_at (suc n) (suc s) = zero_at n s

stores-fit : (slots : ℕ → Slots) (width : ℕ) (picks : List Pick) → Fits width (stores slots (fingerprint_of width) picks)
stores-fit slots width [] = tt
stores-fit slots width (pick hash position ∷ picks) = (fingerprint_lt width hash, stores-fit slots width picks)

module _ (segment mask span slots seed : ℕ) (keys : List ℕ) where
  abbrev slots_here : ℕ → Slots
  slots_here = slots_in segment mask span

  abbrev picks : List Pick
  picks = picks_of_keys segment mask span slots seed keys

  -- the same keys in any order
  pub taken_reordered : (others : List ℕ) → Reordered keys others → picks ≡ picks_of_keys segment mask span slots seed others
  unfolding picks_of_keys hashes_of
  taken_reordered others r = picks_reordered slots_here slots (reordered_map (λ key. hash_of key seed) r)

  -- what is filled in from buffers that hold the keys taken is the fingerprints
  pub filled : (width n : ℕ) (order positions : List ℕ) → picks_in n order positions ≡ picks
      → fill (stores slots_here (fingerprint_of width) (picks_in n order positions)) (replicate slots 0)
      ≡ fingerprints_of width segment mask span slots seed keys
  unfolding fingerprints_of
  filled width n order positions e = ap (λ (r : List Pick). fill (stores slots_here (fingerprint_of width) r) (replicate slots 0)) e

  pub fingerprints_length : (width : ℕ) → length (fingerprints_of width segment mask span slots seed keys) ≡ slots
  unfolding fingerprints_of
  fingerprints_length width = fill-length (stores slots_here (fingerprint_of width) picks) (replicate slots 0) ∙ length-replicate slots 0

  -- each has `width` bits
  pub fingerprints_fit : (width slot : ℕ) → get_or (fingerprints_of width segment mask span slots seed keys) slot 0 < 2 ^ width
  unfolding fingerprints_of
  fingerprints_fit width slot =
      fill_fits width (stores slots_here (fingerprint_of width) picks) (replicate slots 0) (λ s. rw (zero_at slots s) (pow_pos width))
      (stores-fit slots_here width picks) slot

  module _ (layout : Segmented segment mask span slots) where
    apart : (i : ℕ) → i < length (hashes_of seed keys) → Apart slots (slots_here (get_or (hashes_of seed keys) i 0))
    apart i lt = slots_apart layout (get_or (hashes_of seed keys) i 0) (hashes_small seed keys i lt)

    -- no more are taken than there are
    pub taken_at_most : length picks ≤ length keys
    unfolding picks_of_keys
    taken_at_most = omega (arith, picks_at_most slots_here (hashes_of seed keys) slots apart, hashes_length seed keys)

    -- all of them exactly when nothing is stuck
    pub taken_all : NoneStuck (slots_of_keys segment mask span seed keys) ↔ (length picks ≡ length keys)
    unfolding picks_of_keys slots_of_keys
    taken_all =
        let w = picks_all slots_here (hashes_of seed keys) slots apart in
        (λ none. w.0 none ∙ hashes_length seed keys, λ all. w.1 (all ∙ sym (hashes_length seed keys)))

    pub taken_not_all : length picks ≢ length keys → SomeStuck (slots_of_keys segment mask span seed keys)
    unfolding picks_of_keys slots_of_keys
    taken_not_all some = picks_not_all slots_here (hashes_of seed keys) slots apart (λ all. some (all ∙ hashes_length seed keys))

    -- those left are the largest stuck set
    pub taken_leaves : Sticks (slots_of_keys segment mask span seed keys) (length keys - length picks)
    unfolding picks_of_keys slots_of_keys
    taken_leaves = rw (← (hashes_length seed keys)) (picks_leave slots_here (hashes_of seed keys) slots apart)

    -- where all are taken every key answers yes, for any fingerprint of a hash and whatever stood in the slots before
    pub taken_yes : (fingerprint : ℕ → ℕ) (before : List ℕ) → length before ≡ slots → length picks ≡ length keys → (i : ℕ) → i < length keys
        → let hash = hash_of (get_or keys i 0) seed in AnswersYes (slots_here hash) (fingerprint hash) (fill (stores slots_here fingerprint picks) before)
    unfolding picks_of_keys
    taken_yes fingerprint before room all i lt =
        rw (← (hashes_at seed keys i lt))
        (picks_yes slots_here (hashes_of seed keys) slots apart fingerprint before room (all ∙ sym (hashes_length seed keys)) i
        (omega (arith, hashes_length seed keys)))

    -- so with the fingerprints of any width
    pub fingerprints_yes : (width : ℕ) → length picks ≡ length keys → (i : ℕ) → i < length keys
        → let hash = hash_of (get_or keys i 0) seed in
        AnswersYes (slots_here hash) (fingerprint_of width hash) (fingerprints_of width segment mask span slots seed keys)
    unfolding fingerprints_of
    fingerprints_yes width all i lt = taken_yes (fingerprint_of width) (replicate slots 0) (length-replicate slots 0) all i lt

    taken_small : SmallPositions picks
    unfolding picks_of_keys
    taken_small = picks_small slots_here (hashes_of seed keys) slots apart

    -- buffers that hold the keys taken can be filled from
    pub can_fill : (n : ℕ) (fingerprints order positions : List ℕ) → length fingerprints ≡ slots → length keys ≤ length order
        → length keys ≤ length positions → picks_in n order positions ≡ picks → CanFill segment mask span fingerprints order positions n
    can_fill n fingerprints order positions same in_order in_positions e =
        let number : n ≡ length picks = sym (picks_in_length n order positions) ∙ ap length e in
        record {
          layout = rw same layout;
          in_order = omega (arith, taken_at_most);
          in_positions = omega (arith, taken_at_most);
          positions_are = picks_in_small n order positions (subst SmallPositions (sym e) taken_small);
        }
