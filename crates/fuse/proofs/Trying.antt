-- One attempt with cleared counts and sums can be run, and what it then takes is what the attempt takes. Assumes nothing.
use mathlib.Core.Path.{◌≡◌, sym, ap, ◌∙◌}
use mathlib.Core.List.{List}
use Prim.Native.Nat.{ℕ, ◌+◌, ◌*◌, ◌^◌, ◌≤◌, ◌<◌}
use native.Mathlib.Omega.{arith}
use lib.ListN.{length, replicate}
use Rattle.descriptor.specs.declared.Descriptor.{Descriptor}
use Rattle.scratch.specs.declared.Scratch.{Scratch}
use Rattle.scratch.specs.Lent.{SameBuffers}
use Rattle.layout.specs.Layout.{slot_count_of}
use Rattle.stuck.specs.Stuck.{Pick}
use Rattle.peel.specs.Requires.{CanRun}
use Rattle.peel.specs.Picks.{picks_of_keys}
use Rattle.capacity.specs.Capacity.{max_keys}
use Rattle.fuse.specs.Attempts.{descriptor_at, picks_at}
use Rattle.fuse.specs.FreeAttempts.{segmented}
use Rattle.fuse.specs.Seek.{CanAttempt}

-- the sums of a hash's slots have room
pub slots_room : {n : ℕ} (number : ℕ) {d : Descriptor} → n ≤ max_keys → d ≡ descriptor_at n number → d.segment_count_length + 2 * d.segment_length < 2 ^ 32
slots_room number few described =
    let layout = segmented number few in rw described (omega (arith, layout.slots_are, layout.numbered))

module _ {keys : List ℕ} {before after : Scratch}
    (can : CanAttempt keys before.lone.now before.counts.now before.sums.now before.positions.now before.order.now) (number : ℕ) (same : SameBuffers before after)
    (counts_clear : after.counts.now ≡ replicate (length before.counts.now) 0) (sums_clear : after.sums.now ≡ replicate (length before.sums.now) 0) where
  counts_length : length after.counts.now ≡ slot_count_of (length keys)
  counts_length = same.counts_length ∙ can.counts_length

  can_run_as : let d = descriptor_at (length keys) number in
      CanRun d.segment_length d.segment_length_mask d.segment_count_length keys after.lone.now after.counts.now after.sums.now after.order.now after.positions.now
  can_run_as =
      record {
        layout = rw counts_length (segmented number can.few);
        few = omega (arith, can.few);
        same_lone = same.lone_length ∙ can.lone_length ∙ sym counts_length;
        counts_clear = counts_clear ∙ ap (λ (k : ℕ). replicate k 0) (can.counts_length ∙ sym counts_length);
        sums_clear = sums_clear ∙ ap (λ (k : ℕ). replicate k 0) (can.sums_length ∙ sym counts_length);
        order_room = omega (arith, same.order_length, can.order_room);
        positions_room = omega (arith, same.positions_length, can.positions_room);
      }

  module _ {d : Descriptor} (described : d ≡ descriptor_at (length keys) number) {segment mask span : ℕ} (of_segment : segment ≡ d.segment_length)
      (of_mask : mask ≡ d.segment_length_mask) (of_span : span ≡ d.segment_count_length) where
    pub can_run : CanRun segment mask span keys after.lone.now after.counts.now after.sums.now after.order.now after.positions.now
    can_run = rw (of_segment, of_mask, of_span, described) can_run_as

    pub tried : {picks : List Pick} → picks ≡ picks_of_keys segment mask span (length after.counts.now) d.seed keys → picks ≡ picks_at keys number
    unfolding picks_at
    tried run =
        let at = descriptor_at (length keys) number in
        (rw (of_segment, of_mask, of_span, described) at run)
        ∙ ap (λ (slots : ℕ). picks_of_keys at.segment_length at.segment_length_mask at.segment_count_length slots at.seed keys) counts_length
