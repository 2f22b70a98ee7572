-- How a search that finds a free attempt ends on buffers of exactly the needed lengths, for fingerprints of any width: they are filled in from what was
-- taken. Assumes nothing.
use lib.Seq.{take_at, drop_at}
use Rattle.std.proofs.Common.{◌≡◌, refl, sym, ap, ◌∙◌, Bool, true, false, List, ℕ, zero, suc, ◌+◌, ◌≤◌, arith, length, drop, replicate, length-append}
use Rattle.std.proofs.lemmas.List.{length-replicate}
use Rattle.std.specs.Prelude.{Ok}
use Rattle.descriptor.specs.declared.Descriptor.{Descriptor}
use Rattle.scratch.specs.declared.Scratch.{Scratch}
use Rattle.scratch.specs.Lent.{SameBuffers}
use Rattle.layout.specs.Layout.{slot_count_of, bucket_starts_of}
use Rattle.repeats.specs.Repeats.{repeats?}
use Rattle.peel.specs.Taken.{can_fill, filled}
use Rattle.fuse.specs.Attempts.{descriptor_at, picks_at, fingerprints_at}
use Rattle.fuse.specs.Memory.{Memory}
use Rattle.fuse.specs.Build.{found_outcome, built_outcome}
use Rattle.fuse.specs.FreeAttempts.{segmented, repeats_not_free}
use Rattle.fuse.specs.Search.{Sought}
use Rattle.plan.specs.declared.Plan.TheVariants.{Found}
use Rattle.plan.specs.Plans.{scratch, zeros, fill_from, CanFillFrom}
use Rattle.plan.specs.Parts.{CanPlan, Ended}

-- a number found is that of an attempt
found_built : (w : ℕ) (keys : List ℕ) (found : ℕ) (m : Memory) → 1 ≤ found → found_outcome w keys found m ≡ built_outcome w keys found m
found_built w keys zero m some = absurd (omega arith)
found_built w keys (suc i) m some = refl

-- what is cleared is as many zeros as were needed
cleared : {needed : ℕ} (before : List ℕ) {after : List ℕ} → length before ≡ needed → after ≡ zeros before → after ≡ replicate needed 0
cleared before is e = e ∙ ap (λ (k : ℕ). replicate k 0) is

-- what can be planned on still can where only lengths are kept; the bucket starts stand beside it
pub still : {keys starts : List ℕ} {first last slots : ℕ} {before after : Scratch}
    → CanPlan keys first last slots before.lone.now before.counts.now before.sums.now before.positions.now before.order.now starts
    → SameBuffers before after
    → CanPlan keys first last slots after.lone.now after.counts.now after.sums.now after.positions.now after.order.now starts
still can same =
    let seek = can.can_seek in
    record {
      can_seek =
          record {
            some = seek.some;
            ordered = seek.ordered;
            most = seek.most;
            can_attempt =
                record {
                  few = seek.can_attempt.few;
                  lone_length = same.lone_length ∙ seek.can_attempt.lone_length;
                  counts_length = same.counts_length ∙ seek.can_attempt.counts_length;
                  sums_length = same.sums_length ∙ seek.can_attempt.sums_length;
                  positions_room = omega (arith, same.positions_length, seek.can_attempt.positions_room);
                  order_room = omega (arith, same.order_length, seek.can_attempt.order_room);
                };
          };
      slots_are = can.slots_are;
      positions_length = same.positions_length ∙ can.positions_length;
      order_length = same.order_length ∙ can.order_length;
      starts_length = can.starts_length;
    }

-- the lists as the search left them, and the tables cleared then
module _ {keys : List ℕ} {first last slots : ℕ} {lone counts sums positions order starts : List ℕ}
    (can : CanPlan keys first last slots lone counts sums positions order starts) {found : ℕ} (sought : Sought keys first last found positions order)
    {lone' counts' sums' starts' : List ℕ} (lone-cleared : lone' ≡ zeros lone) (counts-cleared : counts' ≡ zeros counts) (sums-cleared : sums' ≡ zeros sums)
    (starts-cleared : starts' ≡ zeros starts) where
  abbrev n : ℕ
  n = length keys

  lone_are : lone' ≡ replicate (slot_count_of n) 0
  lone_are = cleared lone can.can_seek.can_attempt.lone_length lone-cleared

  counts_are : counts' ≡ replicate (slot_count_of n) 0
  counts_are = cleared counts can.can_seek.can_attempt.counts_length counts-cleared

  sums_are : sums' ≡ replicate (slot_count_of n) 0
  sums_are = cleared sums can.can_seek.can_attempt.sums_length sums-cleared

  starts_are : starts' ≡ replicate (bucket_starts_of n) 0
  starts_are = cleared starts can.starts_length starts-cleared

  -- ---- an attempt was free

  module _ (some : 1 ≤ found) {d : Descriptor} (described : d ≡ descriptor_at n found) where
    different : (repeated : Bool) → repeats? keys ≡ repeated → repeated ≡ false
    different true e = sym (sought.there some).0 ∙ repeats_not_free keys found can.can_seek.can_attempt.few e
    different false e = refl

    can_fill_found : CanFillFrom d n order positions (replicate slots 0)
    unfolding picks_at
    can_fill_found =
        rw (described, can.slots_are)
        (can_fill _ _ _ _ _ keys (segmented found can.can_seek.can_attempt.few) n (replicate (slot_count_of n) 0) order positions
        (length-replicate (slot_count_of n) 0) (omega (arith, can.order_length)) (omega (arith, can.positions_length)) (sought.there some).1)

    fingerprints_are : (w : ℕ) → fill_from w d n order positions (replicate slots 0) ≡ fingerprints_at w keys found
    unfolding fingerprints_at picks_at
    fingerprints_are w = rw (described, can.slots_are) (filled _ _ _ _ _ keys w n order positions (sought.there some).1)

    pub ends_found : Ended keys first last (Ok (Found (record { descriptor = d; slots = slots; attempt = found }))) (scratch lone' counts' sums' positions order starts')
    ends_found =
        record {
          can = λ m.
              record {
                in_room = omega (arith, can.slots_are);
                in_positions = omega (arith, length-append positions (drop n m.positions), can.positions_length);
                in_order = omega (arith, length-append order (drop (n + 1) m.order), can.order_length);
                can_fill = rw (take_at order (drop (n + 1) m.order) (n + 1) can.order_length, take_at positions (drop n m.positions) n can.positions_length) can_fill_found;
              };
          ends = λ w m.
              rw (
                take_at order (drop (n + 1) m.order) (n + 1) can.order_length,
                take_at positions (drop n m.positions) n can.positions_length,
                drop_at order (drop (n + 1) m.order) (n + 1) can.order_length,
                drop_at positions (drop n m.positions) n can.positions_length,
                fingerprints_are w,
                ← sought.is,
                different (repeats? keys) refl,
                found_built w keys found m some,
                lone_are,
                counts_are,
                sums_are,
                starts_are,
                described,
                can.slots_are,
              );
        }
