-- A whole attempt, step by step: what is counted are the sums of the keys' hashes, so what is taken is what the machine takes of the keys.
-- Assumes nothing.
use Rattle.std.proofs.Common.{◌≡◌, sym, ap, ◌∙◌, List, ℕ, length, arith}
use Rattle.arith.specs.declared.slots.Segments.{Segments}
use Rattle.stuck.specs.Stuck.{Pick}
use Rattle.machine.specs.Machine as machine
use Rattle.machine.specs.Machine.{sums_of, picks_from}
use Rattle.peel.specs.declared.sums.Sums.{Sums}
use Rattle.peel.specs.declared.stack.Stack.{Stack}
use Rattle.peel.specs.declared.taken.Taken.{Taken}
use Rattle.peel.specs.Segments.{hashes_of}
use Rattle.peel.specs.SlotsApart.{hashes_length, hashes_small}
use Rattle.peel.specs.Picks.{picks_of_keys}
use Rattle.peel.specs.Requires.{CanRun}
use Rattle.peel.specs.Held.{slots_by, sums_at, SameSums}
use Rattle.peel.specs.Steps.{Scanned, CanTakeAll}

module _ (segments : Segments) (seed : ℕ) (keys : List ℕ) where
  pub can_take_all : {cleared counted : Sums} {none stack : Stack} {taken : Taken}
      → CanRun segments.length segments.mask segments.span keys none.slots.now cleared.counts.now cleared.hashes.now taken.order.now taken.positions.now
      → SameSums cleared counted → sums_at counted ≡ sums_of (slots_by segments) (length cleared.counts.now) (hashes_of seed keys)
      → Scanned counted none stack → taken.count ≡ 0 → CanTakeAll segments counted stack taken
  can_take_all can same are scanned none-taken =
      record {
        hashes = hashes_of seed keys;
        small = hashes_small seed keys;
        layout = rw same.counts_length can.layout;
        sums_are = rw same.counts_length are;
        same_slots = scanned.same.slots_length ∙ can.same_lone ∙ sym same.counts_length;
        stacked = scanned.stack;
        within = scanned.within;
        none_taken = none-taken;
        order_room = omega (arith, hashes_length seed keys, can.order_room);
        positions_room = omega (arith, hashes_length seed keys, can.positions_room);
      }

  pub ran : (slots : ℕ) {sums : machine.Sums} {picks : List Pick} → sums ≡ sums_of (slots_by segments) slots (hashes_of seed keys)
      → picks ≡ picks_from (slots_by segments) sums → picks ≡ picks_of_keys segments.length segments.mask segments.span slots seed keys
  unfolding picks_of_keys
  ran slots are took = took ∙ ap (picks_from (slots_by segments)) are
