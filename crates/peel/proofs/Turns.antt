-- The loop that pops slots and takes keys, turn by turn, against the machine. Assumes nothing.
use Rattle.std.proofs.Common.{◌≡◌, ◌≢◌, refl, sym, ap, ◌∙◌, subst, Bool, true, false, T, cond, eqb, eqb→eq, Option, None, Some}
use mathlib.Core.List.Memᴰ
use mathlib.Core.List.{List, [], ◌∷◌, ◌++◌}
use Prim.Native.Nat.{ℕ, zero, suc, ◌+◌, ◌-◌, ◌≤◌, ◌<◌}
use native.Mathlib.Numerals.{add-one}
use native.Mathlib.Omega.{arith}
use lib.ListN.{length, get_or, set}
use lib.Seq.{get_or-set_same, get_or-set_other}
use Rattle.arith.specs.declared.slots.Segments.{Segments}
use Rattle.stuck.specs.Stuck.{Slots, pick}
use Rattle.stuck.specs.Ring.{Apart}
use Rattle.machine.specs.Machine as machine
use Rattle.machine.specs.Machine.{sums_of, scan, picks_from, picks_of}
use Rattle.machine.specs.Work.{work}
use Rattle.machine.proofs.Work.{take-work}
use Rattle.machine.proofs.Loop.{Going, going_start, going_skip, going_take, going_end, Took}
use Rattle.peel.specs.declared.sums.Sums.{Sums}
use Rattle.peel.specs.declared.sums.Pick.{Pick}
use Rattle.peel.specs.declared.stack.Stack.{Stack}
use Rattle.peel.specs.declared.taken.Taken.{Taken}
use Rattle.peel.specs.SlotsApart.{slots_apart}
use Rattle.peel.specs.Buffers.{sums_in, picks_in}
use Rattle.peel.specs.PicksIn.{picks_in_length}
use Rattle.peel.specs.Held.{slots_by, sums_at, stack_at, state_at, pick_at, taken_at, SameSums, SameStack, SameTaken}
use Rattle.peel.specs.Steps.{many_at, Inside, only_at, CanPush, CanTake, TookKey, CanTakeAll}
use Rattle.peel.proofs.Stacking.{stack_length}
use Rattle.peel.proofs.Same.{sums_stay, sums_then, stack_stays, stack_then, lists_stay, lists_then}

-- ---- the keys taken so far, and one more

picks_before : (k i : ℕ) (order positions : List ℕ) (hash position : ℕ) → k ≤ i
    → picks_in k (set order i hash) (set positions i position) ≡ picks_in k order positions
unfolding picks_in
picks_before zero i order positions hash position h = refl
picks_before (suc k) i order positions hash position h =
    rw (
      picks_before k i order positions hash position (omega arith),
      get_or-set_other order i k hash 0 (omega arith),
      get_or-set_other positions i k position 0 (omega arith),
    )

pub picks_more : (k : ℕ) (order positions : List ℕ) (hash position : ℕ) → k < length order → k < length positions
    → picks_in (k + 1) (set order k hash) (set positions k position) ≡ picks_in k order positions ++ (pick hash position ∷ [])
unfolding picks_in
picks_more k order positions hash position in_order in_positions =
    rw (add-one k)
    (rw (
      picks_before k k order positions hash position (omega arith),
      get_or-set_same order k hash 0 in_order,
      get_or-set_same positions k position 0 in_positions,
    ))

-- ---- the only key of a slot

by_cond : {A : Type 0} (b : Bool) (k key : A) → Some key ≡ cond b (Some k) None → T b × (key ≡ k)
by_cond true k key e = (tt, cc)
by_cond false k key e = absurd cc

only_is : (a : machine.Sums) (slot : ℕ) (key : Pick) → ◌≡◌ {A = Option Pick} (Some key) (only_at a slot)
    → (get_or a.counts slot 0 ≡ 1) × (key ≡ record { hash = get_or a.hashes slot 0; position = get_or a.positions slot 0 })
unfolding only_at
only_is a slot key e = let w = by_cond (eqb (get_or a.counts slot 0) 1) _ key e in (eqb→eq _ _ w.0, w.1)

not_only : (a : machine.Sums) (slot : ℕ) → ◌≡◌ {A = Option Pick} None (only_at a slot) → get_or a.counts slot 0 ≢ 1
unfolding only_at
not_only a slot e one = let n = rw one at e in cc

-- ---- what holds each time round

-- from the sums, the stack and the lists that the loop began with, the machine has come to these
pub record Turn (segments : Segments) (sums0 : Sums) (stack0 : Stack) (lists : Taken) (sums : Sums) (stack : Stack) (taken : Taken) : Type 0 where
  pub can : CanTakeAll segments sums0 stack0 lists
  pub same_sums : SameSums sums0 sums
  pub same_stack : SameStack stack0 stack
  pub same_lists : SameTaken lists taken
  pub going : Going (slots_by segments) can.hashes (length sums0.counts.now) (taken_at taken) (sums_at sums) (stack_at stack)
  pub within : stack.top ≤ length sums0.counts.now

pub turn_start : {segments : Segments} {sums : Sums} {stack : Stack} {taken : Taken} → CanTakeAll segments sums stack taken
    → Turn segments sums stack taken sums stack taken
unfolding picks_in sums_in
turn_start {segments} {sums} {stack} can =
    record {
      can = can;
      same_sums = sums_stay;
      same_stack = stack_stays;
      same_lists = lists_stay;
      going = rw can.none_taken
          (subst (λ (a : machine.Sums). Going slots can.hashes n [] a (stack_at stack)) (sym can.sums_are)
          (rw can.stacked
          (subst (λ (a : machine.Sums). Going slots can.hashes n [] (sums_of slots n can.hashes) (scan 0 a.counts [])) (sym can.sums_are)
          (going_start slots can.hashes n))));
      within = can.within;
    }
  where
    slots : ℕ → Slots
    slots = slots_by segments

    n : ℕ
    n = length sums.counts.now

module _ {segments : Segments} {sums0 sums : Sums} {stack0 stack : Stack} {lists taken : Taken} (t : Turn segments sums0 stack0 lists sums stack taken) where
  abbrev slots : ℕ → Slots
  slots = slots_by segments

  abbrev n : ℕ
  n = length sums0.counts.now

  abbrev hashes : List ℕ
  hashes = t.can.hashes

  -- the machine stands at these sums and a stack
  abbrev At : List ℕ → Type 0
  At stack = Going slots hashes n (taken_at taken) (sums_at sums) stack

  hashes_long : length sums.hashes.now ≡ n
  unfolding sums_in
  hashes_long = t.going.standing.long.in_hashes

  -- the stack was empty
  pub turn_end : stack_at stack ≡ [] → taken_at taken ≡ picks_from slots (sums_at sums0)
  turn_end e = going_end slots hashes n (taken_at taken) (sums_at sums) (subst At e t.going) ∙ ap (picks_from slots) (sym t.can.sums_are)

  -- a slot was popped off it
  module _ {rest : Stack} {slot : ℕ} (popped : stack_at stack ≡ slot ∷ stack_at rest) (same : SameStack stack rest) (top_is : rest.top ≡ stack.top - 1) where
    at : At (slot ∷ stack_at rest)
    at = subst At popped t.going

    slots_long : length rest.slots.now ≡ n
    slots_long = same.slots_length ∙ t.same_stack.slots_length ∙ t.can.same_slots

    room : rest.top + many_at sums < n
    unfolding sums_in
    room = omega (arith, at.room, slots_long, t.within, stack_length rest.slots.now rest.top)

    pub turn_inside : Inside sums slot
    turn_inside =
        let below : slot < n = at.standing.inside slot (Memᴰ.head refl) in
        record { in_counts = omega (arith, below, t.same_sums); in_hashes = omega (arith, below, hashes_long) }

    -- it is not touched once
    pub turn_skip : ◌≡◌ {A = Option Pick} None (only_at (sums_at sums) slot) → Turn segments sums0 stack0 lists sums rest taken
    turn_skip none =
        record {
          can = t.can;
          same_sums = t.same_sums;
          same_stack = stack_then t.same_stack same;
          same_lists = t.same_lists;
          going = going_skip slots hashes n (taken_at taken) (sums_at sums) slot (stack_at rest) at (not_only (sums_at sums) slot none);
          within = omega (arith, t.within);
        }

    -- it is touched once
    module _ {key : Pick} (only : ◌≡◌ {A = Option Pick} (Some key) (only_at (sums_at sums) slot)) where
      apart : (i : ℕ) → i < length hashes → Apart n (slots (get_or hashes i 0))
      apart i lt = slots_apart t.can.layout (get_or hashes i 0) (t.can.small i lt)

      key-taken : Took slots hashes n (taken_at taken) (sums_at sums) (stack_at rest) key.hash key.position
      key-taken =
          let w = only_is (sums_at sums) slot key only in
          subst (λ (k : Pick). Took slots hashes n (taken_at taken) (sums_at sums) (stack_at rest) k.hash k.position) (sym w.1)
          (going_take slots hashes n (taken_at taken) (sums_at sums) slot (stack_at rest) apart at w.0)

      pub turn_can_push : CanPush key taken
      turn_can_push =
          let fewer : taken.count < length hashes = omega (arith, key-taken.more, picks_in_length taken.count taken.order.now taken.positions.now) in
          record {
            in_order = omega (arith, fewer, t.can.order_room, t.same_lists);
            in_positions = omega (arith, fewer, t.can.positions_room, t.same_lists);
            byte = omega (arith, key-taken.small);
          }

      pub turn_can_take : CanTake segments sums rest key
      unfolding sums_in
      turn_can_take =
          record {
            layout = rw t.same_sums.counts_length t.can.layout;
            same_hashes = hashes_long ∙ sym t.same_sums.counts_length;
            same_slots = slots_long ∙ sym t.same_sums.counts_length;
            position_is = key-taken.small;
            room = omega (arith, room, t.same_sums);
            some = key-taken.touched;
          }

      module _ {sums' : Sums} {stack' : Stack} (took : TookKey segments sums rest key sums' stack') where
        pub turn_less : work (state_at sums' stack') < work (state_at sums stack)
        turn_less = omega (arith, ap work took.state, take-work (slots key.hash) key.hash key.position (state_at sums rest), ap length popped)

        pub turn_take : {longer : Taken} → SameTaken taken longer → taken_at longer ≡ taken_at taken ++ (pick_at key ∷ [])
            → Turn segments sums0 stack0 lists sums' stack' longer
        turn_take same_lists pushed =
            record {
              can = t.can;
              same_sums = sums_then t.same_sums took.same_sums;
              same_stack = stack_then (stack_then t.same_stack same) took.same_stack;
              same_lists = lists_then t.same_lists same_lists;
              going = rw pushed
                  (subst (λ (st : machine.State). Going slots hashes n (taken_at taken ++ (pick_at key ∷ [])) st.sums st.stack) (sym took.state)
                  key-taken.then);
              within = omega (arith, took.work, room);
            }
