-- A key that leaves a slot, and a key that is taken and leaves its other two, against the machine. Assumes nothing.
use mathlib.Core.Path.{◌≡◌, refl, sym, ap, ◌∙◌}
use mathlib.Core.Logic.{◌≢◌}
use mathlib.Core.List.{List}
use Prim.Native.Nat.{ℕ, zero, suc, ◌+◌, ◌-◌, ◌%◌, ◌^◌, ◌≤◌, ◌<◌}
use native.Mathlib.Omega.{arith}
use lib.ListN.{length, get_or}
use lib.Dec.{eqb}
use Rattle.arith.specs.declared.slots.Segments.{Segments}
use Rattle.arith.specs.Slots.{slots_of}
use Rattle.stuck.specs.Total.{bit}
use Rattle.stuck.specs.Stuck.{Slots, slot_at, next}
use Rattle.stuck.specs.Ring.{Apart, slot_below, apart_from}
use Rattle.machine.specs.Machine as machine
use Rattle.machine.specs.Machine.{change_at, push_if, release, take_key}
use Rattle.machine.specs.Known.{Known}
use Rattle.machine.specs.Work.{many, many-change}
use Rattle.machine.proofs.Take.{release_other}
use Rattle.peel.specs.declared.sums.Sums.{Sums}
use Rattle.peel.specs.declared.sums.Pick.{Pick}
use Rattle.peel.specs.declared.stack.Stack.{Stack}
use Rattle.peel.specs.SlotsApart.{slots_apart}
use Rattle.peel.specs.SlotsRead.{slot_read}
use Rattle.peel.specs.Buffers.{counts_in, sums_in}
use Rattle.peel.specs.CountsExact.{count_at}
use Rattle.peel.specs.Held.{slots_by, sums_at, stack_at, state_at, SameSums, SameStack}
use Rattle.peel.proofs.Same.{sums_then, stack_then}
use Rattle.peel.specs.Steps.{CanRelease, Released, CanTake, TookKey}

-- ---- leaving a slot

pub released_is : {sums sums' : Sums} {stack stack' : Stack} {hash position slot before : ℕ} → SameSums sums sums' → SameStack stack stack'
    → sums_at sums' ≡ change_at (λ c. c - 1) hash position slot (sums_at sums) → before ≡ get_or (sums_at sums).counts slot 0
    → stack_at stack' ≡ push_if (eqb before 2) slot (stack_at stack) → stack'.top ≡ bit (eqb before 2) + stack.top
    → Released sums stack hash position slot sums' stack'
unfolding release change_at sums_in
released_is {sums} {stack = stack} {slot = slot} same_sums same_stack left before_is pushed top_is =
    record {
      same_sums = same_sums;
      same_stack = same_stack;
      state = λ i. record { sums = left i; stack = (pushed ∙ ap (λ (x : ℕ). push_if (eqb x 2) slot (stack_at stack)) before_is) i };
      work = omega (
        arith,
        top_is,
        many-change slot (counts_in sums.counts.now),
        ap (λ (a : machine.Sums). many a.counts) left,
        ap (λ (x : ℕ). bit (eqb x 2)) before_is,
      );
    }

-- another slot's count stays
released_other : {sums sums' : Sums} {stack stack' : Stack} {hash position slot : ℕ} → Released sums stack hash position slot sums' stack'
    → (x : ℕ) → x ≢ slot → get_or (counts_in sums'.counts.now) x 0 ≡ get_or (counts_in sums.counts.now) x 0
unfolding sums_in
released_other {sums} {stack = stack} {hash = hash} {position = position} {slot = slot} k x ne =
    ap (λ (st : machine.State). get_or st.sums.counts x 0) k.state
    ∙ ap (λ (known : Known). known.count) (release_other hash position slot (state_at sums stack) x ne)

-- ---- positions, modulo 3

next_is : (p : ℕ) → p < 3 → (p + 1) % 3 ≡ next p
next_is zero h = refl
next_is (suc zero) h = refl
next_is (suc (suc zero)) h = refl
next_is (suc (suc (suc p))) h = absurd (omega arith)

after_is : (p : ℕ) → p < 3 → (p + 2) % 3 ≡ next (next p)
after_is zero h = refl
after_is (suc zero) h = refl
after_is (suc (suc zero)) h = refl
after_is (suc (suc (suc p))) h = absurd (omega arith)

-- ---- taking a key

module _ {segments : Segments} {sums : Sums} {stack : Stack} {pick : Pick} {three : List ℕ} (can : CanTake segments sums stack pick)
    (small : pick.hash < 2 ^ 64) (are : three ≡ slots_of pick.hash segments.length segments.mask segments.span) where
  abbrev key : Slots
  key = slots_by segments pick.hash

  abbrev n : ℕ
  n = length sums.counts.now

  abbrev q : ℕ
  q = (pick.position + 1) % 3

  abbrev r : ℕ
  r = (pick.position + 2) % 3

  apart : Apart n key
  apart = slots_apart can.layout pick.hash small

  at_q : get_or three q 0 ≡ slot_at key (next pick.position)
  at_q = slot_read segments.length segments.mask segments.span pick.hash are q (omega arith) ∙ ap (slot_at key) (next_is pick.position can.position_is)

  at_r : get_or three r 0 ≡ slot_at key (next (next pick.position))
  at_r = slot_read segments.length segments.mask segments.span pick.hash are r (omega arith) ∙ ap (slot_at key) (after_is pick.position can.position_is)

  -- a slot that some key touches
  some_key : (counts : List ℕ) (slot : ℕ) → 1 ≤ get_or (counts_in counts) slot 0 → 4 ≤ get_or counts slot 0
  some_key counts slot h = omega (arith, count_at counts slot)

  pub can_release_next : CanRelease sums stack q (get_or three q 0)
  can_release_next =
      let inside : get_or three q 0 < n = rw at_q (slot_below n key apart (next pick.position)) in
      record {
        can_leave = record {
          inside = record { in_counts = inside; in_hashes = omega (arith, inside, can.same_hashes) };
          some = some_key sums.counts.now (get_or three q 0) (rw at_q (can.some (next pick.position)));
          two_bits = omega arith;
        };
        room = omega (arith, can.room, can.same_slots);
      }

  module _ {sums' : Sums} {stack' : Stack} (first : Released sums stack pick.hash q (get_or three q 0) sums' stack') where
    differ : get_or three r 0 ≢ get_or three q 0
    differ e = (apart_from n key apart pick.position can.position_is).two≢one (sym at_r ∙ e ∙ at_q)

    pub can_release_after : CanRelease sums' stack' r (get_or three r 0)
    can_release_after =
        let inside : get_or three r 0 < n = rw at_r (slot_below n key apart (next (next pick.position))) in
        record {
          can_leave = record {
            inside = record { in_counts = omega (arith, inside, first.same_sums); in_hashes = omega (arith, inside, first.same_sums, can.same_hashes) };
            some = some_key sums'.counts.now (get_or three r 0)
                (rw (released_other first (get_or three r 0) differ, at_r) (can.some (next (next pick.position))));
            two_bits = omega arith;
          };
          room = omega (arith, can.room, can.same_slots, first.same_stack, first.work);
        }

    pub took : {sums'' : Sums} {stack'' : Stack} → Released sums' stack' pick.hash r (get_or three r 0) sums'' stack''
        → TookKey segments sums stack pick sums'' stack''
    unfolding take_key
    took second =
        record {
          same_sums = sums_then first.same_sums second.same_sums;
          same_stack = stack_then first.same_stack second.same_stack;
          state = second.state ∙ ap (release pick.hash r (get_or three r 0)) first.state
              ∙ rw (at_r, at_q, next_is pick.position can.position_is, after_is pick.position can.position_is);
          work = second.work ∙ first.work;
        }
