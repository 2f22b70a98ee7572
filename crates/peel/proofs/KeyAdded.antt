-- A key that touches its three slots, one after the other, is added to the sums. Assumes nothing.
use mathlib.Core.Path.{◌≡◌, sym, ap, ◌∙◌}
use mathlib.Core.Logic.{◌≢◌}
use mathlib.Core.List.{List}
use Prim.Native.Nat.{ℕ, zero, suc, ◌+◌, ◌/◌, ◌^◌, ◌<◌}
use native.Mathlib.Omega.{arith}
use lib.ListN.{length, get_or}
use Rattle.arith.specs.declared.slots.Segments.{Segments}
use Rattle.arith.specs.Slots.{slots_of}
use Rattle.stuck.specs.Stuck.{Slots, slot_at}
use Rattle.stuck.specs.Ring.{Apart}
use Rattle.machine.specs.Machine as machine
use Rattle.machine.specs.Known.{Known}
use Rattle.machine.specs.SumsByKey.{touch, add_key, touch_other}
use Rattle.peel.specs.declared.sums.Sums.{Sums}
use Rattle.peel.specs.SlotsApart.{slots_apart}
use Rattle.peel.specs.SlotsRead.{slot_read, slot_inside}
use Rattle.peel.specs.Buffers.{max_touches, sums_in}
use Rattle.peel.specs.CountsExact.{count_at}
use Rattle.peel.specs.Held.{slots_by, sums_at, SameSums}
use Rattle.peel.specs.Steps.{CanTouch, CanAdd}
use Rattle.peel.proofs.Same.{sums_stay, sums_then}

-- another slot's count stays
touched_other : (old new : Sums) (hash position slot : ℕ) → sums_at new ≡ touch hash position slot (sums_at old)
    → (x : ℕ) → x ≢ slot → get_or new.counts.now x 0 / 4 ≡ get_or old.counts.now x 0 / 4
unfolding sums_in
touched_other old new hash position slot e x ne =
    sym (count_at new.counts.now x) ∙ ap (λ (a : machine.Sums). get_or a.counts x 0) e
    ∙ ap (λ (k : Known). k.count) (touch_other hash position slot (sums_at old) x ne)
    ∙ count_at old.counts.now x

-- a later position has another slot
later_differs : (n : ℕ) (t : Slots) → Apart n t → (p q : ℕ) → p < q → q < 3 → slot_at t q ≢ slot_at t p
later_differs n t apart zero (suc zero) lt small = λ e. apart.ne01 (sym e)
later_differs n t apart zero (suc (suc zero)) lt small = λ e. apart.ne02 (sym e)
later_differs n t apart (suc zero) (suc (suc zero)) lt small = λ e. apart.ne12 (sym e)
later_differs n t apart p zero lt small = absurd (omega arith)
later_differs n t apart (suc p) (suc zero) lt small = absurd (omega arith)
later_differs n t apart (suc (suc p)) (suc (suc zero)) lt small = absurd (omega arith)
later_differs n t apart p (suc (suc (suc q))) lt small = absurd (omega arith)

-- the slots at the first q positions of a key are touched: there is room for the others
pub record Touching (key : Slots) (start : Sums) (q : ℕ) (sums : Sums) : Type 0 where
  pub same : SameSums start sums
  pub few : (slot : ℕ) → ((p : ℕ) → p < q → slot ≢ slot_at key p) → get_or sums.counts.now slot 0 / 4 < max_touches

module _ {segments : Segments} {hash : ℕ} {start : Sums} {three : List ℕ} (can : CanAdd segments start) (small : hash < 2 ^ 64)
    (are : three ≡ slots_of hash segments.length segments.mask segments.span) where
  abbrev key : Slots
  key = slots_by segments hash

  apart : Apart (length start.counts.now) key
  apart = slots_apart can.layout hash small

  at : (q : ℕ) → q < 3 → get_or three q 0 ≡ slot_at key q
  at = slot_read segments.length segments.mask segments.span hash are

  pub touch_start : Touching key start 0 start
  touch_start = record { same = sums_stay; few = λ slot others. can.few slot }

  module _ {q : ℕ} {sums : Sums} (lt : q < 3) (k : Touching key start q sums) where
    pub can_touch : CanTouch sums q (get_or three q 0)
    can_touch =
        let inside : get_or three q 0 < length start.counts.now = slot_inside can.layout small are q lt in
        record {
          inside = record { in_counts = omega (arith, inside, k.same); in_hashes = omega (arith, inside, k.same, can.same) };
          few = k.few (get_or three q 0) (λ p before. rw (at q lt) (later_differs (length start.counts.now) key apart p q before lt));
          two_bits = omega arith;
        }

    pub touch-next : {new : Sums} → SameSums sums new → sums_at new ≡ touch hash q (get_or three q 0) (sums_at sums)
        → Touching key start (q + 1) new
    touch-next {new} same e =
        record {
          same = sums_then k.same same;
          few = λ slot others.
              rw (touched_other sums new _ _ _ e slot (λ own. others q (omega arith) (own ∙ at q lt)))
              (k.few slot (λ p before. others p (omega arith)));
        }

  pub added : (start one two new : machine.Sums) → one ≡ touch hash 0 (get_or three 0 0) start → two ≡ touch hash 1 (get_or three 1 0) one
      → new ≡ touch hash 2 (get_or three 2 0) two → new ≡ add_key key hash start
  unfolding add_key
  added start one two new e1 e2 e3 =
      e3 ∙ ap (touch hash 2 (get_or three 2 0)) (e2 ∙ ap (touch hash 1 (get_or three 1 0)) e1)
      ∙ rw (at 0 (omega arith), at 1 (omega arith), at 2 (omega arith))
