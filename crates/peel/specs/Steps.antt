-- What the steps of an attempt ask of the layout and of what they hold, and what those promise that say more than one equation. Assumes nothing.
use Rattle.std.specs.Prelude.{◌≡◌, Option, None, Some, cond, eqb, List, [], ◌∷◌, ℕ, ◌+◌, ◌/◌, ◌^◌, ◌≤◌, ◌<◌, length, get_or, replicate}
use Rattle.arith.specs.declared.slots.Segments.{Segments}
use Rattle.stuck.specs.Stuck.{slot_at}
use Rattle.machine.specs.Machine as machine
use Rattle.machine.specs.Machine.{sums_of, release, take_key, scan}
use Rattle.machine.specs.Work.{many}
use Rattle.peel.specs.declared.sums.Sums.{Sums}
use Rattle.peel.specs.declared.sums.Pick.{Pick}
use Rattle.peel.specs.declared.stack.Stack.{Stack}
use Rattle.peel.specs.declared.taken.Taken.{Taken}
use Rattle.peel.specs.Buffers.{max_touches, counts_in}
use Rattle.peel.specs.Requires.{Segmented}
use Rattle.peel.specs.Held.{slots_by, sums_at, stack_at, state_at, SameSums, SameStack}

-- the three numbers cut so many slots into segments
abbrev pub Cut : Segments → ℕ → Type 0
Cut segments slots = Segmented segments.length segments.mask segments.span slots

-- how many slots are touched twice or more
abbrev pub many_at : Sums → ℕ
many_at sums = many (counts_in sums.counts.now)

-- ---- one slot

pub record Inside (sums : Sums) (slot : ℕ) : Type 0 where
  pub in_counts : slot < length sums.counts.now
  pub in_hashes : slot < length sums.hashes.now

pub record CanTouch (sums : Sums) (position slot : ℕ) : Type 0 where
  pub inside : Inside sums slot
  pub few : get_or sums.counts.now slot 0 / 4 < max_touches
  pub two_bits : position < 4

pub record CanLeave (sums : Sums) (position slot : ℕ) : Type 0 where
  pub inside : Inside sums slot
  pub some : 4 ≤ get_or sums.counts.now slot 0
  pub two_bits : position < 4

-- the key of a slot that is touched once: the sum of one hash is that hash, and so is that of one position
unfoldable pub only_at : machine.Sums → ℕ → Option Pick
only_at sums slot = cond (eqb (get_or sums.counts slot 0) 1) (Some (record { hash = get_or sums.hashes slot 0; position = get_or sums.positions slot 0 })) None

-- ---- counting

pub record CanAdd (segments : Segments) (sums : Sums) : Type 0 where
  pub layout : Cut segments (length sums.counts.now)
  pub same : length sums.hashes.now ≡ length sums.counts.now
  pub few : (slot : ℕ) → get_or sums.counts.now slot 0 / 4 < max_touches

pub record CanCount (segments : Segments) (keys : List ℕ) (sums : Sums) : Type 0 where
  pub layout : Cut segments (length sums.counts.now)
  pub few : length keys ≤ max_touches
  pub counts_clear : sums.counts.now ≡ replicate (length sums.counts.now) 0
  pub hashes_clear : sums.hashes.now ≡ replicate (length sums.counts.now) 0

-- ---- stacking

-- what a stack was before its last slot was popped, if it had one
abbrev pub before_pop : Option ℕ → List ℕ → List ℕ
before_pop None stack = []
before_pop (Some slot) stack = slot ∷ stack

pub record CanScan (sums : Sums) (stack : Stack) : Type 0 where
  pub same : length stack.slots.now ≡ length sums.counts.now
  pub numbered : length sums.counts.now < 2 ^ 32
  pub empty : stack.top ≡ 0

pub record Scanned (sums : Sums) (old new : Stack) : Type 0 where
  pub same : SameStack old new
  pub stack : stack_at new ≡ scan 0 (counts_in sums.counts.now) []
  pub within : new.top ≤ length sums.counts.now

-- ---- taking keys. The slots stacked and those touched twice or more are together fewer than the slots, so that the stack has room

pub record CanPush (key : Pick) (taken : Taken) : Type 0 where
  pub in_order : taken.count < length taken.order.now
  pub in_positions : taken.count < length taken.positions.now
  pub byte : key.position < 2 ^ 8

pub record CanRelease (sums : Sums) (stack : Stack) (position slot : ℕ) : Type 0 where
  pub can_leave : CanLeave sums position slot
  pub room : stack.top < length stack.slots.now

pub record Released (sums : Sums) (stack : Stack) (hash position slot : ℕ) (sums' : Sums) (stack' : Stack) : Type 0 where
  pub same_sums : SameSums sums sums'
  pub same_stack : SameStack stack stack'
  pub state : state_at sums' stack' ≡ release hash position slot (state_at sums stack)
  pub work : stack'.top + many_at sums' ≡ stack.top + many_at sums

pub record CanTake (segments : Segments) (sums : Sums) (stack : Stack) (key : Pick) : Type 0 where
  pub layout : Cut segments (length sums.counts.now)
  pub same_hashes : length sums.hashes.now ≡ length sums.counts.now
  pub same_slots : length stack.slots.now ≡ length sums.counts.now
  pub position_is : key.position < 3
  pub room : stack.top + many_at sums < length sums.counts.now
  pub some : (q : ℕ) → 1 ≤ get_or (counts_in sums.counts.now) (slot_at (slots_by segments key.hash) q) 0

pub record TookKey (segments : Segments) (sums : Sums) (stack : Stack) (key : Pick) (sums' : Sums) (stack' : Stack) : Type 0 where
  pub same_sums : SameSums sums sums'
  pub same_stack : SameStack stack stack'
  pub state : state_at sums' stack' ≡ take_key (slots_by segments key.hash) key.hash key.position (state_at sums stack)
  pub work : stack'.top + many_at sums' ≡ stack.top + many_at sums

-- the sums are those of some hashes, the lone slots are stacked, and there is room for all that may be taken
pub record CanTakeAll (segments : Segments) (sums : Sums) (stack : Stack) (taken : Taken) : Type 0 where
  pub hashes : List ℕ
  pub small : (i : ℕ) → i < length hashes → get_or hashes i 0 < 2 ^ 64
  pub layout : Cut segments (length sums.counts.now)
  pub sums_are : sums_at sums ≡ sums_of (slots_by segments) (length sums.counts.now) hashes
  pub same_slots : length stack.slots.now ≡ length sums.counts.now
  pub stacked : stack_at stack ≡ scan 0 (counts_in sums.counts.now) []
  pub within : stack.top ≤ length sums.counts.now
  pub none_taken : taken.count ≡ 0
  pub order_room : length hashes ≤ length taken.order.now
  pub positions_room : length hashes ≤ length taken.positions.now
