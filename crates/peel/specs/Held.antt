-- What the code holds, as document 01 speaks of it: the sums of the slots, the stack, the keys taken. And when a call leaves the same buffers
-- lent. Assumes nothing.
use Rattle.std.specs.Prelude.{◌≡◌, List, ℕ, length}
use Rattle.arith.specs.declared.slots.Segments.{Segments}
use Rattle.stuck.specs.Stuck as stuck
use Rattle.stuck.specs.Stuck.{Slots, pick}
use Rattle.machine.specs.Machine as machine
use Rattle.peel.specs.declared.sums.Sums.{Sums}
use Rattle.peel.specs.declared.sums.Pick.{Pick}
use Rattle.peel.specs.declared.stack.Stack.{Stack}
use Rattle.peel.specs.declared.taken.Taken.{Taken}
use Rattle.peel.specs.Segments.{slots_in}
use Rattle.peel.specs.Buffers.{sums_in, stack_of, picks_in}

-- the three slots of a hash
abbrev pub slots_by : Segments → ℕ → Slots
slots_by segments = slots_in segments.length segments.mask segments.span

abbrev pub sums_at : Sums → machine.Sums
sums_at sums = sums_in sums.counts.now sums.hashes.now

abbrev pub stack_at : Stack → List ℕ
stack_at stack = stack_of stack.slots.now stack.top

abbrev pub state_at : Sums → Stack → machine.State
state_at sums stack = record { sums = sums_at sums; stack = stack_at stack }

abbrev pub pick_at : Pick → stuck.Pick
pick_at key = pick key.hash key.position

abbrev pub taken_at : Taken → List stuck.Pick
taken_at taken = picks_in taken.count taken.order.now taken.positions.now

-- ---- the same buffers are lent, each as long as it was

pub record SameSums (old new : Sums) : Type 0 where
  pub counts : new.counts.ghost_name ≡ old.counts.ghost_name
  pub hashes : new.hashes.ghost_name ≡ old.hashes.ghost_name
  pub counts_length : length new.counts.now ≡ length old.counts.now
  pub hashes_length : length new.hashes.now ≡ length old.hashes.now

pub record SameStack (old new : Stack) : Type 0 where
  pub slots : new.slots.ghost_name ≡ old.slots.ghost_name
  pub slots_length : length new.slots.now ≡ length old.slots.now

pub record SameTaken (old new : Taken) : Type 0 where
  pub order : new.order.ghost_name ≡ old.order.ghost_name
  pub positions : new.positions.ghost_name ≡ old.positions.ghost_name
  pub order_length : length new.order.now ≡ length old.order.now
  pub positions_length : length new.positions.now ≡ length old.positions.now
