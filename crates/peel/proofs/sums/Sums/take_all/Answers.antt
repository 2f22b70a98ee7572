-- `peel::sums::Sums::take_all` meets its contract: what was taken, and what the machine still takes from here, is the whole attempt. Assumes
-- nothing.
use Rattle.peel.proofs.Turns.{turn_start, turn_end, turn_inside, turn_skip, turn_can_push, turn_can_take, turn_less, turn_take}
use Rattle.peel.proofs.sums.Sums.take_all.Goals as goal

pub loop-slot-init : goal.loop-slot-init
loop-slot-init c = turn_start c.requires

pub only_key-requires : goal.only_key-requires
only_key-requires c = let popped = c.in-Some.ensures in turn_inside c.loop-slot.invariant popped.stack popped.same popped.top

pub push-requires : goal.push-requires
push-requires c =
    let popped = c.in-Some.ensures in
    turn_can_push c.loop-slot.invariant popped.stack popped.same popped.top c.in-Some-only_key.ensures

pub take_key-requires : goal.take_key-requires
take_key-requires c =
    let popped = c.in-Some.ensures in
    turn_can_take c.loop-slot.invariant popped.stack popped.same popped.top c.in-Some-only_key.ensures

pub loop-slot-smaller-in-Some-only_key : goal.loop-slot-smaller-in-Some-only_key
loop-slot-smaller-in-Some-only_key c =
    let popped = c.in-Some.ensures in
    turn_less c.loop-slot.invariant popped.stack popped.same popped.top c.in-Some-only_key.ensures c.take_key.ensures

pub loop-slot-preserved-in-Some-only_key : goal.loop-slot-preserved-in-Some-only_key
loop-slot-preserved-in-Some-only_key c =
    let popped = c.in-Some.ensures in
    turn_take c.loop-slot.invariant popped.stack popped.same popped.top c.in-Some-only_key.ensures c.take_key.ensures c.push.ensures.same
    c.push.ensures.picks

pub loop-slot-preserved : goal.loop-slot-preserved
loop-slot-preserved c =
    let popped = c.in-Some.ensures in
    turn_skip c.loop-slot.invariant popped.stack popped.same popped.top c.in_default-only_key.ensures

pub returns-clause-picks : goal.returns-clause-picks
returns-clause-picks c = turn_end c.loop-slot.invariant c.in_default.ensures.stack
