-- `peel::sums::Sums::add_key` meets its contract: the three slots differ, so each touch leaves room for the next. Assumes nothing.
use Rattle.std.proofs.Common.{arith}
use Rattle.peel.proofs.KeyAdded.{touch_start, can_touch, touch-next, added}
use Rattle.peel.proofs.sums.Sums.add_key.Goals as goal

pub touch-requires : goal.touch-requires
touch-requires c =
    let can = c.requires in
    let are = c.slots.ensures in
    can_touch can (omega arith) are (omega arith) (touch_start can (omega arith) are)

pub touch-requires-2 : goal.touch-requires-2
touch-requires-2 c =
    let can = c.requires in
    let are = c.slots.ensures in
    let one = touch-next can (omega arith) are (omega arith) (touch_start can (omega arith) are) c.touch.ensures.same c.touch.ensures.sums in
    can_touch can (omega arith) are (omega arith) one

pub touch-requires-3 : goal.touch-requires-3
touch-requires-3 c =
    let can = c.requires in
    let are = c.slots.ensures in
    let one = touch-next can (omega arith) are (omega arith) (touch_start can (omega arith) are) c.touch.ensures.same c.touch.ensures.sums in
    let two = touch-next can (omega arith) are (omega arith) one c.touch-2.ensures.same c.touch-2.ensures.sums in
    can_touch can (omega arith) are (omega arith) two

pub returns-clause-sums : goal.returns-clause-sums
returns-clause-sums c = added c.requires (omega arith) c.slots.ensures _ _ _ _ c.touch.ensures.sums c.touch-2.ensures.sums c.touch-3.ensures.sums
