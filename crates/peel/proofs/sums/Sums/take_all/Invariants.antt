-- `peel::sums::Sums::take_all`: what was taken, and what the machine still takes from here, is the whole attempt.
use Rattle.machine.specs.Work.{work}
use Rattle.peel.specs.Held.{state_at}
use Rattle.peel.proofs.Turns.{Turn}
use Rattle.peel.proofs.sums.Sums.take_all.Given as goal

abbrev pub invariant-loop-slot : goal.invariant-loop-slot
invariant-loop-slot l = Turn l.segments l.fn.self l.fn.stack l.fn.taken l.self l.stack l.taken

abbrev pub decreases-loop-slot : goal.decreases-loop-slot
decreases-loop-slot l = work (state_at l.self l.stack)
