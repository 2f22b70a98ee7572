-- `peel::sums::Sums::stack_lone`: what is to come, stacked onto what is stacked, is all.
use Rattle.peel.proofs.Scanning.{Scanning}
use Rattle.peel.proofs.sums.Sums.stack_lone.Given as goal

abbrev pub invariant-loop-slot : goal.invariant-loop-slot
invariant-loop-slot l = Scanning l.self.counts.now l.fn.stack l.stack l.slot
