-- `peel::run` meets its contract: the sums counted are those of the keys' hashes. Assumes nothing.
use Rattle.std.proofs.Common.{refl, rules}
use Rattle.peel.proofs.Running.{can_take_all, ran}
use Rattle.peel.proofs.run.Goals as goal

pub take_all-requires : goal.take_all-requires
take_all-requires c =
    let counted = c.count_keys.ensures in
    can_take_all c.args.segments c.args.seed c.args.keys.now c.requires.can counted.same counted.sums c.stack_lone.ensures refl

pub returns-clause-picks : goal.returns-clause-picks
returns-clause-picks c =
    let told = ran c.args.segments c.args.seed c.args.keys.now _ c.count_keys.ensures.sums c.take_all.ensures.picks in search rules
