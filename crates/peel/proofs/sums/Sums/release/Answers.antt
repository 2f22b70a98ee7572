-- `peel::sums::Sums::release` meets its contract: the slot is stacked exactly if its count was two. Assumes nothing.
use Rattle.peel.proofs.Releasing.{released_is}
use Rattle.peel.proofs.sums.Sums.release.Goals as goal

pub returns : goal.returns
returns c =
    let left = c.leave-count.ensures in
    let pushed = c.push_if.ensures in
    released_is left.same pushed.same left.sums left.before pushed.stack pushed.top
