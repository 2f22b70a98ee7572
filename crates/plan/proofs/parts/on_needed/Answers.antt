-- `plan::parts::on_needed` meets its contract: the needed parts can be planned on, and are put back. Assumes nothing.
use Rattle.plan.specs.Plans.{scratch}
use Rattle.plan.proofs.PutBack.{parts_can_plan, planned}
use Rattle.plan.proofs.parts.on_needed.Goals as goal

pub on_slices-requires : goal.on_slices-requires
on_slices-requires c = parts_can_plan c.requires c.slots_for-slots.ensures c.bucket_starts-needed.ensures

pub returns-clause-planned : goal.returns-clause-planned
returns-clause-planned c = λ room good.
    let after = c.on_slices.new in
    planned _ _ _ room _ good c.slots_for-slots.ensures c.bucket_starts-needed.ensures
    {parts = scratch after.lone after.counts after.sums after.positions after.order after.starts} c.on_slices.ensures
