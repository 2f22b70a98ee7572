-- `fuse::attempts::try_attempt` meets its contract: what runs on the cleared scratch is the attempt. Assumes nothing.
use Rattle.fuse.proofs.Trying.{slots_room, can_run, tried}
use Rattle.fuse.proofs.attempts.try_attempt.Goals as goal

pub segments_of-requires : goal.segments_of-requires
segments_of-requires c = slots_room _ c.requires.can.few c.descriptor_at-d.ensures

pub run-requires-clause-can : goal.run-requires-clause-can
run-requires-clause-can c =
    let cleared = c.clear_sums.ensures in
    let segments = c.segments_of.ensures in
    can_run c.requires.can _ cleared.same cleared.counts cleared.sums c.descriptor_at-d.ensures segments.length segments.mask segments.span

pub returns-clause-picks : goal.returns-clause-picks
returns-clause-picks c =
    let cleared = c.clear_sums.ensures in
    let segments = c.segments_of.ensures in
    tried c.requires.can _ cleared.same cleared.counts cleared.sums c.descriptor_at-d.ensures segments.length segments.mask segments.span
    c.run.ensures.picks
