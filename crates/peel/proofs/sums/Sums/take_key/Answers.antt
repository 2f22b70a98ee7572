-- `peel::sums::Sums::take_key` meets its contract: the key's slots differ, so the first release leaves the second slot's count alone. Assumes
-- nothing.
use Rattle.std.proofs.Common.{arith}
use Rattle.peel.proofs.Releasing.{can_release_next, can_release_after, took}
use Rattle.peel.proofs.sums.Sums.take_key.Goals as goal

pub release-requires : goal.release-requires
release-requires c = can_release_next c.requires (omega arith) c.slots-slots.ensures

pub release-requires-2 : goal.release-requires-2
release-requires-2 c = can_release_after c.requires (omega arith) c.slots-slots.ensures c.release.ensures

pub returns : goal.returns
returns c = took c.requires (omega arith) c.slots-slots.ensures c.release.ensures c.release-2.ensures
