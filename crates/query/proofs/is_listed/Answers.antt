-- `query::is_listed` meets its contract: the slots are in range, and what is left over decides. Assumes nothing.
use Rattle.std.proofs.Common.{arith, map}
use Rattle.std.proofs.lemmas.Grind.{common_steps}
use Rattle.arith.specs.XorAt.{each_below}
use Rattle.query.specs.Answered.{slots-room, answered}
use Rattle.query.proofs.is_listed.Goals as goal

pub invariant_of-segments : goal.invariant_of-segments
invariant_of-segments g c = record { room = slots-room c.requires }

pub left_over-requires : goal.left_over-requires
left_over-requires g c =
    let a = answered (g.F.Fingerprint.width) c.args.d (map (g.F.Fingerprint.bits) c.args.fingerprints.now) c.args.key c.requires c.mix-hash.ensures c.of_hash-own.ensures c.slots-slots.ensures in
    each_below _ _ (grind (arith, common_steps)) (grind (arith, common_steps)) (grind (arith, common_steps)) (grind (arith, common_steps))

pub returns : goal.returns
returns g c =
    let a = answered (g.F.Fingerprint.width) c.args.d (map (g.F.Fingerprint.bits) c.args.fingerprints.now) c.args.key c.requires c.mix-hash.ensures c.of_hash-own.ensures c.slots-slots.ensures in
    grind (arith, common_steps, a.listed)
