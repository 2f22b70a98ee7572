-- `fill::fill` meets its contract: each turn stores the last of the keys that are left. Assumes nothing.
use Rattle.std.proofs.Common.{◌≡◌, arith, length, map}
use Rattle.std.proofs.lemmas.List.{length-map}
use Rattle.fill.proofs.Filling.{fill_step, fill_end}
use Rattle.fill.proofs.fill.Goals as goal

pub fill_one-requires : goal.fill_one-requires
fill_one-requires g c =
    let long : length c.loop-i.fingerprints ≡ length (map g.F.Fingerprint.bits c.args.fingerprints.now) = simp length-map c.loop-i.auto.fingerprints in
    (rw long c.requires.layout, c.requires.positions_are _ (omega arith))

pub loop-i-preserved : goal.loop-i-preserved
loop-i-preserved g c = fill_step c.loop-i.invariant c.loop-i-test.true c.fill_one.ensures

pub returns : goal.returns
returns g c = fill_end c.loop-i.invariant c.loop-i-test.false
