-- `query::contains` meets its contract: where the checks fail the answer is the first fault. Assumes nothing.
use Rattle.std.proofs.Common.{ap, not, map}
use Rattle.std.proofs.lemmas.List.{length-map}
use Rattle.query.specs.Suited.{unsuited}
use Rattle.query.proofs.contains.Goals as goal

pub returns-then-not-suits : goal.returns-then-not-suits
returns-then-not-suits g c = unsuited (g.F.Fingerprint.width) c.args.d (map (g.F.Fingerprint.bits) c.args.fingerprints.now) c.args.key (simp length-map c.suits.ensures.checks) (ap not c.if-not-suits.true) c.fault.ensures
