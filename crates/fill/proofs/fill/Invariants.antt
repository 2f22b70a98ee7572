-- `fill::fill`: the keys before i, stored onto what there is, give what all give. Assumes nothing.
use Rattle.std.proofs.Common.{length, map}
use Rattle.arith.specs.Fingerprint.{fingerprint_of}
use Rattle.peel.specs.Segments.{slots_in}
use Rattle.fill.proofs.Filling.{Filling}
use Rattle.fill.proofs.fill.Given as goal

abbrev pub invariant-loop-i : goal.invariant-loop-i
invariant-loop-i g l =
    Filling (slots_in l.segments.length l.segments.mask l.segments.span) (fingerprint_of g.F.Fingerprint.width) l.order l.positions (length l.order)
    (map g.F.Fingerprint.bits l.fn.fingerprints) (map g.F.Fingerprint.bits l.fingerprints) l.i
