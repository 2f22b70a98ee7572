-- `packing::carry_out::write` meets its contract: what is filled in are the keys taken. Assumes nothing.
use Rattle.std.proofs.Common.{rules}
use Rattle.packing.proofs.Mapped.{zero_bits, filled_from}
use Rattle.packing.proofs.carry_out.write.Goals as goal

pub returns : goal.returns
returns g c =
    let bits = g.F.Fingerprint.bits in
    let segments = c.segments_of.ensures in
    let cleared = zero_bits bits c.args.fingerprints.now c.clear.new.all c.clear.ensures in
    record {
      filled = filled_from g.F.Fingerprint.width c.args.d c.args.n _ _ c.requires.in_order _ segments.length segments.mask segments.span cleared c.fill.ensures;
      positions_zeroed = search rules;
      order_zeroed = search rules;
    }
