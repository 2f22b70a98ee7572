-- `packing::carry_out::carry_out` meets its contract: the fingerprints are zeroed or written in their part. Assumes nothing.
use Rattle.std.proofs.Common.{ap}
use Rattle.std.proofs.lemmas.List.{take-map}
use Rattle.std.specs.Prelude.{Ok}
use Rattle.plan.specs.CarriedOut.{zeros_written, keys_written}
use Rattle.packing.proofs.Mapped.{put_back_bits, zero_bits_in_part}
use Rattle.packing.proofs.carry_out.carry_out.Goals as goal

pub returns-in-Stuck : goal.returns-in-Stuck
returns-in-Stuck g c =
    let bits = g.F.Fingerprint.bits in
    let all = c.args.fingerprints.now in
    rw (put_back_bits bits c.in-Stuck.slots c.clear.new.all all)
    (zeros_written g.F.Fingerprint.width c.args.n _ _ _ c.requires (ap Ok c.in-Stuck.is)
    (zero_bits_in_part bits _ all _ c.clear.ensures))

pub returns-in-Found : goal.returns-in-Found
returns-in-Found g c =
    let bits = g.F.Fingerprint.bits in
    let all = c.args.fingerprints.now in
    rw (put_back_bits bits c.in-Found.built.slots c.write.new.fingerprints all)
    (keys_written g.F.Fingerprint.width c.args.n _ _ _ c.requires (ap Ok c.in-Found.is)
    (rw (take-map bits c.in-Found.built.slots all) c.write.ensures))
