-- `packing::attempt` meets its contract: the one attempt of that number; what is demanded and what is left follow from the outcome.
-- Assumes nothing.
use Rattle.std.proofs.Common.{arith}
use Rattle.fuse.proofs.Demanded.{outcome_met}
use Rattle.packing.proofs.attempt.Goals as goal

pub returns : goal.returns
returns g c =
    let met = outcome_met g.F.Fingerprint.width _ _ _ _ (λ some. (some, omega arith)) _ (omega arith) _ c.pack.ensures.equation in
    record { same = c.pack.ensures.same; equation = met.0; demand3 = met.1.0; leaves = met.1.1 }
