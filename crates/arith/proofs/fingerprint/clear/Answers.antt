-- `clear` meets its contract: each place has a copy of zero. Assumes nothing.
use Rattle.std.proofs.Common.{map, replicate, length, ap, ◌∙◌}
use Rattle.arith.specs.Numbers.{map_replicate}
use Rattle.arith.proofs.fingerprint.clear.Goals as goal

pub returns : goal.returns
returns g c =
    ap (map g.F.Fingerprint.bits) (c.fill.ensures.after (λ y same. (g.met.F.Fingerprint).copy_is c.zero.result y same))
    ∙ map_replicate (g.F.Fingerprint.bits) (length c.args.all.now) c.zero.result
    ∙ ap (replicate (length c.args.all.now)) c.zero.ensures
