-- `plan::parts::on_parts` meets its contract: where an attempt was free, the tables are cleared. Assumes nothing.
use Rattle.std.proofs.Common.{arith}
use Rattle.plan.proofs.Endings.{still, ends_found}
use Rattle.plan.proofs.parts.on_parts.Goals as goal

pub returns-in-Some-clause-ended : goal.returns-in-Some-clause-ended
returns-in-Some-clause-ended c =
    let searched = c.in-Some.ensures in
    let cleared = c.clear_tables.ensures in
    rw (cleared.taken.0, cleared.taken.1)
    (ends_found (still c.requires.can searched.same) searched.sought cleared.lone cleared.counts cleared.sums (c.fill.ensures.after (λ y e. e)) (omega (arith, searched.number))
    c.descriptor_at-descriptor.ensures)
