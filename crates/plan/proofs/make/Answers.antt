-- `plan::make` meets its contract: a refusal leaves all as it was, and what is done on the needed parts is put back. Assumes nothing.
use Rattle.std.proofs.Common.{sym}
use Rattle.plan.proofs.PutBack.{refused_so, can_cut}
use Rattle.plan.proofs.make.Goals as goal

pub returns-in_err-check-clause-planned : goal.returns-in_err-check-clause-planned
returns-in_err-check-clause-planned c = refused_so _ _ _ _ _ _ _ c.from_residual.ensures.1 c.in_err-check.ensures

pub on_needed-requires : goal.on_needed-requires
on_needed-requires c = can_cut _ _ _ c.args.room _ (sym c.in_ok-check.ensures) c.requires

pub returns-clause-planned : goal.returns-clause-planned
returns-clause-planned c = c.on_needed.ensures.planned _ (sym c.in_ok-check.ensures)
