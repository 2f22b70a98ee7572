-- `capacity::capacity` meets its contract: the table's entries are those that passed the test. Assumes nothing.
use Rattle.std.proofs.Common.{sym, subst}
use Rattle.capacity.specs.Capacity.{Capacity}
use Rattle.capacity.proofs.Entries.{entries}
use Rattle.capacity.proofs.EverySize.{entry}
use Rattle.capacity.proofs.capacity.Goals as goal

pub returns : goal.returns
unfolding entries
returns c = let n = c.args.n in subst (Capacity n) (sym c.from.ensures) (entry n c.requires)
