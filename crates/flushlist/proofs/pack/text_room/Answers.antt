-- `flushlist::pack::text_room`: as many zeros as places. Assumes nothing.
use Rattle.std.proofs.Common.{sym, ℕ}
use Rattle.std.proofs.lemmas.List.{length-replicate}
use Rattle.flushlist.proofs.pack.text_room.Goals as goal

pub returns : goal.returns
returns c = sym {0} {A = ℕ} (length-replicate {0} {A = ℕ} 524288 0)
