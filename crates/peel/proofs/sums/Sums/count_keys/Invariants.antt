-- `peel::sums::Sums::count_keys`: after i turns the buffers hold the sums of the first i keys' hashes.
use Rattle.peel.specs.Segments.{hashes_of}
use Rattle.peel.specs.Held.{slots_by}
use Rattle.peel.proofs.SumsGrow.{Counting}
use Rattle.peel.proofs.sums.Sums.count_keys.Given as goal

abbrev pub invariant-loop-key : goal.invariant-loop-key
invariant-loop-key l = Counting (slots_by l.segments) (hashes_of l.seed l.keys) l.fn.self l.self l.key-index
