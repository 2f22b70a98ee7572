-- What is to come from attempt i on is the whole search, and the scratch can be attempted on again.
use Rattle.std.proofs.Common.{◌≡◌, ◌+◌, ◌-◌, ◌≤◌}
use Rattle.scratch.specs.Lent.{SameBuffers}
use Rattle.fuse.specs.Attempts.{free}
use Rattle.fuse.specs.Seek.{CanAttempt}
use Rattle.fuse.proofs.Searching.{first_of}
use Rattle.fuse.proofs.search.search.Given as goal

abbrev pub invariant-loop-i : goal.invariant-loop-i
invariant-loop-i l = record {
  from : l.first ≤ l.i;
  to : l.i ≤ l.last + 1;
  rest : first_of (free l.keys) l.i l.last ≡ first_of (free l.keys) l.first l.last;
  can : CanAttempt l.keys l.scratch.lone.now l.scratch.counts.now l.scratch.sums.now l.scratch.positions.now l.scratch.order.now;
  same : SameBuffers l.fn.scratch l.scratch;
  starts : l.scratch.starts.now ≡ l.fn.scratch.starts.now;
}

abbrev pub decreases-loop-i : goal.decreases-loop-i
decreases-loop-i l = l.last + 1 - l.i
