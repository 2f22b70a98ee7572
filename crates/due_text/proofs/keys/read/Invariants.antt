-- The lines read so far, and those to come.
use Rattle.std.proofs.Common.{length}
use Rattle.std.specs.List.{slice_split}
use Rattle.due_text.specs.Cut.{newline?}
use Rattle.due_text.proofs.SoFar.{SoFar}
use Rattle.due_text.proofs.keys.read.Given as goal

abbrev pub invariant-loop-before : goal.invariant-loop-before
invariant-loop-before l =
    (goal.iterator-loop-before).can_next l.before-iterator
    × (goal.iterator-loop-before).is_finite l.before-iterator
    × SoFar (slice_split newline? l.text) l.fn.room l.room (length l.yielded) l.count
