-- `fuse::search::search` meets its contract: what is to come from attempt i on is the whole search. Assumes nothing.
use Rattle.std.proofs.Common.{arith, rules}
use Rattle.fuse.proofs.Searching.{none_left, found_one, go_on, no_hope}
use Rattle.fuse.proofs.search.search.Goals as goal

pub loop-i-preserved : goal.loop-i-preserved
loop-i-preserved c =
    let can = c.loop-i.invariant.can in
    record {
      from = omega arith;
      to = omega arith;
      rest = go_on _ _ _ _ c.loop-i.invariant.rest (omega arith) _ _ _ c.try_attempt-taken.ensures.picks c.if-taken-keys.false;
      can = record {
        few = can.few;
        lone_length = omega arith;
        counts_length = omega arith;
        sums_length = omega arith;
        positions_room = omega arith;
        order_room = omega arith;
      };
      same = search rules;
      starts = cc;
    }

pub returns-then-last-i-clause-sought : goal.returns-then-last-i-clause-sought
returns-then-last-i-clause-sought c = none_left _ _ _ _ c.loop-i.invariant.rest _ _ c.if-last-i.true

pub returns-then-taken-keys-clause-sought : goal.returns-then-taken-keys-clause-sought
returns-then-taken-keys-clause-sought c =
    found_one _ _ _ _ c.loop-i.invariant.rest (omega arith) _ _ _ c.try_attempt-taken.ensures.picks c.if-taken-keys.true

pub returns-then-hopeless-clause-sought : goal.returns-then-hopeless-clause-sought
returns-then-hopeless-clause-sought c = no_hope _ _ _ _ _ c.loop-i.invariant.can.few (c.hopeless.ensures c.if-hopeless.true)
