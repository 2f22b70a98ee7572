-- The machine run on document 01's cases C12, C11 and C10, over 12 slots; the hashes are 0, 1, 2, .. (a hash 0 is taken like any other).
-- C12 by hand: slots 5 and 9 are touched once, and 9 is popped first: key 2 goes at position 2, and slot 4 is stacked. There key 0 goes
-- at position 1; slot 8 is stacked, then slot 0. There key 1 goes at position 0. Slots 8 and 5 are then touched no more. Assumes nothing.
use Rattle.std.specs.Prelude.{◌≡◌, refl, [], ◌∷◌}
use Rattle.stuck.specs.Stuck.{key, pick}
use Rattle.stuck.specs.Cases.{two_alike, square, three_of_it}
use Rattle.machine.specs.Machine.{share, total_all, table, sums_of, change, change_at, push_if, scan, release, take_key, at_slot, pop, takes, picks_from, picks_of}

pub C12_run : picks_of (key three_of_it) 12 (0 ∷ 1 ∷ 2 ∷ []) ≡ pick 2 2 ∷ pick 0 1 ∷ pick 1 0 ∷ []
unfolding picks_from takes pop at_slot take_key release change_at change push_if scan sums_of table total_all share
C12_run = refl

pub C11_run : picks_of (key square) 12 (0 ∷ 1 ∷ 2 ∷ 3 ∷ []) ≡ []
unfolding picks_from takes pop at_slot take_key release change_at change push_if scan sums_of table total_all share
C11_run = refl

pub C10_run : picks_of (key two_alike) 12 (0 ∷ 1 ∷ []) ≡ []
unfolding picks_from takes pop at_slot take_key release change_at change push_if scan sums_of table total_all share
C10_run = refl
