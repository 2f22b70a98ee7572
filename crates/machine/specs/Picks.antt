-- Keys taken at positions that there are. What an attempt means stands in proofs/Picks. Definition only. Assumes nothing.
use Rattle.std.specs.Prelude.{List, [], ◌∷◌, ◌<◌}
use Rattle.stuck.specs.Stuck.{Pick, pick}

-- every position is below 3
abbrev pub SmallPositions : List Pick → Type 0
SmallPositions [] = Unit {0}
SmallPositions (pick h p ∷ r) = (p < 3) × SmallPositions r
