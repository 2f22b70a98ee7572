-- Document 01's cases C10, C11 and C12, each a statement by its name. Definitions only. Assumes nothing.
use Rattle.std.specs.Prelude.{List, [], ◌∷◌, ℕ}
use Rattle.stuck.specs.Stuck.{Slots, every_key, Stuck, NoneStuck}

abbrev pub at : ℕ → ℕ → ℕ → Slots
at a b c = record { s0 = a; s1 = b; s2 = c }

abbrev pub two_alike : List Slots
two_alike = at 0 4 8 ∷ at 0 4 8 ∷ []

abbrev pub square : List Slots
square = at 0 4 8 ∷ at 0 5 8 ∷ at 0 4 9 ∷ at 0 5 9 ∷ []

abbrev pub three_of_it : List Slots
three_of_it = at 0 4 8 ∷ at 0 5 8 ∷ at 0 4 9 ∷ []

-- two keys both at (0,4,8) are stuck
abbrev pub C10 : Type 0
C10 = Stuck two_alike (every_key two_alike)

-- (0,4,8), (0,5,8), (0,4,9), (0,5,9) are stuck together
abbrev pub C11 : Type 0
C11 = Stuck square (every_key square)

-- of the first three no set is stuck
abbrev pub C12 : Type 0
C12 = NoneStuck three_of_it
