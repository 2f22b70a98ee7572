-- The name of the new file beside a list. Assumes nothing.
use Rattle.std.specs.Prelude.{◌≡◌, ℕ, List, [], ◌∷◌, ◌++◌, length}

-- `.part-`
abbrev pub mark : List ℕ
mark = 46 ∷ 112 ∷ 97 ∷ 114 ∷ 116 ∷ 45 ∷ []

-- the list's name, the mark and sixteen digits: so it lies in the list's folder
abbrev pub IsBeside : List ℕ → List ℕ → Type 0
IsBeside path name = (digits : List ℕ) × (name ≡ path ++ mark ++ digits) × (length digits ≡ 16)
