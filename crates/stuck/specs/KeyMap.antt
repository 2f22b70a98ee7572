-- Keys whose slots come from a function, as an attempt gives them. Assumes nothing.
use Rattle.std.specs.Prelude.{◌≡◌, refl, List, map, [], ◌∷◌, ℕ, zero, suc, ◌<◌, length, get_or}
use Rattle.std.proofs.Common.{le_of_suc-le-suc, not-suc-le-zero}
use Rattle.stuck.specs.Stuck.{Slots, key}

pub key-map : (slots : ℕ → Slots) (xs : List ℕ) (i : ℕ) → i < length xs → key (map slots xs) i ≡ slots (get_or xs i 0)
key-map slots [] i h = absurd (not-suc-le-zero h)
key-map slots (x ∷ xs) zero h = refl
key-map slots (x ∷ xs) (suc i) h = key-map slots xs i (le_of_suc-le-suc h)
