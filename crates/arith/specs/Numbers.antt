-- Lists of numbers behind lists of fingerprints: of numbers themselves, and of equal fingerprints. Assumes nothing.
use Rattle.std.specs.Prelude.{◌≡◌, ℕ, zero, suc, List, [], ◌∷◌, map, replicate, refl}
use Rattle.std.proofs.Common.{ap}

-- the numbers of a list of numbers are that list
pub map_same : (l : List ℕ) → map (λ (x : ℕ). x) l ≡ l
map_same [] = refl
map_same (x ∷ l) = ap (λ (m : List ℕ). x ∷ m) (map_same l)

pub map_replicate : {A B : Type 0} (f : A → B) (n : ℕ) (x : A) → map f (replicate n x) ≡ replicate n (f x)
map_replicate f zero x = refl
map_replicate f (suc n) x = ap (λ m. f x ∷ m) (map_replicate f n x)
