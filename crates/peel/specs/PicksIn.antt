-- Laws of the keys taken in two lists: how many there are, and that their positions are below 3. Assumes nothing.
use Rattle.std.specs.Prelude.{◌≡◌, refl, List, [], ◌∷◌, ◌++◌, ℕ, zero, suc, ◌<◌, length, get_or}
use Rattle.std.proofs.Common.{◌∙◌, arith, length-append}
use Rattle.std.proofs.Math.Decide.{ℕ_discrete}
use Rattle.stuck.specs.Stuck.{Pick, pick}
use Rattle.machine.specs.Picks.{SmallPositions}
use Rattle.peel.specs.Buffers.{picks_in}

pub picks_in_length : (k : ℕ) (order positions : List ℕ) → length (picks_in k order positions) ≡ k
unfolding picks_in
picks_in_length zero order positions = refl
picks_in_length (suc k) order positions =
    length-append (picks_in k order positions) _ ∙ omega (arith, picks_in_length k order positions)

parts : (front back : List Pick) → SmallPositions (front ++ back) → SmallPositions front × SmallPositions back
parts [] back k = (tt, k)
parts (pick hash position ∷ front) back k = let w = parts front back k.1 in ((k.0, w.0), w.1)

pub picks_in_small : (k : ℕ) (order positions : List ℕ) → SmallPositions (picks_in k order positions) → (i : ℕ) → i < k → get_or positions i 0 < 3
unfolding picks_in
picks_in_small zero order positions w i lt = absurd (omega arith)
picks_in_small (suc k) order positions w i lt = by (ℕ_discrete i k) (picks_in_small k order positions (parts (picks_in k order positions) _ w).0 i)
  where
    by : Dec (i ≡ k) → (i < k → get_or positions i 0 < 3) → get_or positions i 0 < 3
    by (yes e) before = rw e (parts (picks_in k order positions) _ w).1.0
    by (no ne) before = before (omega arith)
