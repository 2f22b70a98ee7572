-- The capacity never falls as the number of keys grows: one test, computed over all entries of the table. Assumes nothing.
use mathlib.Core.Bool.{Bool, true, ◌&&◌}
use mathlib.Core.List.{List, [], ◌∷◌}
use Prim.Native.Nat.{ℕ, zero, suc, ◌≤◌, ◌<◌}
use native.Mathlib.Nat.{le_of_suc-le-suc, le_refl, le_trans, not-suc-le-zero}
use lib.Dec.{T, leb, leb→le}
use lib.ListN.{length, get_or}
use mir.Facts.{and_yes}
use Rattle.capacity.specs.Rising.{Rising}
use Rattle.capacity.proofs.EverySize.{within, entry}
use Rattle.capacity.proofs.Entries.{entries}

-- no entry is below the one before it, nor the first below `least`
abbrev rises_from : ℕ → List ℕ → Bool
rises_from least [] = true
rises_from least (c ∷ cs) = leb least c && rises_from c cs

all_rise : T (rises_from 0 entries)
unfolding entries
all_rise = tt

first_and_rest : (least c : ℕ) (cs : List ℕ) → T (rises_from least (c ∷ cs)) → (least ≤ c) × T (rises_from c cs)
first_and_rest least c cs t = let both = and_yes (leb least c) (rises_from c cs) t in (leb→le _ _ both.0, both.1)

above_least : (cs : List ℕ) (least : ℕ) → T (rises_from least cs) → (k : ℕ) → k < length cs → least ≤ get_or cs k 0
above_least [] least t k h = absurd (not-suc-le-zero h)
above_least (c ∷ cs) least t zero h = (first_and_rest least c cs t).0
above_least (c ∷ cs) least t (suc k) h =
    let both = first_and_rest least c cs t in
    le_trans both.0 (above_least cs c both.1 k (le_of_suc-le-suc h))

later_above : (cs : List ℕ) (least : ℕ) → T (rises_from least cs) → (n m : ℕ) → n ≤ m → m < length cs → get_or cs n 0 ≤ get_or cs m 0
later_above [] least t n m h to = absurd (not-suc-le-zero to)
later_above (c ∷ cs) least t zero zero h to = le_refl c
later_above (c ∷ cs) least t zero (suc m) h to = above_least cs c (first_and_rest least c cs t).1 m (le_of_suc-le-suc to)
later_above (c ∷ cs) least t (suc n) zero h to = absurd (not-suc-le-zero h)
later_above (c ∷ cs) least t (suc n) (suc m) h to =
    later_above cs c (first_and_rest least c cs t).1 n m (le_of_suc-le-suc h) (le_of_suc-le-suc to)

pub rising : Rising
rising n m h most =
    rw (← (entry n (le_trans h most)).is, ← (entry m most).is) (later_above entries 0 all_rise n m h (within most))
