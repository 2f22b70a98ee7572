-- What it is that a list of keys, written by their hashes, is a complete run. Definitions only. Assumes nothing.
use Rattle.std.specs.Prelude.{◌≡◌, get_or}
use mathlib.Core.List.{List, [], ◌∷◌, map}
use Prim.Native.Nat.{ℕ}
use Rattle.stuck.specs.Stuck.{Slots, KeySet, Pick, pick, Complete}

-- the keys of a run by their hashes
abbrev pub by_hash : List ℕ → List Pick → List Pick
by_hash hs [] = []
by_hash hs (pick i p ∷ r) = pick (get_or hs i 0) p ∷ by_hash hs r

module _ (slots : ℕ → Slots) (hs : List ℕ) where
  -- `out` is a complete run from the keys of m, its keys written by their hashes
  pub record IsCompleteRun (m : KeySet) (out : List Pick) : Type 0 where
    pub picks : List Pick
    pub left : KeySet
    pub complete : Complete (map slots hs) m picks left
    pub is : out ≡ by_hash hs picks
