-- Filling backwards keeps the length, slots never used keep their value, and values stay within the fingerprints' width. That every removed
-- key then answers yes stands in proofs/FillAnswers. Assumes nothing.
use Rattle.std.specs.Prelude.{◌≡◌, refl, ◌≢◌, List, [], ◌∷◌, ℕ, zero, suc, ◌^◌, ◌<◌, length, get_or, set}
use Rattle.std.proofs.Common.{◌∙◌, length-set, get_or-set_other}
use Rattle.std.proofs.lemmas.Nat.{xor_lt}
use Rattle.stuck.specs.Stuck.{Slots, key, Pick, pick}
use Rattle.stuck.specs.Fill.{Entry, own_slot, store, fill}

-- ---- one store

pub store_length : (e : Entry) (values : List ℕ) → length (store e values) ≡ length values
unfolding store
store_length e values = length-set values _ _

pub store_other : (e : Entry) (values : List ℕ) (s : ℕ) → s ≢ own_slot e → get_or (store e values) s 0 ≡ get_or values s 0
unfolding store
store_other e values s ne = get_or-set_other values _ s _ 0 ne

-- ---- all the stores

pub fill-length : (r : List Entry) (values : List ℕ) → length (fill r values) ≡ length values
unfolding fill
fill-length [] values = refl
fill-length (e ∷ r) values = store_length e (fill r values) ∙ fill-length r values

-- no entry is stored at slot s
abbrev pub Unused : ℕ → List Entry → Type 0
Unused s [] = Unit {0}
Unused s (e ∷ r) = (s ≢ own_slot e) × Unused s r

-- slots never used keep their value
pub fill_unused : (r : List Entry) (values : List ℕ) (s : ℕ) → Unused s r → get_or (fill r values) s 0 ≡ get_or values s 0
unfolding fill
fill_unused [] values s u = refl
fill_unused (e ∷ r) values s u = store_other e (fill r values) s u.0 ∙ fill_unused r values s u.1

set_below : (m : ℕ) (l : List ℕ) (i v s : ℕ) → ((x : ℕ) → get_or l x 0 < m) → v < m → get_or (set l i v) s 0 < m
set_below m [] i v s h hv = h s
set_below m (x ∷ l) zero v zero h hv = hv
set_below m (x ∷ l) zero v (suc s) h hv = h (suc s)
set_below m (x ∷ l) (suc i) v zero h hv = h 0
set_below m (x ∷ l) (suc i) v (suc s) h hv = set_below m l i v s (λ y. h (suc y)) hv

-- every fingerprint is below 2 ^ width
abbrev pub Fits : ℕ → List Entry → Type 0
Fits width [] = Unit {0}
Fits width (e ∷ r) = (e.fingerprint < 2 ^ width) × Fits width r

-- then so is every value
pub fill_fits : (width : ℕ) (r : List Entry) (values : List ℕ) → ((s : ℕ) → get_or values s 0 < 2 ^ width) → Fits width r
    → (s : ℕ) → get_or (fill r values) s 0 < 2 ^ width
unfolding fill store
fill_fits width [] values small fits s = small s
fill_fits width (e ∷ r) values small fits s =
    let rest : (x : ℕ) → get_or (fill r values) x 0 < 2 ^ width = fill_fits width r values small fits.1 in
    set_below (2 ^ width) (fill r values) (own_slot e) _ s rest (xor_lt width _ _ fits.0 (xor_lt width _ _ (rest _) (rest _)))

-- ---- the entries of a run

-- the removed keys of a run, with a fingerprint for each key
module _ (keys : List Slots) (fingerprint : ℕ → ℕ) where
  abbrev pub entry : Pick → Entry
  entry (pick i p) = record { slots = key keys i; position = p; fingerprint = fingerprint i }

  abbrev pub entries : List Pick → List Entry
  entries [] = []
  entries (k ∷ r) = entry k ∷ entries r
