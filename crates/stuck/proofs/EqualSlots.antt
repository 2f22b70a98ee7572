-- Two keys with the same three slots are stuck together: no removal can ever begin with either. So equal keys stick in every attempt.
-- Assumes nothing.
use Rattle.std.specs.Prelude.{◌≡◌, ◌≢◌, ◌⊎◌, true, false, List, map, ℕ, zero, suc, ◌<◌, length, get_or, set, replicate, T}
use Rattle.std.proofs.Common.{sym, ap, ◌∙◌, subst, inl, inr, arith, length-set, get_or-set_same, get_or-set_other}
use Rattle.std.proofs.Math.Decide.{ℕ_discrete}
use Rattle.std.proofs.lemmas.List.{length-replicate, length-map}
use Rattle.stuck.specs.Stuck.{Slots, KeySet, key, touches, Has, Nobody, Stuck, SomeStuck}
use Rattle.stuck.specs.KeyMap.{key-map}

-- the set of the keys i and j, of n keys
abbrev pub pair : ℕ → ℕ → ℕ → KeySet
pair n i j = set (set (replicate n false) i true) j true

nobody : (n : ℕ) → Nobody (replicate n false)
nobody zero k h = h
nobody (suc n) zero h = h
nobody (suc n) (suc k) h = nobody n k h

module _ (n i j : ℕ) (i-in : i < n) (j-in : j < n) (apart : i ≢ j) where
  has_first : Has (pair n i j) i
  has_first =
      rw (get_or-set_other (set (replicate n false) i true) j i true false apart, get_or-set_same (replicate n false) i true false (rw length-replicate i-in)) tt

  has_second : Has (pair n i j) j
  has_second = rw (get_or-set_same (set (replicate n false) i true) j true false (simp (length-set, length-replicate) j-in)) tt

  one_of : (k : ℕ) → Has (pair n i j) k → (k ≡ i) ⊎ (k ≡ j)
  one_of k h = by (ℕ_discrete k j) (ℕ_discrete k i)
    where
      by : Dec (k ≡ j) → Dec (k ≡ i) → (k ≡ i) ⊎ (k ≡ j)
      by (yes e) d = inr e
      by (no k≢j) (yes e) = inl e
      by (no k≢j) (no k≢i) =
          let not_set = get_or-set_other (set (replicate n false) i true) j k true false k≢j ∙ get_or-set_other (replicate n false) i k true false k≢i in
          absurd (nobody n k (subst T not_set h))

pub same_slots_stuck : (keys : List Slots) (i j : ℕ) → i < length keys → j < length keys → i ≢ j → key keys i ≡ key keys j
    → Stuck keys (pair (length keys) i j)
same_slots_stuck keys i j i-in j-in apart e =
    record {
      fits = simp (length-set, length-replicate);
      nonempty = (i, has_first n i j i-in j-in apart);
      none_alone = λ k s al.
          let same = alike k (one_of n i j i-in j-in apart k al.has) in
          apart (al.only i (has_first n i j i-in j-in apart) (moves s same.0 al.touch)
          ∙ sym (al.only j (has_second n i j i-in j-in apart) (moves s same.1 al.touch)));
    }
  where
    n : ℕ
    n = length keys

    -- a key of the pair has the slots of both
    alike : (k : ℕ) → (k ≡ i) ⊎ (k ≡ j) → (key keys k ≡ key keys i) × (key keys k ≡ key keys j)
    alike k (inl q) = (ap (key keys) q, ap (key keys) q ∙ e)
    alike k (inr q) = (ap (key keys) q ∙ sym e, ap (key keys) q)

    moves : (s : ℕ) {t u : Slots} → t ≡ u → T (touches t s) → T (touches u s)
    moves s q h = subst (λ (x : Slots). T (touches x s)) q h

-- whatever slots an attempt gives to each key
pub equal_keys_stuck : (slots : ℕ → Slots) (keys : List ℕ) (i j : ℕ) → i < j → j < length keys → get_or keys i 0 ≡ get_or keys j 0 → SomeStuck (map slots keys)
equal_keys_stuck slots keys i j lt j-in e =
    let i-in : i < length keys = omega arith in
    let number : length (map slots keys) ≡ length keys = length-map keys slots in
    record {
      which = pair (length (map slots keys)) i j;
      stuck = same_slots_stuck (map slots keys) i j (rw number i-in) (rw number j-in) (λ q. omega arith)
          (key-map slots keys i i-in ∙ ap slots e ∙ sym (key-map slots keys j j-in));
    }
