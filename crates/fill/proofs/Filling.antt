-- The loop that stores the keys, last taken first, turn by turn; any fingerprint of a hash, so any width. Assumes nothing.
use Rattle.std.specs.Prelude.{◌≡◌, refl, List, [], ◌∷◌, ◌++◌, ℕ, suc, ◌-◌, ◌≤◌, ◌<◌, get_or}
use Rattle.std.proofs.Common.{sym, ap, ◌∙◌, arith}
use Rattle.stuck.specs.Stuck.{Slots, Pick, pick}
use Rattle.stuck.specs.Fill.{Entry, store, fill}
use Rattle.machine.specs.Machine.{stores}
use Rattle.peel.specs.Buffers.{picks_in}

module _ (slots : ℕ → Slots) (fingerprint : ℕ → ℕ) where
  -- a key by its hash, taken at a position
  abbrev pub entry_of : (hash position : ℕ) → Entry
  entry_of hash position = record { slots = slots hash; position = position; fingerprint = fingerprint hash }

  -- the first i keys of the two lists, stored onto some values
  abbrev pub stored : (order positions : List ℕ) (i : ℕ) (values : List ℕ) → List ℕ
  stored order positions i = fill (stores slots fingerprint (picks_in i order positions))

  fill_last : (picks : List Pick) (hash position : ℕ) (values : List ℕ)
      → fill (stores slots fingerprint (picks ++ (pick hash position ∷ []))) values
      ≡ fill (stores slots fingerprint picks) (store (entry_of hash position) values)
  unfolding fill
  fill_last [] hash position values = refl
  fill_last (pick other at ∷ picks) hash position values = ap (store (entry_of other at)) (fill_last picks hash position values)

  -- the keys before i, stored onto what there is, give what all n give
  pub record Filling (order positions : List ℕ) (n : ℕ) (before values : List ℕ) (i : ℕ) : Type 0 where
    pub within : i ≤ n
    pub whole : stored order positions i values ≡ stored order positions n before

module _ {slots : ℕ → Slots} {fingerprint : ℕ → ℕ} {order positions : List ℕ} {n : ℕ} {before : List ℕ} where
  module _ {values : List ℕ} {i : ℕ} (k : Filling slots fingerprint order positions n before values i) where
    pub fill_step : {values' : List ℕ} → 0 < i
        → values' ≡ store (entry_of slots fingerprint (get_or order (i - 1) 0) (get_or positions (i - 1) 0)) values
        → Filling slots fingerprint order positions n before values' (i - 1)
    unfolding picks_in
    fill_step some e =
        let more : suc (i - 1) ≡ i = omega arith in
        record {
          within = omega (arith, k.within);
          whole = ap (stored slots fingerprint order positions (i - 1)) e
              ∙ sym (fill_last slots fingerprint (picks_in (i - 1) order positions) (get_or order (i - 1) 0) (get_or positions (i - 1) 0) values)
              ∙ ap (λ (m : ℕ). stored slots fingerprint order positions m values) more
              ∙ k.whole;
        }

    pub fill_end : i ≤ 0 → values ≡ stored slots fingerprint order positions n before
    unfolding picks_in fill
    fill_end none = let first : 0 ≡ i = omega arith in ap (λ (m : ℕ). stored slots fingerprint order positions m values) first ∙ k.whole
