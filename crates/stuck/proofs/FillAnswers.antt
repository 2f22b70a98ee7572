-- After filling backwards every removed key answers yes: each store makes its own key answer yes, and changes a slot that no key stored
-- before it touches. Assumes nothing.
use Rattle.std.specs.Prelude.{◌≡◌, ◌≢◌, List, [], ◌∷◌, ℕ, zero, suc, ◌<◌, length, get_or, T}
use Rattle.std.proofs.Common.{sym, ◌∙◌, subst, arith, get_or-set_same}
use Rattle.std.proofs.Math.Decide.{ℕ_discrete}
use Rattle.std.specs.Int.Bits.{bit_xor, xor_self}
use Rattle.std.proofs.lemmas.Nat.{xor_comm}
use Rattle.words.specs.Xor.{xor_assoc, xor_left_comm, xor_cancel_right}
use Rattle.stuck.specs.Stuck.{Slots, slot_at, next, key, touches, KeySet, Has, every_key, without, Pick, Run, done, remove}
use Rattle.stuck.specs.Sets.{without_self, without_other, without_within, has-every, every-lt}
use Rattle.stuck.specs.Survives.{all_removed}
use Rattle.stuck.specs.Touching.{touches-own}
use Rattle.stuck.specs.Ring.{Apart, slot_below, ApartFrom, apart_from}
use Rattle.stuck.specs.Fill.{Entry, own_slot, store, fill, query_xor, AnswersYes}
use Rattle.stuck.specs.FillAnswers.{store_other, fill-length, entries}

-- ---- one store

-- (any operation like xor)
module _ (◌⊕◌ : ℕ → ℕ → ℕ) (ac : (a b c : ℕ) → (a ⊕ b) ⊕ c ≡ a ⊕ (b ⊕ c)) (lc : (a b c : ℕ) → a ⊕ (b ⊕ c) ≡ b ⊕ (a ⊕ c))
    (co : (a b : ℕ) → a ⊕ b ≡ b ⊕ a) where
  infixl 50 ◌⊕◌
  turn_none : (f x y z : ℕ) → ((f ⊕ x) ⊕ y) ⊕ z ≡ f ⊕ (x ⊕ (y ⊕ z))
  turn_none f x y z = simp ac

  turn_one : (f x y z : ℕ) → ((f ⊕ x) ⊕ y) ⊕ z ≡ f ⊕ (y ⊕ (z ⊕ x))
  turn_one f x y z = simp (ac, co, lc)

  turn_two : (f x y z : ℕ) → ((f ⊕ x) ⊕ y) ⊕ z ≡ f ⊕ (z ⊕ (x ⊕ y))
  turn_two f x y z = simp (ac, co, lc)

-- the three slots may be taken from any position on
query_from : (t : Slots) (f p : ℕ) (values : List ℕ) → p < 3
    → query_xor t f values ≡ bit_xor f (bit_xor (get_or values (slot_at t p) 0) (bit_xor (get_or values (slot_at t (next p)) 0) (get_or values (slot_at t (next (next p))) 0)))
unfolding query_xor
query_from t f zero values lt = turn_none bit_xor xor_assoc xor_left_comm xor_comm f _ _ _
query_from t f (suc zero) values lt = turn_one bit_xor xor_assoc xor_left_comm xor_comm f _ _ _
query_from t f (suc (suc zero)) values lt = turn_two bit_xor xor_assoc xor_left_comm xor_comm f _ _ _
query_from t f (suc (suc (suc p))) values lt = absurd (omega arith)

-- one store makes its key answer yes
pub store_yes : (e : Entry) (values : List ℕ) → e.position < 3 → Apart (length values) e.slots → AnswersYes e.slots e.fingerprint (store e values)
unfolding store
store_yes e values lt a =
    query_from t f p (store e values) lt
    ∙ rw (own_now, kept (next p) d.one≢here, kept (next (next p)) d.two≢here, xor_cancel_right) (xor_self f)
  where
    t : Slots
    t = e.slots

    p : ℕ
    p = e.position

    f : ℕ
    f = e.fingerprint

    d : ApartFrom t p
    d = apart_from (length values) t a p lt

    own_now : get_or (store e values) (slot_at t p) 0 ≡ bit_xor f (bit_xor (get_or values (slot_at t (next p)) 0) (get_or values (slot_at t (next (next p))) 0))
    own_now = get_or-set_same values (slot_at t p) _ 0 (slot_below (length values) t a p)

    kept : (q : ℕ) → slot_at t q ≢ slot_at t p → get_or (store e values) (slot_at t q) 0 ≡ get_or values (slot_at t q) 0
    kept q ne = store_other e values (slot_at t q) ne

-- ---- every entry's key answers yes, if its own slot is touched by no later entry

abbrev Untouched : ℕ → List Entry → Type 0
Untouched s [] = Unit {0}
Untouched s (e ∷ r) = (¬ T (touches e.slots s)) × Untouched s r

abbrev InOrder : ℕ → List Entry → Type 0
InOrder n [] = Unit {0}
InOrder n (e ∷ r) = (e.position < 3) × Apart n e.slots × Untouched (own_slot e) r × InOrder n r

abbrev AllYes : List Entry → List ℕ → Type 0
AllYes [] values = Unit {0}
AllYes (e ∷ r) values = AnswersYes e.slots e.fingerprint values × AllYes r values

query_kept : (e : Entry) (t : Slots) (f : ℕ) (values : List ℕ) → ¬ T (touches t (own_slot e)) → query_xor t f (store e values) ≡ query_xor t f values
unfolding query_xor
query_kept e t f values off = rw (store_other e values t.s0 (away 0), store_other e values t.s1 (away 1), store_other e values t.s2 (away 2))
  where
    away : (p : ℕ) → slot_at t p ≢ own_slot e
    away p q = off (subst (λ (x : ℕ). T (touches t x)) q (touches-own t p))

yes_kept : (e : Entry) (r : List Entry) (values : List ℕ) → Untouched (own_slot e) r → AllYes r values → AllYes r (store e values)
yes_kept e [] values off answers = tt
yes_kept e (x ∷ r) values off answers = (query_kept e x.slots x.fingerprint values off.0 ∙ answers.0, yes_kept e r values off.1 answers.1)

fill_yes : (r : List Entry) (values : List ℕ) → InOrder (length values) r → AllYes r (fill r values)
unfolding fill
fill_yes [] values o = tt
fill_yes (e ∷ r) values o = (
  store_yes e (fill r values) o.0 (rw (fill-length r values) o.1),
  yes_kept e r (fill r values) o.2 (fill_yes r values o.3),
)

-- ---- a run removes keys in such an order

module _ (keys : List Slots) (fingerprint : ℕ → ℕ) where
  run_untouched : {m l : KeySet} {r : List Pick} (s : ℕ) → Run keys m r l → ((j : ℕ) → Has m j → ¬ T (touches (key keys j) s))
      → Untouched s (entries keys fingerprint r)
  run_untouched s done off = tt
  run_untouched s (remove {m = m} i p x rest) off = (off i x.alone.has, run_untouched s rest (λ j h. off j (without_within m i j h)))

  run_in_order : {m l : KeySet} {r : List Pick} (n : ℕ) → ((i : ℕ) → Has m i → Apart n (key keys i)) → Run keys m r l
      → InOrder n (entries keys fingerprint r)
  run_in_order n apart done = tt
  run_in_order n apart (remove {m = m} i p x rest) = (
    x.small,
    apart i x.alone.has,
    run_untouched (slot_at (key keys i) p) rest
        (λ j h t. without_self m i (subst (λ (k : ℕ). Has (without m i) k) (x.alone.only j (without_within m i j h) t) h)),
    run_in_order n (λ j h. apart j (without_within m i j h)) rest,
  )

  run_yes : {m l : KeySet} {r : List Pick} (values : List ℕ) → Run keys m r l → AllYes (entries keys fingerprint r) values
      → (i : ℕ) → Has m i → ¬ Has l i → AnswersYes (key keys i) (fingerprint i) values
  run_yes values done answers i h gone = absurd (gone h)
  run_yes values (remove {m = m} k p x rest) answers i h gone = by (ℕ_discrete i k) (λ h'. run_yes values rest answers.1 i h' gone)
    where
      by : Dec (i ≡ k) → (Has (without m k) i → AnswersYes (key keys i) (fingerprint i) values) → AnswersYes (key keys i) (fingerprint i) values
      by (yes e) later = subst (λ (j : ℕ). AnswersYes (key keys j) (fingerprint j) values) (sym e) answers.0
      by (no ne) later = later (without_other m k i ne h)

  -- every key that a run removed answers yes
  pub removed_yes : {m l : KeySet} {r : List Pick} (values : List ℕ) → ((i : ℕ) → Has m i → Apart (length values) (key keys i)) → Run keys m r l
      → (i : ℕ) → Has m i → ¬ Has l i → AnswersYes (key keys i) (fingerprint i) (fill (entries keys fingerprint r) values)
  removed_yes {r = r} values apart run i h gone =
      run_yes (fill (entries keys fingerprint r) values) run (fill_yes (entries keys fingerprint r) values (run_in_order (length values) apart run)) i h gone

  -- a run that removed every key: all answer yes
  pub every_key_yes : {l : KeySet} {r : List Pick} (values : List ℕ) → ((i : ℕ) → i < length keys → Apart (length values) (key keys i))
      → Run keys (every_key keys) r l → length r ≡ length keys
      → (i : ℕ) → i < length keys → AnswersYes (key keys i) (fingerprint i) (fill (entries keys fingerprint r) values)
  every_key_yes values apart run all i lt =
      removed_yes values (λ j h. apart j (every-lt keys j h)) run i (has-every keys i lt) ((all_removed run).1 all i)
