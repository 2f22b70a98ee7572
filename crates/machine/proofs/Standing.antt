-- What holds of the machine at one turn holds at the next: a popped slot that is not touched once is dropped, and one that is gives its key.
-- Assumes nothing.
use Rattle.std.specs.Prelude.{◌≡◌, refl, ◌≢◌, ◌⊎◌, Bool, true, false, List, ◌∷◌, ℕ, ◌+◌, ◌-◌, ◌≤◌, ◌<◌, length, get_or, T}
use Rattle.std.proofs.Common.{sym, ap, ◌∙◌, subst, inl, inr, arith, length-set}
use mathlib.Core.List.Memᴰ
use Rattle.std.proofs.Math.Decide.{ℕ_discrete}
use Rattle.stuck.specs.Stuck.{Slots, KeySet, slot_at, touches, Has, without}
use Rattle.stuck.specs.Touching.{touches-own}
use Rattle.stuck.specs.Ring.{Apart, slot_below}
use Rattle.machine.specs.Machine.{Sums, State, take_key}
use Rattle.machine.specs.Share.{place_of}
use Rattle.machine.specs.Known.{Known, known_at, moved}
use Rattle.machine.specs.KnownOf.{touching, known_of, known_count, known_off, touching_off, touching_on, known_on, touching_fewer, Sole, sole, sole_known}
use Rattle.machine.specs.Stack.{Stacked}
use Rattle.machine.proofs.Take.{take_long, take_elsewhere, take_other, take_keeps, take_pushes, take_from, take_once}
use Rattle.machine.specs.Standing.{KnowsOrDone, Standing}

module _ (slots : ℕ → Slots) (hs : List ℕ) (n : ℕ) where
  module _ (m : KeySet) (a : Sums) (stack : List ℕ) (k : Standing slots hs n m a stack) (s : ℕ) where
    knows_touched : s < n → 1 ≤ touching slots hs m s → known_at a s ≡ known_of slots hs m s
    knows_touched lt some = elim (k.knows s lt) [ inl e ↦ e | inr gone ↦ absurd (omega (arith, gone.0)) ]

    knows_stacked : Stacked s stack → known_at a s ≡ known_of slots hs m s
    knows_stacked z = elim (k.knows s (k.inside s z)) [ inl e ↦ e | inr gone ↦ absurd (gone.1 z) ]

    count_touched : s < n → 1 ≤ touching slots hs m s → get_or a.counts s 0 ≡ touching slots hs m s
    count_touched lt some = known_count slots hs m s (known_at a s) (knows_touched lt some)

    count_stacked : Stacked s stack → get_or a.counts s 0 ≡ touching slots hs m s
    count_stacked z = known_count slots hs m s (known_at a s) (knows_stacked z)

  -- a popped slot that is not touched once
  pub dropped : (m : KeySet) (a : Sums) (s : ℕ) (stack : List ℕ) → Standing slots hs n m a (s ∷ stack) → get_or a.counts s 0 ≢ 1 → Standing slots hs n m a stack
  dropped m a s stack k ne =
      record {
        marks = k.marks;
        long = k.long;
        knows = λ x lt. elim (k.knows x lt) [ inl e ↦ inl e | inr gone ↦ inr (gone.0, λ z. gone.1 (Memᴰ.tail z)) ];
        stacked = λ x lt one. by x one (Memᴰ.cases_cons (k.stacked x lt one));
        inside = λ x z. k.inside x (Memᴰ.tail z);
        once = k.once.1;
        low = λ x z. k.low x (Memᴰ.tail z);
      }
    where
      by : (x : ℕ) → touching slots hs m x ≡ 1 → (x ≡ s) ⊎ Stacked x stack → Stacked x stack
      by x one (inl e) =
          absurd (ne (count_stacked m a (s ∷ stack) k s (Memᴰ.head refl) ∙ subst (λ (y : ℕ). touching slots hs m y ≡ 1) e one))
      by x one (inr z) = z

  -- ---- a popped slot that is touched once

  module _ (apart : (i : ℕ) → i < length hs → Apart n (slots (get_or hs i 0))) (m : KeySet) (a : Sums) (s : ℕ) (stack : List ℕ)
      (k : Standing slots hs n m a (s ∷ stack)) (one : get_or a.counts s 0 ≡ 1) where
    top_touched : touching slots hs m s ≡ 1
    top_touched = sym (count_stacked m a (s ∷ stack) k s (Memᴰ.head refl)) ∙ one

    -- its key
    pub its_key : Sole slots hs m s
    its_key = sole slots hs m k.marks s top_touched

    abbrev i : ℕ
    i = its_key.i

    abbrev h : ℕ
    h = get_or hs i 0

    abbrev t : Slots
    t = slots h

    abbrev p : ℕ
    p = its_key.place.position

    abbrev has : Has m i
    has = its_key.alone.has

    its_slots : Apart n t
    its_slots = apart i its_key.low

    top_known : known_at a s ≡ record { count = 1; hash = h; position = p }
    top_known = knows_stacked m a (s ∷ stack) k s (Memᴰ.head refl) ∙ sole_known slots hs m k.marks s its_key

    pub hash_is : get_or a.hashes s 0 ≡ h
    hash_is = ap (λ (x : Known). x.hash) top_known

    pub position_is : get_or a.positions s 0 ≡ p
    position_is = ap (λ (x : Known). x.position) top_known

    below : (x : ℕ) → T (touches t x) → x < n
    below x tx = let pl = place_of t x tx in subst (λ (y : ℕ). y < n) pl.here (slot_below n t its_slots pl.position)

    -- a slot of the key: one key fewer touches it afterwards
    fewer : (x : ℕ) → T (touches t x) → touching slots hs m x ≡ 1 + touching slots hs (without m i) x
    fewer x tx = touching_on slots hs m i has its_key.low x (place_of t x tx)

    count-own : (x : ℕ) → T (touches t x) → get_or a.counts x 0 ≡ touching slots hs m x
    count-own x tx = count_touched m a (s ∷ stack) k x (below x tx) (omega (arith, fewer x tx))

    pub slots_touched : (q : ℕ) → 1 ≤ get_or a.counts (slot_at t q) 0
    slots_touched q = omega (arith, count-own (slot_at t q) (touches-own t q), fewer (slot_at t q) (touches-own t q))

    abbrev st : State
    st = record { sums = a; stack = stack }

    abbrev after : State
    after = take_key t h p st

    from : (x : ℕ) → Stacked x after.stack → (T (touches t x) × (x ≢ slot_at t p) × (get_or a.counts x 0 ≡ 2)) ⊎ Stacked x stack
    from = take_from n t h p st its_key.place.small its_slots

    -- the slot where the key is taken is done with
    own_done : (x : ℕ) → x ≡ slot_at t p → (touching slots hs (without m i) x ≡ 0) × (¬ Stacked x after.stack)
    own_done x e = (omega (arith, fewer x tx, ap (touching slots hs m) x_is, top_touched), off)
      where
        x_is : x ≡ s
        x_is = e ∙ its_key.place.here

        tx : T (touches t x)
        tx = rw e (touches-own t p)

        off : ¬ Stacked x after.stack
        off z = elim (from x z) [ inl new ↦ new.1 e | inr old ↦ k.once.0 (subst (λ (y : ℕ). Stacked y stack) x_is old) ]

    knows_after : (x : ℕ) → x < n → KnowsOrDone slots hs n (without m i) after.sums after.stack x
    knows_after x lt = by (touches t x) refl
      where
        other : (off : ¬ T (touches t x)) → KnowsOrDone slots hs n m a (s ∷ stack) x → KnowsOrDone slots hs n (without m i) after.sums after.stack x
        other off (inl e) =
            inl (take_elsewhere n t h p st its_key.place.small its_slots x off ∙ e ∙ sym (known_off slots hs m i has its_key.low x off))
        other off (inr gone) =
            inr (
              omega (arith, gone.0, touching_fewer slots hs m i has its_key.low x),
              λ z. elim (from x z) [ inl new ↦ off new.0 | inr old ↦ gone.1 (Memᴰ.tail old) ],
            )

        own : T (touches t x) → Dec (x ≡ slot_at t p) → KnowsOrDone slots hs n (without m i) after.sums after.stack x
        own tx (yes e) = inr (own_done x e)
        own tx (no ne) =
            let pl = place_of t x tx in
            inl (take_other n t h p st its_key.place.small its_slots k.long x pl.position pl.small pl.here ne
            ∙ ap (moved (λ c. c - 1) h pl.position) (knows_touched m a (s ∷ stack) k x lt (omega (arith, fewer x tx)))
            ∙ sym (known_on slots hs m i has its_key.low x pl))

        by : (b : Bool) → touches t x ≡ b → KnowsOrDone slots hs n (without m i) after.sums after.stack x
        by true e = own (rw e tt) (ℕ_discrete x (slot_at t p))
        by false e = other (λ tx. subst T e tx) (k.knows x lt)

    stacked_after : (x : ℕ) → x < n → touching slots hs (without m i) x ≡ 1 → Stacked x after.stack
    stacked_after x lt one_left = by (touches t x) refl
      where
        other : ¬ T (touches t x) → (x ≡ s) ⊎ Stacked x stack → Stacked x after.stack
        other off (inl e) = absurd (off (rw (e ∙ sym its_key.place.here) (touches-own t p)))
        other off (inr z) = take_keeps n t h p st its_key.place.small its_slots x z

        own : T (touches t x) → Dec (x ≡ slot_at t p) → Stacked x after.stack
        own tx (yes e) = absurd (omega (arith, (own_done x e).0))
        own tx (no ne) =
            let pl = place_of t x tx in
            take_pushes n t h p st its_key.place.small its_slots x pl.position pl.small pl.here ne (omega (arith, count-own x tx, fewer x tx))

        by : (b : Bool) → touches t x ≡ b → Stacked x after.stack
        by true e = own (rw e tt) (ℕ_discrete x (slot_at t p))
        by false e =
            let off : ¬ T (touches t x) = λ tx. subst T e tx in
            let before : touching slots hs m x ≡ 1 = sym (touching_off slots hs m i has its_key.low x off) ∙ one_left in
            other off (Memᴰ.cases_cons (k.stacked x lt before))

    -- it is taken
    pub standing_after : Standing slots hs n (without m i) after.sums after.stack
    standing_after =
        record {
          marks = length-set m i false ∙ k.marks;
          long = take_long n t h p st its_key.place.small its_slots k.long;
          knows = knows_after;
          stacked = stacked_after;
          inside = λ x z. elim (from x z) [ inl new ↦ below x new.0 | inr old ↦ k.inside x (Memᴰ.tail old) ];
          once = take_once n t h p st its_key.place.small its_slots
              (λ x two z. omega (arith, count_stacked m a (s ∷ stack) k x (Memᴰ.tail z), k.low x (Memᴰ.tail z))) k.once.1;
          low = λ x z. elim (from x z) [
            | inl new ↦ omega (arith, new.2, count-own x new.0, fewer x new.0)
            | inr old ↦ omega (arith, k.low x (Memᴰ.tail old), touching_fewer slots hs m i has its_key.low x)
          ];
        }
