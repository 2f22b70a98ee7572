-- Laws of repeated keys: the test is true exactly when two places hold equal keys, it does not depend on the order, and keys that
-- rise have none. Assumes nothing.
use Rattle.std.specs.Prelude.{◌≡◌, refl, ◌↔◌, Bool, true, false, ◌||◌, List, [], ◌∷◌, ℕ, zero, suc, ◌<◌, length, get_or, eqb}
use Rattle.std.proofs.Common.{sym, ap, ap₂, ◌∙◌, zero-le, suc-le-suc, le_of_suc-le-suc, not-suc-le-zero, arith, eq-eqb, ne_eqb, eqb-true}
use Rattle.std.proofs.Math.Bool.{or-true}
use Rattle.std.proofs.lemmas.Bool.{false≢true}
use Rattle.reorder.specs.Reordered.{Reordered, same, swap, under, then}
use Rattle.repeats.specs.Repeats.{among?, repeats?, Twice}

-- ---- true exactly when two places hold equal keys

pub among_at : (key : ℕ) (keys : List ℕ) (i : ℕ) → i < length keys → get_or keys i 0 ≡ key → among? key keys ≡ true
unfolding among?
among_at key [] i h e = absurd (not-suc-le-zero h)
among_at key (other ∷ keys) zero h e = rw (eq-eqb other key e)
among_at key (other ∷ keys) (suc i) h e = rw (among_at key keys i (le_of_suc-le-suc h) e) (or-true (eqb other key))

pub repeats_at : (keys : List ℕ) (i j : ℕ) → i < j → j < length keys → get_or keys i 0 ≡ get_or keys j 0 → repeats? keys ≡ true
unfolding repeats?
repeats_at [] i j h k e = absurd (not-suc-le-zero k)
repeats_at (key ∷ keys) i zero h k e = absurd (not-suc-le-zero h)
repeats_at (key ∷ keys) zero (suc j) h k e = rw (among_at key keys j (le_of_suc-le-suc k) (sym e))
repeats_at (key ∷ keys) (suc i) (suc j) h k e = rw (repeats_at keys i j (le_of_suc-le-suc h) (le_of_suc-le-suc k) e) (or-true (among? key keys))

-- a place that holds the key
record Place (key : ℕ) (keys : List ℕ) : Type 0 where
  at : ℕ
  within : at < length keys
  holds : get_or keys at 0 ≡ key

place : (key : ℕ) (keys : List ℕ) → among? key keys ≡ true → Place key keys
unfolding among?
place key [] h = absurd (false≢true h)
place key (other ∷ keys) h = by (eqb other key) refl (place key keys)
  where
    by : (b : Bool) → eqb other key ≡ b → (among? key keys ≡ true → Place key keys) → Place key (other ∷ keys)
    by true e rest = record { at = 0; within = suc-le-suc zero-le; holds = eqb-true other key e }
    by false e rest = let p = rest (rw e at h) in record { at = suc p.at; within = suc-le-suc p.within; holds = p.holds }

pub twice : (keys : List ℕ) → repeats? keys ≡ true → Twice keys
unfolding repeats?
twice [] h = absurd (false≢true h)
twice (key ∷ keys) h = by (among? key keys) refl (twice keys)
  where
    by : (b : Bool) → among? key keys ≡ b → (repeats? keys ≡ true → Twice keys) → Twice (key ∷ keys)
    by true e rest =
        let p = place key keys e in
        record { first = 0; second = suc p.at; apart = suc-le-suc zero-le; within = suc-le-suc p.within; equal = sym p.holds }
    by false e rest =
        let t = rest (rw e at h) in
        record { first = suc t.first; second = suc t.second; apart = suc-le-suc t.apart; within = suc-le-suc t.within; equal = t.equal }

pub repeats_iff : (keys : List ℕ) → (repeats? keys ≡ true) ↔ Twice keys
repeats_iff keys = (twice keys, λ t. repeats_at keys t.first t.second t.apart t.within t.equal)

-- ---- the order is all one

or_left_comm : (a b c : Bool) → (a || (b || c)) ≡ (b || (a || c))
or_left_comm true true c = refl
or_left_comm true false c = refl
or_left_comm false b c = refl

or_crossed : (e p q r : Bool) → ((e || p) || (q || r)) ≡ ((e || q) || (p || r))
or_crossed true p q r = refl
or_crossed false p q r = or_left_comm p q r

eqb_sym : (x y : ℕ) → eqb x y ≡ eqb y x
eqb_sym x y = by (eqb y x) refl
  where
    by : (b : Bool) → eqb y x ≡ b → eqb x y ≡ b
    by true e = eq-eqb x y (sym (eqb-true y x e))
    by false e = ne_eqb x y (λ q. false≢true (sym e ∙ eq-eqb y x (sym q)))

among_reordered : (key : ℕ) {a b : List ℕ} → Reordered a b → among? key a ≡ among? key b
unfolding among?
among_reordered key same = refl
among_reordered key (swap x y {a = a}) = or_left_comm (eqb x key) (eqb y key) (among? key a)
among_reordered key (under x r) = ap (λ (t : Bool). eqb x key || t) (among_reordered key r)
among_reordered key (then r q) = among_reordered key r ∙ among_reordered key q

pub repeats_reordered : {a b : List ℕ} → Reordered a b → repeats? a ≡ repeats? b
unfolding repeats? among?
repeats_reordered same = refl
repeats_reordered (swap x y {a = a}) = rw (eqb_sym y x) (or_crossed (eqb x y) (among? x a) (among? y a) (repeats? a))
repeats_reordered (under x r) = ap₂ ◌||◌ (among_reordered x r) (repeats_reordered r)
repeats_reordered (then r q) = repeats_reordered r ∙ repeats_reordered q

-- ---- keys that rise have no two equal

-- each key is less than the next
abbrev pub Rising : List ℕ → Type 0
Rising keys = (i : ℕ) → suc i < length keys → get_or keys i 0 < get_or keys (suc i) 0

above : (key : ℕ) (keys : List ℕ) → (0 < length keys → key < get_or keys 0 0) → Rising keys → among? key keys ≡ false
unfolding among?
above key [] h r = refl
above key (other ∷ keys) h r =
    let lt : key < other = h (suc-le-suc zero-le) in
    rw (ne_eqb other key (λ e. omega arith)) (above key keys (λ s. omega (arith, r 0 (suc-le-suc s))) (λ i s. r (suc i) (suc-le-suc s)))

pub repeats_rising : (keys : List ℕ) → Rising keys → repeats? keys ≡ false
unfolding repeats?
repeats_rising [] r = refl
repeats_rising (key ∷ keys) r =
    rw (above key keys (λ s. r 0 (suc-le-suc s)) (λ i s. r (suc i) (suc-le-suc s))) (repeats_rising keys (λ i s. r (suc i) (suc-le-suc s)))
