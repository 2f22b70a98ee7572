-- A key touches the slot at each of its positions, and no other. Assumes nothing.
use Rattle.std.specs.Prelude.{◌≡◌, ◌⊎◌, Bool, true, false, ◌||◌, ℕ, zero, suc, ◌<◌, T, eqb}
use Rattle.std.proofs.Common.{inl, inr, eqb→eq, lit<}
use Rattle.std.proofs.Math.Dec.{eqb_refl}
use Rattle.stuck.specs.Stuck.{Slots, slot_at, touches}

one_of : (a b c : Bool) → T a ⊎ T b ⊎ T c → T (a || b || c)
one_of true b c h = tt
one_of false true c h = tt
one_of false false true h = tt
one_of false false false (inl h) = h
one_of false false false (inr (inl h)) = h
one_of false false false (inr (inr h)) = h

pub touches-own : (t : Slots) (p : ℕ) → T (touches t (slot_at t p))
touches-own t zero = one_of (eqb t.s0 t.s0) (eqb t.s1 t.s0) (eqb t.s2 t.s0) (inl (eqb_refl t.s0))
touches-own t (suc zero) = one_of (eqb t.s0 t.s1) (eqb t.s1 t.s1) (eqb t.s2 t.s1) (inr (inl (eqb_refl t.s1)))
touches-own t (suc (suc p)) = one_of (eqb t.s0 t.s2) (eqb t.s1 t.s2) (eqb t.s2 t.s2) (inr (inr (eqb_refl t.s2)))

pub touched_at : (t : Slots) (s : ℕ) → T (touches t s) → (p : ℕ) × (p < 3) × (slot_at t p ≡ s)
touched_at t s h = by (eqb t.s0 s) (eqb t.s1 s) (eqb t.s2 s) h (eqb→eq t.s0 s) (eqb→eq t.s1 s) (eqb→eq t.s2 s)
  where
    by : (a b c : Bool) → T (a || b || c) → (T a → t.s0 ≡ s) → (T b → t.s1 ≡ s) → (T c → t.s2 ≡ s) → (p : ℕ) × (p < 3) × (slot_at t p ≡ s)
    by true b c h at0 at1 at2 = (0, lit< tt, at0 tt)
    by false true c h at0 at1 at2 = (1, lit< tt, at1 tt)
    by false false true h at0 at1 at2 = (2, lit< tt, at2 tt)
    by false false false h at0 at1 at2 = absurd h
