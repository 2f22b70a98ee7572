-- Laws of the positions 0, 1, 2 as a ring ("position p+1 then p+2, modulo 3"), and keys whose three slots differ. Assumes nothing.
use Rattle.std.proofs.Common.{sym, arith}
use Rattle.std.specs.Prelude.{◌≢◌, ℕ, zero, suc, ◌<◌}
use Rattle.stuck.specs.Stuck.{Slots, slot_at, next}

-- the three slots differ, and are below n
pub record Apart (n : ℕ) (t : Slots) : Type 0 where
  pub ne01 : t.s0 ≢ t.s1
  pub ne02 : t.s0 ≢ t.s2
  pub ne12 : t.s1 ≢ t.s2
  pub in0 : t.s0 < n
  pub in1 : t.s1 < n
  pub in2 : t.s2 < n

pub slot_below : (n : ℕ) (t : Slots) → Apart n t → (p : ℕ) → slot_at t p < n
slot_below n t a zero = a.in0
slot_below n t a (suc zero) = a.in1
slot_below n t a (suc (suc p)) = a.in2

-- every position is p, the next, or the one after that
pub data AroundFrom (p : ℕ) : ℕ → Type 0 where
  here : AroundFrom p p
  one_on : AroundFrom p (next p)
  two_on : AroundFrom p (next (next p))

pub around : (p q : ℕ) → p < 3 → q < 3 → AroundFrom p q
around zero zero hp hq = here
around zero (suc zero) hp hq = one_on
around zero (suc (suc zero)) hp hq = two_on
around zero (suc (suc (suc q))) hp hq = absurd (omega arith)
around (suc zero) zero hp hq = two_on
around (suc zero) (suc zero) hp hq = here
around (suc zero) (suc (suc zero)) hp hq = one_on
around (suc zero) (suc (suc (suc q))) hp hq = absurd (omega arith)
around (suc (suc zero)) zero hp hq = one_on
around (suc (suc zero)) (suc zero) hp hq = two_on
around (suc (suc zero)) (suc (suc zero)) hp hq = here
around (suc (suc zero)) (suc (suc (suc q))) hp hq = absurd (omega arith)
around (suc (suc (suc p))) q hp hq = absurd (omega arith)

-- so the slots differ from any position on
pub record ApartFrom (t : Slots) (p : ℕ) : Type 0 where
  pub one≢here : slot_at t (next p) ≢ slot_at t p
  pub two≢here : slot_at t (next (next p)) ≢ slot_at t p
  pub two≢one : slot_at t (next (next p)) ≢ slot_at t (next p)

pub apart_from : (n : ℕ) (t : Slots) → Apart n t → (p : ℕ) → p < 3 → ApartFrom t p
apart_from n t a zero h = record { one≢here = λ e. a.ne01 (sym e); two≢here = λ e. a.ne02 (sym e); two≢one = λ e. a.ne12 (sym e) }
apart_from n t a (suc zero) h = record { one≢here = λ e. a.ne12 (sym e); two≢here = a.ne01; two≢one = a.ne02 }
apart_from n t a (suc (suc zero)) h = record { one≢here = a.ne02; two≢here = a.ne12; two≢one = λ e. a.ne01 (sym e) }
apart_from n t a (suc (suc (suc p))) h = absurd (omega arith)
