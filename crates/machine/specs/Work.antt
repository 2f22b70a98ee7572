-- How long the machine can go on: slots stacked plus slots touched twice or more. A release keeps that number (proofs/Work) and a pop lowers
-- it by one, so the stack never has more slots than there are, and as many turns as slots are enough. Assumes nothing.
use Rattle.std.specs.Prelude.{◌≡◌, refl, ◌≢◌, Bool, true, false, List, [], ◌∷◌, ℕ, zero, suc, ◌+◌, ◌-◌, ◌≤◌, ◌<◌, length, get_or, T, eqb, ltb}
use Rattle.std.proofs.Common.{arith, eqb→eq, ltb→lt}
use Rattle.std.proofs.Math.Decide.{ℕ_discrete, dec_le}
use Rattle.std.proofs.Math.Facts.{yes_ltb}
use Rattle.stuck.specs.Total.{bit, bit_yes, bit_no}
use Rattle.machine.specs.Machine.{State, change, push_if, scan}
use Rattle.machine.specs.Stack.{push_length}

-- how many slots are touched twice or more
unfoldable pub many : List ℕ → ℕ
many [] = 0
many (c ∷ l) = bit (ltb 1 c) + many l

abbrev pub work : State → ℕ
work st = length st.stack + many st.sums.counts

-- ---- a release

above : (c : ℕ) → 1 < c → bit (ltb 1 c) ≡ 1
above c h = bit_yes (ltb 1 c) (yes_ltb {a = 1} {b = c} h)

not_above : (c : ℕ) → c ≤ 1 → bit (ltb 1 c) ≡ 0
not_above c h = bit_no (ltb 1 c) (λ t. omega (arith, ltb→lt 1 c t))

fall : (c : ℕ) → bit (eqb c 2) + bit (ltb 1 (c - 1)) ≡ bit (ltb 1 c)
fall c = elim (ℕ_discrete c 2) [ yes e ↦ two e | no ne ↦ other (bit_no (eqb c 2) (λ t. ne (eqb→eq c 2 t))) ne (dec_le c 1) ]
  where
    two : c ≡ 2 → bit (eqb c 2) + bit (ltb 1 (c - 1)) ≡ bit (ltb 1 c)
    two e = rw e

    other : bit (eqb c 2) ≡ 0 → c ≢ 2 → Dec (c ≤ 1) → bit (eqb c 2) + bit (ltb 1 (c - 1)) ≡ bit (ltb 1 c)
    other no-push ne (yes h) = omega (arith, not_above (c - 1) (omega arith), not_above c h)
    other no-push ne (no h) = omega (arith, above (c - 1) (omega arith), above c (omega arith))

pub many-change : (s : ℕ) (l : List ℕ) → bit (eqb (get_or l s 0) 2) + many (change (λ x. x - 1) s l) ≡ many l
unfolding many change
many-change s [] = refl
many-change zero (c ∷ l) = omega (arith, fall c)
many-change (suc s) (c ∷ l) = omega (arith, many-change s l)

-- ---- the scan

once_or_more : (c : ℕ) → bit (eqb c 1) + bit (ltb 1 c) ≤ 1
once_or_more c = by (eqb c 1) (ltb 1 c) (λ t u. omega (arith, eqb→eq c 1 t, ltb→lt 1 c u))
  where
    by : (a b : Bool) → (T a → T b → ⊥) → bit a + bit b ≤ 1
    by true true f = absurd (f tt tt)
    by true false f = omega arith
    by false true f = omega arith
    by false false f = omega arith

pub scan-work : (at : ℕ) (cs stack : List ℕ) → length (scan at cs stack) + many cs ≤ length stack + length cs
unfolding scan many
scan-work at [] stack = omega arith
scan-work at (c ∷ cs) stack = omega (arith, scan-work (suc at) cs (push_if (eqb c 1) at stack), push_length at stack (eqb c 1), once_or_more c)
