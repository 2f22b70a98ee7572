-- What taking a key does to the sums and to the stack. It speaks of the key's other slots as one: any slot of the key that is not the one
-- where it is taken. Assumes nothing.
use Rattle.std.specs.Prelude.{◌≡◌, refl, ◌≢◌, ◌⊎◌, ℕ, ◌-◌, ◌<◌, get_or, eqb}
use Rattle.std.proofs.Common.{sym, ◌∙◌}
use Rattle.std.proofs.Math.Path.{ap, subst}
use Rattle.std.proofs.Math.Logic.{inl, inr}
use Rattle.std.proofs.Math.Dec.{T, eqb→eq}
use Rattle.std.proofs.Math.Facts.{yes_eqb}
use Rattle.stuck.specs.Stuck.{Slots, slot_at, next, touches}
use Rattle.stuck.specs.Touching.{touches-own}
use Rattle.stuck.specs.Ring.{Apart, slot_below, AroundFrom, here, one_on, two_on, around, ApartFrom, apart_from}
use Rattle.machine.specs.Machine.{State, release, take_key}
use Rattle.machine.specs.Known.{Known, known_at, moved, Long, changed_long, changed_here, changed_other}
use Rattle.machine.specs.Stack.{Stacked, Once, push_keeps, push_there, push_from, push_once}

-- ---- one slot is released

module _ (h q s : ℕ) (st : State) where
  pub release_long : (n : ℕ) → Long n st.sums → Long n (release h q s st).sums
  unfolding release
  release_long n long = changed_long (λ c. c - 1) h q s st.sums n long

  pub release_here : (n : ℕ) → Long n st.sums → s < n → known_at (release h q s st).sums s ≡ moved (λ c. c - 1) h q (known_at st.sums s)
  unfolding release
  release_here n long lt = changed_here (λ c. c - 1) h q s st.sums n long lt

  pub release_other : (x : ℕ) → x ≢ s → known_at (release h q s st).sums x ≡ known_at st.sums x
  unfolding release
  release_other x ne = changed_other (λ c. c - 1) h q s st.sums x ne

  release_keeps : (x : ℕ) → Stacked x st.stack → Stacked x (release h q s st).stack
  unfolding release
  release_keeps x z = push_keeps s st.stack (eqb (get_or st.sums.counts s 0) 2) x z

  release_pushes : get_or st.sums.counts s 0 ≡ 2 → Stacked s (release h q s st).stack
  unfolding release
  release_pushes two = push_there s st.stack (eqb (get_or st.sums.counts s 0) 2) (yes_eqb two)

  release_from : (x : ℕ) → Stacked x (release h q s st).stack → ((x ≡ s) × (get_or st.sums.counts s 0 ≡ 2)) ⊎ Stacked x st.stack
  unfolding release
  release_from x z = elim (push_from s st.stack (eqb (get_or st.sums.counts s 0) 2) x z) [
    | inl new ↦ inl (new.0, eqb→eq _ _ new.1)
    | inr old ↦ inr old
  ]

  release_once : (get_or st.sums.counts s 0 ≡ 2 → ¬ Stacked s st.stack) → Once st.stack → Once (release h q s st).stack
  unfolding release
  release_once new once = push_once s st.stack (eqb (get_or st.sums.counts s 0) 2) (λ t. new (eqb→eq _ _ t)) once

-- ---- a key is taken at position p

module _ (n : ℕ) (t : Slots) (h p : ℕ) (st : State) (small : p < 3) (apart : Apart n t) where
  abbrev own : ℕ
  own = slot_at t p

  abbrev one : ℕ
  one = slot_at t (next p)

  abbrev two : ℕ
  two = slot_at t (next (next p))

  abbrev between : State
  between = release h (next p) one st

  abbrev pub taken : State
  taken = take_key t h p st

  ring : ApartFrom t p
  ring = apart_from n t apart p small

  count-two : get_or between.sums.counts two 0 ≡ get_or st.sums.counts two 0
  count-two = ap (λ (k : Known). k.count) (release_other h (next p) one st two ring.two≢one)

  pub take_long : Long n st.sums → Long n taken.sums
  unfolding take_key
  take_long long = release_long h (next (next p)) two between n (release_long h (next p) one st n long)

  -- a slot that the key does not touch
  pub take_elsewhere : (x : ℕ) → ¬ T (touches t x) → known_at taken.sums x ≡ known_at st.sums x
  unfolding take_key
  take_elsewhere x off = release_other h (next (next p)) two between x (away (next (next p))) ∙ release_other h (next p) one st x (away (next p))
    where
      away : (q : ℕ) → x ≢ slot_at t q
      away q e = off (subst (λ (y : ℕ). T (touches t y)) (sym e) (touches-own t q))

  -- another slot of the key
  pub take_other : Long n st.sums → (x q : ℕ) → q < 3 → slot_at t q ≡ x → x ≢ own → known_at taken.sums x ≡ moved (λ c. c - 1) h q (known_at st.sums x)
  unfolding take_key
  take_other long x q lt e ne =
      subst (λ (y : ℕ). known_at taken.sums y ≡ moved (λ c. c - 1) h q (known_at st.sums y)) e (by q (λ same. ne (sym e ∙ same)) (around p q small lt))
    where
      by : (q : ℕ) → slot_at t q ≢ own → AroundFrom p q → known_at taken.sums (slot_at t q) ≡ moved (λ c. c - 1) h q (known_at st.sums (slot_at t q))
      by q ne here = absurd (ne refl)
      by q ne one_on =
          release_other h (next (next p)) two between one (λ e. ring.two≢one (sym e)) ∙ release_here h (next p) one st n long (slot_below n t apart (next p))
      by q ne two_on =
          release_here h (next (next p)) two between n (release_long h (next p) one st n long) (slot_below n t apart (next (next p)))
          ∙ ap (moved (λ c. c - 1) h (next (next p))) (release_other h (next p) one st two ring.two≢one)

  pub take_keeps : (x : ℕ) → Stacked x st.stack → Stacked x taken.stack
  unfolding take_key
  take_keeps x z = release_keeps h (next (next p)) two between x (release_keeps h (next p) one st x z)

  abbrev count : ℕ → ℕ
  count x = get_or st.sums.counts x 0

  pub take_pushes : (x q : ℕ) → q < 3 → slot_at t q ≡ x → x ≢ own → count x ≡ 2 → Stacked x taken.stack
  unfolding take_key
  take_pushes x q lt e ne c =
      subst (λ (y : ℕ). Stacked y taken.stack) e (by q (λ same. ne (sym e ∙ same)) (subst (λ (y : ℕ). count y ≡ 2) (sym e) c) (around p q small lt))
    where
      by : (q : ℕ) → slot_at t q ≢ own → count (slot_at t q) ≡ 2 → AroundFrom p q → Stacked (slot_at t q) taken.stack
      by q ne c here = absurd (ne refl)
      by q ne c one_on = release_keeps h (next (next p)) two between one (release_pushes h (next p) one st c)
      by q ne c two_on = release_pushes h (next (next p)) two between (count-two ∙ c)

  -- another slot of the key, which was touched twice
  abbrev pub Pushed : ℕ → Type 0
  Pushed x = T (touches t x) × (x ≢ own) × (count x ≡ 2)

  -- what is stacked now is such a slot, or was stacked before
  pub take_from : (x : ℕ) → Stacked x taken.stack → Pushed x ⊎ Stacked x st.stack
  unfolding take_key
  take_from x z = last (release_from h (next (next p)) two between x z)
    where
      pushed : (q : ℕ) → slot_at t q ≢ own → x ≡ slot_at t q → count (slot_at t q) ≡ 2 → Pushed x
      pushed q ne e c = rw e (touches-own t q, ne, c)

      first : ((x ≡ one) × (count one ≡ 2)) ⊎ Stacked x st.stack → Pushed x ⊎ Stacked x st.stack
      first (inl new) = inl (pushed (next p) ring.one≢here new.0 new.1)
      first (inr old) = inr old

      last : ((x ≡ two) × (get_or between.sums.counts two 0 ≡ 2)) ⊎ Stacked x between.stack → Pushed x ⊎ Stacked x st.stack
      last (inl new) = inl (pushed (next (next p)) ring.two≢here new.0 (sym count-two ∙ new.1))
      last (inr old) = first (release_from h (next p) one st x old)

  pub take_once : ((x : ℕ) → count x ≡ 2 → ¬ Stacked x st.stack) → Once st.stack → Once taken.stack
  unfolding take_key
  take_once new once =
      release_once h (next (next p)) two between (λ c z. by (sym count-two ∙ c) (release_from h (next p) one st two z))
      (release_once h (next p) one st (new one) once)
    where
      by : count two ≡ 2 → ((two ≡ one) × (count one ≡ 2)) ⊎ Stacked two st.stack → ⊥
      by c (inl same) = ring.two≢one same.0
      by c (inr old) = new two c old
