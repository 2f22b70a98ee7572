-- What a key gives to a slot: nothing where it does not touch it, and else what its position there gives. Assumes nothing.
use Rattle.std.specs.Prelude.{◌≡◌, refl, Bool, true, false, cond, ◌||◌, ℕ, ◌<◌, T, eqb}
use Rattle.std.proofs.Common.{eqb→eq, lit<}
use Rattle.stuck.specs.Total.{bit}
use Rattle.stuck.specs.Stuck.{Slots, slot_at, touches}
use Rattle.machine.specs.Machine.{share}

pub share_off : (t : Slots) (s : ℕ) (g : ℕ → ℕ) → ¬ T (touches t s) → share t s g ≡ 0
unfolding share
share_off t s g = by (eqb t.s0 s) (eqb t.s1 s) (eqb t.s2 s)
  where
    by : (a b c : Bool) → ¬ T (a || b || c) → cond a (g 0) (cond b (g 1) (cond c (g 2) 0)) ≡ 0
    by true b c off = absurd (off tt)
    by false true c off = absurd (off tt)
    by false false true off = absurd (off tt)
    by false false false off = refl

pub share_one : (t : Slots) (s : ℕ) → share t s (λ q. 1) ≡ bit (touches t s)
unfolding share
share_one t s = by (eqb t.s0 s) (eqb t.s1 s) (eqb t.s2 s)
  where
    by : (a b c : Bool) → cond a 1 (cond b 1 (cond c 1 0)) ≡ bit (a || b || c)
    by true b c = refl
    by false true c = refl
    by false false true = refl
    by false false false = refl

-- the position at which a key touches a slot: it decides every share
pub record Place (t : Slots) (s : ℕ) : Type 0 where
  pub position : ℕ
  pub small : position < 3
  pub here : slot_at t position ≡ s
  pub gives : (g : ℕ → ℕ) → share t s g ≡ g position

pub place_of : (t : Slots) (s : ℕ) → T (touches t s) → Place t s
unfolding share
place_of t s h = by (eqb t.s0 s) (eqb t.s1 s) (eqb t.s2 s) h refl refl refl
  where
    by : (a b c : Bool) → T (a || b || c) → eqb t.s0 s ≡ a → eqb t.s1 s ≡ b → eqb t.s2 s ≡ c → Place t s
    by true b c h ea eb ec = record { position = 0; small = lit< tt; here = eqb→eq _ _ (rw ea tt); gives = λ g. rw (ea, share) }
    by false true c h ea eb ec = record { position = 1; small = lit< tt; here = eqb→eq _ _ (rw eb tt); gives = λ g. rw (ea, eb, share) }
    by false false true h ea eb ec = record { position = 2; small = lit< tt; here = eqb→eq _ _ (rw ec tt); gives = λ g. rw (ea, eb, ec, share) }
    by false false false h ea eb ec = absurd h
