-- A call that gives a value passed every check before it. Assumes nothing.
use Rattle.std.specs.Prelude.{ℕ, ◌≡◌, refl, Bool, true, false}
use Rattle.answers.specs.Answers.{Answer, refuses, gives, Outcome}
use Rattle.answers.specs.Checks.{Done, done, refuse_if, ◌then◌, unless_refused}
use Rattle.answers.specs.Never.{never}

pub never_both : {A : Type 0} {number : ℕ} {value : A} → refuses number ≡ gives value → ⊥
never_both e = never cc

pub no_fault : (fault : Bool) (number : ℕ) → refuse_if fault number ≡ gives done → fault ≡ false
no_fault true number e = absurd (never_both e)
no_fault false number e = refl

pub both_pass : {A : Type 0} (checks : Answer Done) (next : Answer A) (value : A)
    → checks then next ≡ gives value → (checks ≡ gives done) × (next ≡ gives value)
both_pass (refuses number) next value e = absurd (never_both e)
both_pass (gives done) next value e = (refl, e)

pub passed_first : {A : Type 0} (fault : Bool) (number : ℕ) (next : Answer A) (value : A)
    → refuse_if fault number then next ≡ gives value → (fault ≡ false) × (next ≡ gives value)
passed_first fault number next value e =
    let p = both_pass (refuse_if fault number) next value e in
    (no_fault fault number p.0, p.1)

pub next_follows : {A M : Type 0} (checks : Answer Done) (memory : M) (next : Outcome A M) (value : A)
    → (unless_refused checks memory next).answer ≡ gives value → (checks ≡ gives done) × (unless_refused checks memory next ≡ next)
next_follows (refuses number) memory next value e = absurd (never_both e)
next_follows (gives done) memory next value e = (refl, refl)
