-- The stack of slots, and what a push under a test does to it. Assumes nothing.
use Rattle.std.specs.Prelude.{◌≡◌, ◌⊎◌, Bool, ℕ, ◌+◌, length, T}
use Rattle.std.proofs.Math.Path.{refl}
use Rattle.std.proofs.Math.Logic.{inl, inr}
use Rattle.std.proofs.Math.Bool.{true, false}
use mathlib.Core.List.Memᴰ
use mathlib.Core.List.{List, [], ◌∷◌, Memᴰ}
use native.Mathlib.Omega.{arith}
use Rattle.stuck.specs.Total.{bit}
use Rattle.machine.specs.Machine.{push_if}

-- slot s is on the stack
abbrev pub Stacked : ℕ → List ℕ → Type 0
Stacked s stack = Memᴰ s stack

-- no slot is on it twice
abbrev pub Once : List ℕ → Type 0
Once [] = Unit {0}
Once (s ∷ stack) = (¬ Stacked s stack) × Once stack

module _ (s : ℕ) (stack : List ℕ) where
  pub push_length : (b : Bool) → length (push_if b s stack) ≡ bit b + length stack
  unfolding push_if
  push_length true = omega arith
  push_length false = omega arith

  pub push_keeps : (b : Bool) (x : ℕ) → Stacked x stack → Stacked x (push_if b s stack)
  unfolding push_if
  push_keeps true x z = Memᴰ.tail z
  push_keeps false x z = z

  pub push_there : (b : Bool) → T b → Stacked s (push_if b s stack)
  unfolding push_if
  push_there true t = Memᴰ.head refl
  push_there false t = absurd t

  -- what is stacked was pushed now, under the test, or was stacked before
  pub push_from : (b : Bool) (x : ℕ) → Stacked x (push_if b s stack) → ((x ≡ s) × T b) ⊎ Stacked x stack
  unfolding push_if
  push_from true x z = elim (Memᴰ.cases_cons z) [ inl e ↦ inl (e, tt) | inr old ↦ inr old ]
  push_from false x z = inr z

  pub push_once : (b : Bool) → (T b → ¬ Stacked s stack) → Once stack → Once (push_if b s stack)
  unfolding push_if
  push_once true new once = (new tt, once)
  push_once false new once = once
