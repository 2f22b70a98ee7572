-- What holds of the machine at every turn. Each slot knows the keys that remain; only a slot where a key was taken may know more, but then
-- no key that remains touches it, and it is never stacked again. Definitions only. Assumes nothing.
use Rattle.std.specs.Prelude.{◌≡◌, ◌⊎◌, List, ℕ, ◌≤◌, ◌<◌, length}
use Rattle.stuck.specs.Stuck.{Slots, KeySet}
use Rattle.machine.specs.Machine.{Sums}
use Rattle.machine.specs.Known.{known_at, Long}
use Rattle.machine.specs.KnownOf.{touching, known_of}
use Rattle.machine.specs.Stack.{Stacked, Once}

module _ (slots : ℕ → Slots) (hs : List ℕ) (n : ℕ) where
  -- slot s knows the keys of m, or it is done with: none of them touches it, and it is not stacked
  abbrev pub KnowsOrDone : KeySet → Sums → List ℕ → ℕ → Type 0
  KnowsOrDone m a stack s = (known_at a s ≡ known_of slots hs m s) ⊎ ((touching slots hs m s ≡ 0) × (¬ Stacked s stack))

  -- the machine stands at the sums a and the stack, and the keys of m remain
  pub record Standing (m : KeySet) (a : Sums) (stack : List ℕ) : Type 0 where
    pub marks : length m ≡ length hs
    pub long : Long n a
    pub knows : (s : ℕ) → s < n → KnowsOrDone m a stack s
    pub stacked : (s : ℕ) → s < n → touching slots hs m s ≡ 1 → Stacked s stack
    pub inside : (s : ℕ) → Stacked s stack → s < n
    pub once : Once stack
    pub low : (s : ℕ) → Stacked s stack → touching slots hs m s ≤ 1
