-- From two numbers that are not equal, by an equation that says they are: what `cc` finds where constructors clash. Assumes nothing.
use Rattle.std.specs.Prelude.{◌≡◌, ℕ}
use Rattle.std.proofs.Common.{arith}

pub never : {X : Type 0} → ◌≡◌ {A = ℕ} 0 1 → X
never z = absurd (omega arith)
