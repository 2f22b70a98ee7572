-- The state of splitmix64 after i outputs, at once. Assumes nothing.
use Rattle.std.specs.Prelude.{◌≡◌, ℕ, zero, suc, ◌+◌, ◌*◌, ◌%◌, ◌^◌, refl}
use Rattle.std.proofs.Common.{ap, ◌∙◌, add_assoc, suc-mul}
use Rattle.std.proofs.Math.Nat.{mod-add-mod}
use Rattle.arith.specs.SplitMix64.{increment, state_of}

pub state_closed : (i : ℕ) → state_of i ≡ (1 + i * increment) % 2 ^ 64
unfolding state_of
state_closed zero = refl
state_closed (suc i) =
    ap (λ (x : ℕ). (x + increment) % 2 ^ 64) (state_closed i)
    ∙ mod-add-mod (1 + i * increment) (2 ^ 64) increment
    ∙ ap (λ (x : ℕ). x % 2 ^ 64) (add_assoc 1 (i * increment) increment ∙ ap (λ (x : ℕ). 1 + x) (rw suc-mul))
