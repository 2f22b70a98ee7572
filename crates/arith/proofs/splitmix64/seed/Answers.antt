-- `seed` meets its contract: the state after i outputs is 1 + i × the increment. Assumes nothing.
use Rattle.std.proofs.Common.{ℕ, ◌+◌, ◌*◌, ◌%◌, ◌^◌, sym, ap, ◌∙◌, add_comm}
use Rattle.std.proofs.Math.Nat.{mod-add-mod}
use Rattle.arith.specs.SplitMix64.{increment, seed_of, output_of}
use Rattle.arith.specs.StateClosed.{state_closed}
use Rattle.arith.proofs.splitmix64.seed.Goals as goal

pub returns : goal.returns
unfolding seed_of
returns c =
    let i = c.args.attempt in
    c.output.ensures
    ∙ ap output_of
    (ap (λ (x : ℕ). (x + 1) % 2 ^ 64) c.wrapping_mul-steps.ensures
    ∙ mod-add-mod (i * increment) (2 ^ 64) 1
    ∙ ap (λ (x : ℕ). x % 2 ^ 64) (add_comm (i * increment) 1)
    ∙ sym (state_closed i))
