-- The w low bits of a wider fingerprint are the fingerprint of w bits. Assumes nothing.
use Rattle.std.specs.Prelude.{◌≡◌, ℕ, ◌+◌, ◌-◌, ◌%◌, ◌^◌, ◌≤◌}
use Rattle.std.proofs.Common.{ap, ◌∙◌, arith}
use Rattle.std.proofs.Math.Pow.{mod-mod-pow}
use Rattle.arith.specs.Steps.{xorshift}
use Rattle.arith.specs.Fingerprint.{fingerprint_of}

pub fingerprint_low : {w v : ℕ} → w ≤ v → (hash : ℕ) → fingerprint_of v hash % 2 ^ w ≡ fingerprint_of w hash
unfolding fingerprint_of
fingerprint_low {w} {v} narrower hash =
    let split : v ≡ (v - w) + w = omega arith in
    ap (λ (k : ℕ). xorshift 32 hash % 2 ^ k % 2 ^ w) split ∙ mod-mod-pow (xorshift 32 hash) (v - w) w
