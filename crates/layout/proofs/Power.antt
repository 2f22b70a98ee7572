-- The next power of two after k, and at least 2, is `power_above k`. Assumes nothing.
use Rattle.std.specs.Prelude.{◌≡◌, ℕ, zero, suc, ◌*◌, ◌/◌, ◌^◌, ◌≤◌, ◌<◌, max}
use Rattle.std.specs.Int.{IsPowerOfTwo}
use Rattle.std.proofs.Common.{sym, ap, ◌∙◌, arith, le_antisymm, pow_mono, pow-suc}
use Rattle.std.proofs.Math.Nat.{pow-zero}
use Rattle.layout.specs.Layout.{max_slots, power_above}
use Rattle.layout.proofs.BucketStarts.{power_above_lem}

pub next_power_is : (k p : ℕ) → k ≤ max_slots → IsPowerOfTwo p → max k 2 ≤ p → p / 2 < max 1 (max k 2) → p ≡ power_above k
next_power_is k p h (zero, e) covers half = absurd (omega (arith, e, pow-zero 2))
next_power_is k p h (suc m, e) covers half =
    let above = power_above_lem h in
    let least : above.exponent ≤ suc m = above.least (suc m) (omega arith) (omega (arith, e)) in
    let doubled : p ≡ 2 ^ m * 2 = e ∙ pow-suc 2 m in
    let two : 2 ^ 1 ≤ 2 ^ above.exponent = pow_mono above.some in
    let smaller_falls_short : above.exponent ≤ m → ⊥ = λ q. omega (arith, pow_mono q, above.is, above.covers) in
    let greatest : suc m ≤ above.exponent = omega arith in
    e ∙ ap (λ (x : ℕ). 2 ^ x) (le_antisymm greatest least) ∙ sym above.is
