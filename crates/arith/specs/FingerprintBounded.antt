-- A fingerprint of w bits is below 2 ^ w. Assumes nothing.
use Rattle.std.specs.Prelude.{ℕ, ◌^◌, ◌<◌}
use Rattle.std.proofs.Common.{mod-lt, pow_pos}
use Rattle.arith.specs.Steps.{xorshift}
use Rattle.arith.specs.Fingerprint.{fingerprint_of}

pub fingerprint_lt : (w hash : ℕ) → fingerprint_of w hash < 2 ^ w
unfolding fingerprint_of
fingerprint_lt w hash = mod-lt (xorshift 32 hash) (pow_pos w)
