-- A seed is a number of 64 bits. Assumes nothing.
use Rattle.std.specs.Prelude.{ℕ, ◌^◌, ◌<◌}
use Rattle.arith.specs.SplitMix64.{output_of, seed_of}
use Rattle.arith.specs.OneToOne.{xorshift-lt, times-lt}

pub seed_lt : (i : ℕ) → seed_of i < 2 ^ 64
unfolding seed_of output_of
seed_lt i = xorshift-lt 31 _ (times-lt 0x94d049bb133111eb _)
