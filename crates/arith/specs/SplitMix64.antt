-- Document 01, module 2: splitmix64, whose state starts at 1 and never starts over. Assumes nothing.
use Rattle.std.specs.Prelude.{ℕ, zero, suc, ◌+◌, ◌%◌, ◌^◌}
use Rattle.arith.specs.Steps.{xorshift, times}

-- what each output adds to the state
abbrev pub increment : ℕ
increment = 0x9e3779b97f4a7c15

-- the state after i outputs
unfoldable pub state_of : ℕ → ℕ
state_of zero = 1
state_of (suc i) = (state_of i + increment) % 2 ^ 64

-- what is put out at a state
unfoldable pub output_of : ℕ → ℕ
output_of state = xorshift 31 (times 0x94d049bb133111eb (xorshift 27 (times 0xbf58476d1ce4e5b9 (xorshift 30 state))))

-- the seed of attempt i is the i-th output
unfoldable pub seed_of : ℕ → ℕ
seed_of i = output_of (state_of i)
