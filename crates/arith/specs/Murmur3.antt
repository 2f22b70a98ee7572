-- Document 01, module 1: `mix64`, two multiplications that drop the carry out of 64 bits and three shifts by 33 with xor; and the hash
-- of a key. Assumes nothing.
use Rattle.std.specs.Prelude.{ℕ, ◌+◌, ◌%◌, ◌^◌}
use Rattle.arith.specs.Steps.{xorshift, times}

unfoldable pub mix64_of : ℕ → ℕ
mix64_of key = xorshift 33 (times 0xc4ceb9fe1a85ec53 (xorshift 33 (times 0xff51afd7ed558ccd (xorshift 33 key))))

-- the seed is added first, modulo 2 ^ 64
unfoldable pub hash_of : (key seed : ℕ) → ℕ
hash_of key seed = mix64_of ((key + seed) % 2 ^ 64)
