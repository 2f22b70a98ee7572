-- Document 01, module 3: the fingerprint of a hash, at any width; a list of 8 bits has w = 8, one of 16 bits w = 16. Assumes nothing.
use Rattle.std.specs.Prelude.{ℕ, ◌%◌, ◌^◌}
use Rattle.arith.specs.Steps.{xorshift}

-- the w low bits of hash xor (hash shifted right by 32)
unfoldable pub fingerprint_of : (w hash : ℕ) → ℕ
fingerprint_of w hash = xorshift 32 hash % 2 ^ w
