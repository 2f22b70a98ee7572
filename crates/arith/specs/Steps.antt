-- The two steps that the hashes of document 01, modules 1 to 3, are made of. Numbers are below 2 ^ 64. Assumes nothing.
use Rattle.std.specs.Prelude.{ℕ, ◌*◌, ◌/◌, ◌%◌, ◌^◌, bit_xor}

-- x xor (x shifted right by k)
unfoldable pub xorshift : (k x : ℕ) → ℕ
xorshift k x = bit_xor x (x / 2 ^ k)

-- x times c; the carry out of 64 bits is dropped
unfoldable pub times : (c x : ℕ) → ℕ
times c x = (x * c) % 2 ^ 64
