-- Document 01, module 5: the three slots of a hash, for a segment length L, a mask, and a segment count length, here `span`.
-- Assumes nothing.
use Rattle.std.specs.Prelude.{ℕ, ◌+◌, ◌*◌, ◌/◌, ◌^◌, List, [], ◌∷◌, bit_and, bit_xor}

-- h0 = floor(hash × segment count length / 2 ^ 64)
unfoldable pub slot0 : (hash span : ℕ) → ℕ
slot0 hash span = hash * span / 2 ^ 64

-- h1 is h0 + L, xor the masked bits of hash >> 18
unfoldable pub slot1 : (hash L mask span : ℕ) → ℕ
slot1 hash L mask span = bit_xor (slot0 hash span + L) (bit_and (hash / 2 ^ 18) mask)

-- h2 is h0 + 2L, xor the masked low bits of hash
unfoldable pub slot2 : (hash L mask span : ℕ) → ℕ
slot2 hash L mask span = bit_xor (slot0 hash span + 2 * L) (bit_and hash mask)

-- in the order of their positions 0, 1, 2
abbrev pub slots_of : (hash L mask span : ℕ) → List ℕ
slots_of hash L mask span = slot0 hash span ∷ slot1 hash L mask span ∷ slot2 hash L mask span ∷ []
