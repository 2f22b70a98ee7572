-- Document 01, module 6: numbers as little-endian bytes, for any number of bytes. Assumes nothing.
use Rattle.std.specs.Prelude.{ℕ, zero, suc, ◌+◌, ◌*◌, ◌/◌, ◌%◌, List, [], ◌∷◌, slice_index}

-- the number in the k bytes from place p, lowest first
abbrev pub number_at : (k p : ℕ) → List ℕ → ℕ
number_at zero p bs = 0
number_at (suc k) p bs = slice_index bs p + 256 * number_at k (p + 1) bs

-- the k lowest bytes of a number, lowest first
abbrev pub bytes_of : (k x : ℕ) → List ℕ
bytes_of zero x = []
bytes_of (suc k) x = x % 256 ∷ bytes_of k (x / 256)
