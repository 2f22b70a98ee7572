-- A fingerprint xor those at three slots, by their numbers: what a query looks at, and what a key is stored by. Assumes nothing.
use Rattle.std.specs.Prelude.{◌≡◌, List, ℕ, zero, suc, ◌<◌, length, get_or, slice_index, EachIndex, bit_xor}
use Rattle.std.proofs.Common.{arith}

abbrev pub xor_at : (fingerprint : ℕ) (slots values : List ℕ) → ℕ
xor_at fingerprint slots values =
    bit_xor (bit_xor (bit_xor fingerprint (get_or values (get_or slots 0 0) 0)) (get_or values (get_or slots 1 0) 0)) (get_or values (get_or slots 2 0) 0)

-- each of three slots is below a number
pub each_below : (slots : List ℕ) (n : ℕ) → length slots ≡ 3 → get_or slots 0 0 < n → get_or slots 1 0 < n → get_or slots 2 0 < n
    → EachIndex slots (λ i. slice_index slots i < n)
each_below slots n three first second third zero lt = first
each_below slots n three first second third (suc zero) lt = second
each_below slots n three first second third (suc (suc zero)) lt = third
each_below slots n three first second third (suc (suc (suc i))) lt = absurd (omega arith)
