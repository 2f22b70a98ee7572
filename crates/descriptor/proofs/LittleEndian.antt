-- The library's little-endian bytes are the paper's. Assumes nothing.
use Rattle.std.proofs.Common.{◌≡◌, ℕ, zero, suc, ◌+◌, ◌/◌, ◌%◌, ◌^◌, ◌≤◌, ◌*◌, List, ◌∷◌, take, drop, refl, sym, ap, ap₂, ◌∙◌, get_or-drop, get_or-take, arith}
use Rattle.std.proofs.Math.Nat.{div-div-eq-div-mul, div-one, pow-suc}
use Rattle.std.specs.Int.{byte_at, bytes_low_first}
use Rattle.words.specs.Bytes.{number_at, bytes_of}

byte_of : (i n : ℕ) → byte_at i n ≡ n / 256 ^ i % 256
byte_of zero n = ap (λ (x : ℕ). x % 256) (sym (div-one n))
byte_of (suc i) n = refl

bytes_from : (i k n : ℕ) → bytes_low_first i k n ≡ bytes_of k (n / 256 ^ i)
bytes_from i zero n = refl
bytes_from i (suc k) n =
    ap₂ (λ (x : ℕ) (l : List ℕ). x ∷ l) (byte_of i n)
    (bytes_from (suc i) k n ∙ ap (bytes_of k) (ap (λ (x : ℕ). n / x) (pow-suc 256 i) ∙ sym (div-div-eq-div-mul n (256 ^ i) 256)))

pub le_bytes : (k n : ℕ) → bytes_low_first 0 k n ≡ bytes_of k n
le_bytes k n = bytes_from 0 k n ∙ ap (bytes_of k) (div-one n)

-- ---- a number can be read in a part of the bytes, n of them from place p

part : (k q n p : ℕ) (bs : List ℕ) → q + k ≤ n → number_at k q (take n (drop p bs)) ≡ number_at k (p + q) bs
part zero q n p bs h = refl
part (suc k) q n p bs h =
    ap₂ (λ (b rest : ℕ). b + 256 * rest) (get_or-take n (drop p bs) q 0 (omega arith) ∙ get_or-drop p bs q 0)
    (part k (q + 1) n p bs (omega arith) ∙ ap (λ (x : ℕ). number_at k x bs) (omega arith))

pub number_in : (k p : ℕ) (bs bytes : List ℕ) {n : ℕ} → n ≡ number_at k 0 bytes → bytes ≡ take k (drop p bs) → n ≡ number_at k (p + 0) bs
number_in k p bs bytes q e = q ∙ ap (number_at k 0) e ∙ part k 0 k p bs (omega arith)
