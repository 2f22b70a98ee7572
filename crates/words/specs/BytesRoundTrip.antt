-- The two readings of little-endian bytes undo each other: a number's bytes are read as the number, and the bytes of the number that some
-- bytes are read as are these. Assumes nothing.
use Rattle.std.specs.Prelude.{◌≡◌, ℕ, zero, suc, ◌+◌, ◌/◌, ◌%◌, ◌^◌, ◌<◌, ◌≤◌, List, [], ◌∷◌, length, take, drop, slice_index, slice_index_or, refl}
use Rattle.std.proofs.Common.{sym, ap, ap₂, ◌∙◌, add-zero, add-one, arith, drop-cons, get_or-drop, drop-drop}
use Rattle.std.proofs.Math.Nat.{pow-zero, pow-succ'}
use Rattle.words.specs.Bytes.{number_at, bytes_of}

-- ---- from a number to its bytes, and back

first_of_take : (k : ℕ) (bs : List ℕ) → slice_index (take (suc k) bs) 0 ≡ slice_index bs 0
first_of_take k [] = refl
first_of_take k (b ∷ bs) = refl

rest_of_take : (k : ℕ) (bs : List ℕ) → drop 1 (take (suc k) bs) ≡ take k (drop 1 bs)
rest_of_take zero [] = refl
rest_of_take (suc k) [] = refl
rest_of_take k (b ∷ bs) = refl

pub number_of_bytes : (k p : ℕ) (bs : List ℕ) (x : ℕ) → x < 256 ^ k → take k (drop p bs) ≡ bytes_of k x → number_at k p bs ≡ x
number_of_bytes zero p bs x h e = omega (arith, pow-zero 256)
number_of_bytes (suc k) p bs x h e =
    let low : slice_index_or bs p 0 ≡ x % 256
    = sym (get_or-drop p bs 0 0 ∙ ap (λ (n : ℕ). slice_index bs n) (add-zero p)) ∙ sym (first_of_take k (drop p bs)) ∙ ap (λ (l : List ℕ). slice_index l 0) e in
    let rest : take k (drop (p + 1) bs) ≡ bytes_of k (x / 256)
    = ap (take k) (sym (drop-drop 1 p bs)) ∙ sym (rest_of_take k (drop p bs)) ∙ ap (λ (l : List ℕ). drop 1 l) e in
    let high = number_of_bytes k (p + 1) bs (x / 256) (omega (arith, pow-succ' 256 k)) rest in
    omega (arith, low, high)

-- ---- from bytes to their number, and back

pub bytes_of_number : (k p : ℕ) (bs : List ℕ) → ((i : ℕ) → slice_index bs i < 256) → p + k ≤ length bs → bytes_of k (number_at k p bs) ≡ take k (drop p bs)
bytes_of_number zero p bs small h = refl
bytes_of_number (suc k) p bs small h =
    let b = small p in
    rw (drop-cons bs p 0 (omega arith))
    (ap₂ (λ (x : ℕ) (l : List ℕ). x ∷ l) (omega arith)
    (ap (bytes_of k) (omega arith) ∙ bytes_of_number k (p + 1) bs small (omega arith) ∙ ap (λ (n : ℕ). take k (drop n bs)) (add-one p)))
