-- The total of what the marked elements of a list give, under any operation on numbers that may be taken in any order: a slot's count and
-- its xors are such totals. Assumes nothing.
use Rattle.std.specs.Prelude.{◌≡◌, Bool, length, get_or, set}
use Rattle.std.proofs.Math.Path.{refl, ap}
use Rattle.std.proofs.Common.{◌∙◌, le_of_suc-le-suc, not-suc-le-zero, arith}
use Rattle.std.proofs.Math.Bool.{true, false}
use mathlib.Core.List.{List, [], ◌∷◌}
use Prim.Native.Nat.{ℕ, zero, suc, ◌+◌, ◌<◌}
use Rattle.std.specs.Int.Bits.{bit_xor, xor_zero_l}
use Rattle.std.proofs.Math.Dec.{T}
use Rattle.words.specs.Xor.{xor_left_comm}

abbrev pub bit : Bool → ℕ
bit true = 1
bit false = 0

pub bit_yes : (b : Bool) → T b → bit b ≡ 1
bit_yes true t = refl
bit_yes false t = absurd t

pub bit_no : (b : Bool) → ¬ T b → bit b ≡ 0
bit_no true n = absurd (n tt)
bit_no false n = refl

abbrev pub Op : Type 0
Op = ℕ → ℕ → ℕ

-- what an operation needs for its totals
pub record Adds (op : Op) : Type 0 where
  pub zero_l : (a : ℕ) → op 0 a ≡ a
  pub left_comm : (a b c : ℕ) → op a (op b c) ≡ op b (op a c)

pub plus_adds : Adds ◌+◌
plus_adds = record { zero_l = λ a. omega arith; left_comm = λ a b c. omega arith }

pub xor_adds : Adds bit_xor
xor_adds = record { zero_l = xor_zero_l; left_comm = xor_left_comm }

-- ---- totals

module _ {X : Type 0} where
  -- the total over the marked elements
  unfoldable pub total : Op → (X → ℕ) → List Bool → List X → ℕ
  total op f [] xs = 0
  total op f (b ∷ m) [] = 0
  total op f (true ∷ m) (x ∷ xs) = op (f x) (total op f m xs)
  total op f (false ∷ m) (x ∷ xs) = total op f m xs

  -- one marked element's share, and the rest
  pub total-without : (op : Op) → Adds op → (f : X → ℕ) (m : List Bool) (xs : List X) (i : ℕ) (d : X) → T (get_or m i false) → i < length xs
      → total op f m xs ≡ op (f (get_or xs i d)) (total op f (set m i false) xs)
  unfolding total
  total-without op a f [] xs i d h l = absurd h
  total-without op a f (b ∷ m) [] i d h l = absurd (not-suc-le-zero l)
  total-without op a f (true ∷ m) (x ∷ xs) zero d h l = refl
  total-without op a f (false ∷ m) (x ∷ xs) zero d h l = absurd h
  total-without op a f (true ∷ m) (x ∷ xs) (suc i) d h l =
      ap (λ (n : ℕ). op (f x) n) (total-without op a f m xs i d h (le_of_suc-le-suc l)) ∙ a.left_comm _ _ _
  total-without op a f (false ∷ m) (x ∷ xs) (suc i) d h l = total-without op a f m xs i d h (le_of_suc-le-suc l)

  -- a total of zeros
  pub total-none : (op : Op) → Adds op → (f : X → ℕ) (m : List Bool) (xs : List X) (d : X) → ((j : ℕ) → T (get_or m j false) → f (get_or xs j d) ≡ 0)
      → total op f m xs ≡ 0
  unfolding total
  total-none op a f [] xs d h = refl
  total-none op a f (b ∷ m) [] d h = refl
  total-none op a f (true ∷ m) (x ∷ xs) d h = rw (h 0 tt, total-none op a f m xs d (λ j. h (suc j))) (a.zero_l 0)
  total-none op a f (false ∷ m) (x ∷ xs) d h = total-none op a f m xs d (λ j. h (suc j))

-- ---- how many of the marked elements pass a test

module _ {X : Type 0} (test : X → Bool) where
  unfoldable pub count : List Bool → List X → ℕ
  count m xs = total ◌+◌ (λ (x : X). bit (test x)) m xs

  pub count-without : (m : List Bool) (xs : List X) (i : ℕ) (d : X) → T (get_or m i false) → i < length xs
      → count m xs ≡ bit (test (get_or xs i d)) + count (set m i false) xs
  unfolding count
  count-without m xs i d h l = total-without ◌+◌ plus_adds (λ (x : X). bit (test x)) m xs i d h l

  -- none passes
  pub none_counted : (m : List Bool) (xs : List X) (d : X) → ((j : ℕ) → T (get_or m j false) → ¬ T (test (get_or xs j d))) → count m xs ≡ 0
  unfolding count
  none_counted m xs d h = total-none ◌+◌ plus_adds (λ (x : X). bit (test x)) m xs d (λ j k. bit_no (test (get_or xs j d)) (h j k))

  -- some passes
  pub some_counted : (m : List Bool) (xs : List X) (d : X) → 0 < count m xs → (i : ℕ) × T (get_or m i false) × T (test (get_or xs i d))
  unfolding count total
  some_counted [] xs d h = absurd (not-suc-le-zero h)
  some_counted (b ∷ m) [] d h = absurd (not-suc-le-zero h)
  some_counted (false ∷ m) (x ∷ xs) d h = let w = some_counted m xs d h in (suc w.0, w.1, w.2)
  some_counted (true ∷ m) (x ∷ xs) d h = by (test x) refl (λ k. some_counted m xs d k)
    where
      by : (b : Bool) → test x ≡ b
          → (0 < count m xs → (i : ℕ) × T (get_or m i false) × T (test (get_or xs i d))) → (i : ℕ) × T (get_or (true ∷ m) i false) × T (test (get_or (x ∷ xs) i d))
      by true e k = (0, tt, rw e tt)
      by false e k = let g = rw e at h in let w = k (omega arith) in (suc w.0, w.1, w.2)

  -- one that passes is counted
  pub counted_some : (m : List Bool) (xs : List X) (i : ℕ) (d : X) → T (get_or m i false) → i < length xs → T (test (get_or xs i d)) → 0 < count m xs
  counted_some m xs i d h l t = omega (arith, count-without m xs i d h l, bit_yes (test (get_or xs i d)) t)
