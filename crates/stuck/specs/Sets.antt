-- Sets of keys: members lie in the list, what a set without a key has, sizes, and sets with the same keys are the same. Assumes nothing.
use Rattle.std.specs.Prelude.{◌≡◌, refl, ◌≢◌, ◌↔◌, ◌⊎◌, Bool, true, false, List, [], ◌∷◌, ℕ, zero, suc, ◌≤◌, ◌<◌, length, get_or, T}
use Rattle.std.proofs.Common.{ap, inl, inr, zero-le, suc-le-suc, le_of_suc-le-suc, not-suc-le-zero, suc-ne-zero, arith, get_or-set_other, ext_get_or}
use Rattle.stuck.specs.Stuck.{Slots, KeySet, Has, Within, Nobody, size, every_key, without}

pub has-lt : (m : KeySet) (i : ℕ) → Has m i → i < length m
has-lt [] i h = absurd h
has-lt (b ∷ m) zero h = suc-le-suc zero-le
has-lt (b ∷ m) (suc i) h = suc-le-suc (has-lt m i h)

-- ---- a set without a key

pub without_within : (m : KeySet) (i : ℕ) → Within (without m i) m
without_within [] i j h = absurd h
without_within (b ∷ m) zero zero h = absurd h
without_within (b ∷ m) zero (suc j) h = h
without_within (b ∷ m) (suc i) zero h = h
without_within (b ∷ m) (suc i) (suc j) h = without_within m i j h

pub without_self : (m : KeySet) (i : ℕ) → ¬ Has (without m i) i
without_self [] i h = h
without_self (b ∷ m) zero h = h
without_self (b ∷ m) (suc i) h = without_self m i h

pub without_other : (m : KeySet) (i j : ℕ) → j ≢ i → Has m j → Has (without m i) j
without_other m i j ne h = rw (get_or-set_other m i j false false ne) h

-- ---- sizes

pub size-without : (m : KeySet) (i : ℕ) → Has m i → size m ≡ suc (size (without m i))
unfolding size
size-without [] i h = absurd h
size-without (true ∷ m) zero h = refl
size-without (false ∷ m) zero h = absurd h
size-without (true ∷ m) (suc i) h = ap suc (size-without m i h)
size-without (false ∷ m) (suc i) h = size-without m i h

nobody_more : (m : KeySet) → Nobody m → Nobody (false ∷ m)
nobody_more m n zero h = h
nobody_more m n (suc j) h = n j h

pub somebody? : (m : KeySet) → ((i : ℕ) × Has m i) ⊎ Nobody m
somebody? [] = inr (λ i h. h)
somebody? (true ∷ m) = inl (0, tt)
somebody? (false ∷ m) = elim (somebody? m) [ inl w ↦ inl (suc w.0, w.1) | inr n ↦ inr (nobody_more m n) ]

pub size_nobody : (m : KeySet) → Nobody m ↔ (size m ≡ 0)
unfolding size
size_nobody [] = (λ n. refl, λ e i h. h)
size_nobody (true ∷ m) = (λ n. absurd (n 0 tt), λ e. absurd (suc-ne-zero (size m) e))
size_nobody (false ∷ m) =
    (λ n. (size_nobody m).0 (λ i. n (suc i)), λ e. nobody_more m ((size_nobody m).1 e))

pub size_within : (a b : KeySet) → Within a b → size a ≤ size b
unfolding size
size_within [] b w = omega arith
size_within (true ∷ a) [] w = absurd (w 0 tt)
size_within (false ∷ a) [] w = size_within a [] (λ i h. absurd (w (suc i) h))
size_within (true ∷ a) (true ∷ b) w = omega (arith, size_within a b (λ i. w (suc i)))
size_within (true ∷ a) (false ∷ b) w = absurd (w 0 tt)
size_within (false ∷ a) (true ∷ b) w = omega (arith, size_within a b (λ i. w (suc i)))
size_within (false ∷ a) (false ∷ b) w = size_within a b (λ i. w (suc i))

-- ---- the same keys, the same set

both : (a b : Bool) → (T a → T b) → (T b → T a) → a ≡ b
both true true f g = refl
both true false f g = absurd (f tt)
both false true f g = absurd (g tt)
both false false f g = refl

pub same_set : (a b : KeySet) → length a ≡ length b → Within a b → Within b a → a ≡ b
same_set a b l f g = ext_get_or false a b l (λ i h. both (get_or a i false) (get_or b i false) (f i) (g i))

-- ---- the set of all the keys

pub length-every : (keys : List Slots) → length (every_key keys) ≡ length keys
unfolding every_key
length-every [] = refl
length-every (t ∷ keys) = ap suc (length-every keys)

pub size-every : (keys : List Slots) → size (every_key keys) ≡ length keys
unfolding every_key size
size-every [] = refl
size-every (t ∷ keys) = ap suc (size-every keys)

pub has-every : (keys : List Slots) (i : ℕ) → i < length keys → Has (every_key keys) i
unfolding every_key
has-every [] i h = absurd (not-suc-le-zero h)
has-every (t ∷ keys) zero h = tt
has-every (t ∷ keys) (suc i) h = has-every keys i (le_of_suc-le-suc h)

pub every-lt : (keys : List Slots) (i : ℕ) → Has (every_key keys) i → i < length keys
every-lt keys i h = omega (arith, has-lt (every_key keys) i h, length-every keys)

pub within_every : (keys : List Slots) (a : KeySet) → length a ≡ length keys → Within a (every_key keys)
within_every keys a l i h = has-every keys i (omega (arith, has-lt a i h))
