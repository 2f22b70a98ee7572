-- `first_free` gives the first free one of the attempts, and 0 exactly where none is free. Assumes nothing.
use Rattle.std.specs.Prelude.{◌≡◌, refl, ◌⊎◌, Bool, true, false, cond, ℕ, zero, suc, ◌+◌, ◌≤◌, ◌<◌}
use Rattle.std.proofs.Common.{subst, inl, inr, ⊎_elim, eq-or-lt_of_le, arith}
use Rattle.fuse.specs.Build.{first_free}

pub record FirstFree (free : ℕ → Bool) (first count found : ℕ) : Type 0 where
  pub low : first ≤ found
  pub high : found < first + count
  pub is : free found ≡ true
  pub before : (j : ℕ) → first ≤ j → j < found → free j ≡ false

abbrev pub NoneFree : (ℕ → Bool) → (first count : ℕ) → Type 0
NoneFree free first count = (j : ℕ) → first ≤ j → j < first + count → free j ≡ false

one_more : (free : ℕ → Bool) (first end : ℕ) → free first ≡ false → ((j : ℕ) → suc first ≤ j → j < end → free j ≡ false)
    → (j : ℕ) → first ≤ j → j < end → free j ≡ false
one_more free first end e rest j low high =
    ⊎_elim (λ (q : first ≡ j). subst (λ (x : ℕ). free x ≡ false) q e) (λ (q : first < j). rest j q high) (eq-or-lt_of_le low)

-- one or the other
pub first_is : (free : ℕ → Bool) (first count : ℕ) → 1 ≤ first
    → FirstFree free first count (first_free free first count) ⊎ ((first_free free first count ≡ 0) × NoneFree free first count)
unfolding first_free
first_is free first zero some = inr (refl, λ j low high. absurd (omega arith))
first_is free first (suc count) some = by (free first) refl (first_is free (suc first) count (omega arith))
  where
    later : ℕ
    later = first_free free (suc first) count

    by : (b : Bool) → free first ≡ b → FirstFree free (suc first) count later ⊎ ((later ≡ 0) × NoneFree free (suc first) count)
        → FirstFree free first (suc count) (cond b first later) ⊎ ((cond b first later ≡ 0) × NoneFree free first (suc count))
    by true e rest = inl (record { low = omega arith; high = omega arith; is = e; before = λ j low high. absurd (omega arith) })
    by false e (inl f) = inl (record { low = omega (arith, f.low); high = omega (arith, f.high); is = f.is; before = one_more free first _ e f.before })
    by false e (inr none) = inr (none.0, λ j low high. one_more free first _ e none.1 j low (omega arith))

pub none_first : (free : ℕ → Bool) (first count : ℕ) → ((j : ℕ) → free j ≡ false) → first_free free first count ≡ 0
unfolding first_free
none_first free first zero none = refl
none_first free first (suc count) none = rw (none first) (none_first free (suc first) count none)
