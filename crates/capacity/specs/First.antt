-- The first number that passes a test: the search does not step back, passes over none, and ends at one that passes where there is one.
-- Assumes nothing.
use Rattle.std.specs.Prelude.{◌≡◌, refl, Bool, true, false, ℕ, zero, suc, ◌+◌, ◌≤◌, ◌<◌, T}
use Rattle.std.proofs.Common.{sym, subst, ⊎_elim, eq-or-lt_of_le, le_refl, arith}
use Rattle.capacity.specs.Capacity.{first}

module _ (passes : ℕ → Bool) where
  pub first_from : (k c : ℕ) → c ≤ first passes k c
  first_from zero c = le_refl c
  first_from (suc k) c =
      elim (passes c) as (λ b. c ≤ (elim b as (λ _. ℕ) [ true ↦ c | false ↦ first passes k (suc c) ])) [
        | true ↦ le_refl c
        | false ↦ omega (arith, first_from k (suc c))
      ]

  -- a number d that passes, where c does not, is past c
  past : {c d : ℕ} → c ≤ d → passes c ≡ false → T (passes d) → suc c ≤ d
  past from e t = ⊎_elim (λ q. absurd (subst T e (subst (λ (x : ℕ). T (passes x)) (sym q) t))) (λ s. s) (eq-or-lt_of_le from)

  pub first_least : (k c d : ℕ) → c ≤ d → T (passes d) → first passes k c ≤ d
  first_least zero c d from t = from
  first_least (suc k) c d from t =
      elim (passes c) as (λ b. passes c ≡ b → (elim b as (λ _. ℕ) [ true ↦ c | false ↦ first passes k (suc c) ]) ≤ d) [
        | true ↦ λ e. from
        | false ↦ λ e. first_least k (suc c) d (past from e t) t
      ] refl

  pub first_passes : (k c d : ℕ) → c ≤ d → d < c + k → T (passes d) → T (passes (first passes k c))
  first_passes zero c d from to t = absurd (omega arith)
  first_passes (suc k) c d from to t =
      elim (passes c) as (λ b. passes c ≡ b → T (passes (elim b [ true ↦ c | false ↦ first passes k (suc c) ]))) [
        | true ↦ λ e. subst T (sym e) tt
        | false ↦ λ e. first_passes k (suc c) d (past from e t) (omega arith) t
      ] refl
