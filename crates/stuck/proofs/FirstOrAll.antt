-- The search over attempts finds one attempt at most, and none exactly when every allowed one has a stuck set. Assumes nothing.
use Rattle.std.specs.Prelude.{◌≡◌, ◌↔◌, ◌⊎◌, List, ℕ, zero, suc, ◌≤◌, ◌<◌}
use Rattle.std.proofs.Common.{sym, subst, inl, inr, arith}
use Rattle.std.proofs.Math.Decide.{ℕ_discrete, dec_lt}
use Rattle.stuck.specs.Stuck.{Slots, SomeStuck, NoneStuck}
use Rattle.stuck.specs.Survives.{not_both}
use Rattle.stuck.proofs.RemovesAll.{stuck?}
use Rattle.stuck.specs.FirstFree.{First, AllStuck}

module _ (at : ℕ → List Slots) (first last : ℕ) where
  pub first_same : (k l : ℕ) → First at first last k → First at first last l → k ≡ l
  first_same k l f g = by (dec_lt k l) (dec_lt l k)
    where
      by : Dec (k < l) → Dec (l < k) → k ≡ l
      by (yes h) d = absurd (not_both (g.before k f.low h) f.free)
      by (no n) (yes h) = absurd (not_both (f.before l g.low h) g.free)
      by (no n) (no n') = omega arith

  pub first_not_all : (k : ℕ) → First at first last k → ¬ AllStuck at first last
  first_not_all k f all = not_both (all k f.low f.high) f.free

first_or_below : (at : ℕ → List Slots) (first last bound : ℕ) → bound ≤ suc last
    → ((k : ℕ) × First at first last k) ⊎ ((j : ℕ) → first ≤ j → j < bound → SomeStuck (at j))
first_or_below at first last zero le = inr (λ j lo lt. absurd (omega arith))
first_or_below at first last (suc b) le = by (first_or_below at first last b (omega arith)) (dec_lt b first) (stuck? (at b))
  where
    by : ((k : ℕ) × First at first last k) ⊎ ((j : ℕ) → first ≤ j → j < b → SomeStuck (at j)) → Dec (b < first) → SomeStuck (at b) ⊎ NoneStuck (at b)
        → ((k : ℕ) × First at first last k) ⊎ ((j : ℕ) → first ≤ j → j < suc b → SomeStuck (at j))
    by (inl found) early stuck = inl found
    by (inr below) (yes early) stuck = inr (λ j lo lt. absurd (omega arith))
    by (inr below) (no late) (inr free) = inl (b, record { low = omega arith; high = omega arith; free = free; before = below })
    by (inr below) (no late) (inl stuck) = inr (λ j lo lt. here j lo lt (ℕ_discrete j b))
      where
        here : (j : ℕ) → first ≤ j → j < suc b → Dec (j ≡ b) → SomeStuck (at j)
        here j lo lt (yes e) = subst (λ (k : ℕ). SomeStuck (at k)) (sym e) stuck
        here j lo lt (no ne) = below j lo (omega arith)

-- one or the other
pub first_or_all : (at : ℕ → List Slots) (first last : ℕ) → ((k : ℕ) × First at first last k) ⊎ AllStuck at first last
first_or_all at first last = elim (first_or_below at first last (suc last) (omega arith)) [
  | inl found ↦ inl found
  | inr below ↦ inr (λ j lo hi. below j lo (omega arith))
]

-- no attempt is found exactly when every allowed one has a stuck set
pub none_first_iff : (at : ℕ → List Slots) (first last : ℕ) → (¬ ((k : ℕ) × First at first last k)) ↔ AllStuck at first last
none_first_iff at first last = (
  λ none. elim (first_or_all at first last) [ inl found ↦ absurd (none found) | inr all ↦ all ],
  λ all found. first_not_all at first last found.0 found.1 all,
)
