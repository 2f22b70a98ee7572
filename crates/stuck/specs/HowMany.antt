-- How many keys stick: the size of the largest stuck set is one number, the number that any complete run leaves, and it is 0 exactly when
-- nothing is stuck. That there is such a number stands in proofs/HowMany. Assumes nothing.
use Rattle.std.specs.Prelude.{◌≡◌, ◌↔◌, ◌⊎◌, List, ℕ, ◌-◌, length}
use Rattle.std.proofs.Common.{sym, ◌∙◌, inl, inr, arith}
use Rattle.stuck.specs.Stuck.{Slots, KeySet, Within, Nobody, size, every_key, Stuck, NoneStuck, Pick, Complete}
use Rattle.stuck.specs.Sets.{size_nobody, size_within, size-every}
use Rattle.stuck.specs.Survives.{left-size, left_stuck_or_nothing, left_largest}

-- k keys stick: a set of k keys is stuck, or nothing, and contains every stuck set
pub record Sticks (keys : List Slots) (k : ℕ) : Type 0 where
  pub largest : KeySet
  pub number : size largest ≡ k
  pub stuck_or_nothing : Stuck keys largest ⊎ Nobody largest
  pub holds_all : (a : KeySet) → Stuck keys a → Within a largest

pub sticks_same : (keys : List Slots) (k l : ℕ) → Sticks keys k → Sticks keys l → k ≡ l
sticks_same keys k l a b =
    omega (arith, a.number, b.number, size_within a.largest b.largest (inside a b), size_within b.largest a.largest (inside b a))
  where
    inside : {k l : ℕ} (a : Sticks keys k) (b : Sticks keys l) → Within a.largest b.largest
    inside a b i h = elim a.stuck_or_nothing [ inl s ↦ b.holds_all a.largest s i h | inr none ↦ absurd (none i h) ]

pub sticks_zero : (keys : List Slots) (k : ℕ) → Sticks keys k → NoneStuck keys ↔ (k ≡ 0)
sticks_zero keys k a = (
  λ none. elim a.stuck_or_nothing [ inl s ↦ absurd (none a.largest s) | inr nobody ↦ sym a.number ∙ (size_nobody a.largest).0 nobody ],
  λ e m s. (size_nobody a.largest).1 (a.number ∙ e) s.nonempty.0 (a.holds_all m s s.nonempty.0 s.nonempty.1),
)

-- what a complete run leaves
pub left_sticks : {keys : List Slots} {l : KeySet} {r : List Pick} → Complete keys (every_key keys) r l → Sticks keys (length keys - length r)
left_sticks {keys} {l} {r} c =
    record {
      largest = l;
      number = omega (arith, left-size c.run, size-every keys);
      stuck_or_nothing = left_stuck_or_nothing c;
      holds_all = left_largest c.run;
    }
