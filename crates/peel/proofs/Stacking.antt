-- The stack in a lent list: a slot is stored at the top and the top goes up or stays, or the last one is taken off. Assumes nothing.
use Rattle.std.proofs.Common.{◌≡◌, ap, ◌∙◌, subst, Bool, true, false, List, [], ◌∷◌, reverse, ℕ, ◌+◌, ◌-◌, ◌≤◌, ◌<◌, length, get_or, take, set, arith}
use Rattle.std.proofs.lemmas.List.{take_more_set, take-set-le, take_more, reverse-append, length-reverse, length-take-le}
use Rattle.machine.specs.Machine.{push_if}
use Rattle.peel.specs.Buffers.{stack_of}

module _ (lone : List ℕ) (top : ℕ) where
  pub stored_yes : {wanted : Bool} (slot : ℕ) → wanted ≡ true → top < length lone → stack_of (set lone top slot) (top + 1) ≡ push_if wanted slot (stack_of lone top)
  unfolding stack_of push_if
  stored_yes slot is lt = rw (is, take_more_set lone top slot lt) (reverse-append (take top lone) (slot ∷ []))

  pub stored_no : {wanted : Bool} (slot : ℕ) → wanted ≡ false → stack_of (set lone top slot) top ≡ push_if wanted slot (stack_of lone top)
  unfolding stack_of push_if
  stored_no slot is = rw (is, take-set-le top lone top slot (omega arith))

  pub stack_length : top ≤ length lone → length (stack_of lone top) ≡ top
  unfolding stack_of
  stack_length h = length-reverse (take top lone) ∙ length-take-le top lone h

pub popped : (lone : List ℕ) (top : ℕ) → 0 < top → top ≤ length lone → stack_of lone top ≡ get_or lone (top - 1) 0 ∷ stack_of lone (top - 1)
unfolding stack_of
popped lone top some le =
    subst (λ (k : ℕ). reverse (take k lone) ≡ get_or lone (top - 1) 0 ∷ reverse (take (top - 1) lone)) (omega arith)
    (ap reverse (take_more lone (top - 1) 0 (omega arith)) ∙ reverse-append (take (top - 1) lone) (get_or lone (top - 1) 0 ∷ []))

pub none_stacked : (lone : List ℕ) (top : ℕ) → top ≡ 0 → stack_of lone top ≡ []
unfolding stack_of
none_stacked lone top none = rw none
