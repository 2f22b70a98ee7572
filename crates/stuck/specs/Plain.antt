-- The plain search: look for a key that touches a slot alone, remove it, begin again. It is slow, and needs no sums, no stack and no
-- order; that it is a complete run is `PlainComplete`. Assumes nothing.
use Rattle.std.specs.Prelude.{Bool, false, cond, ◌&&◌, List, [], ◌∷◌, ℕ, zero, suc, ◌*◌, ◌/◌, ◌%◌, length, get_or, eqb}
use Rattle.std.proofs.Math.Option.{Option, none, some}
use Rattle.stuck.specs.Stuck.{Slots, KeySet, slot_at, key, without, every_key, Pick, pick}
use Rattle.stuck.specs.TouchCount.{touch_count}

-- key i is in the set, and the slot at its position p is touched once
unfoldable pub can_go : List Slots → KeySet → ℕ → ℕ → Bool
can_go keys m i p = get_or m i false && eqb (touch_count keys m (slot_at (key keys i) p)) 1

unfoldable pub or_else : Option ℕ → Option ℕ → Option ℕ
or_else (some k) other = some k
or_else none other = other

-- the first number below n that passes the test
unfoldable pub first_below : ℕ → (ℕ → Bool) → Option ℕ
first_below zero test = none
first_below (suc n) test = or_else (first_below n test) (cond (test n) (some n) none)

-- the keys in turn, each at its positions in turn: number k is key k / 3 at position k % 3
unfoldable pub first_to_go : List Slots → KeySet → Option ℕ
first_to_go keys m = first_below (3 * length m) (λ k. can_go keys m (k / 3) (k % 3))

-- the keys removed, the first removed first, and the set that is left
pub record Peeled : Type 0 where
  pub picks : List Pick
  pub left : KeySet

unfoldable pub after : Option ℕ → KeySet → (KeySet → Peeled) → Peeled
after none m again = record { picks = []; left = m }
after (some k) m again = let rest = again (without m (k / 3)) in record { picks = pick (k / 3) (k % 3) ∷ rest.picks; left = rest.left }

-- at most n removals
unfoldable pub plainly : List Slots → ℕ → KeySet → Peeled
plainly keys zero m = record { picks = []; left = m }
plainly keys (suc n) m = after (first_to_go keys m) m (λ m'. plainly keys n m')

unfoldable pub plain : List Slots → Peeled
plain keys = plainly keys (length keys) (every_key keys)
