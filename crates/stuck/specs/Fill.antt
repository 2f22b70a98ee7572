-- Document 01, the last paragraph of "One attempt, and the order that fixes the bytes", filling backwards; and its module 7, the
-- query. `bit_xor` is on numbers, so the width of a fingerprint does not come in. Definitions only. Assumes nothing.
use Rattle.std.specs.Prelude.{◌≡◌, List, [], ◌∷◌, ℕ, get_or, set}
use Rattle.std.specs.Int.Bits.{bit_xor}
use Rattle.stuck.specs.Stuck.{Slots, slot_at, next}

-- a removed key: its slots, the position of the slot that it touched alone, and its fingerprint
pub record Entry : Type 0 where
  pub slots : Slots
  pub position : ℕ
  pub fingerprint : ℕ

abbrev pub own_slot : Entry → ℕ
own_slot e = slot_at e.slots e.position

-- the slot where a key was removed becomes its fingerprint xor the other two slots' values
unfoldable pub store : Entry → List ℕ → List ℕ
store e values =
    let one = get_or values (slot_at e.slots (next e.position)) 0 in
    let two = get_or values (slot_at e.slots (next (next e.position))) 0 in
    set values (own_slot e) (bit_xor e.fingerprint (bit_xor one two))

-- the entries stand in the order of removal; the last removed is stored first
unfoldable pub fill : List Entry → List ℕ → List ℕ
fill [] values = values
fill (e ∷ later) values = store e (fill later values)

-- fingerprint xor the three slots' values
unfoldable pub query_xor : Slots → ℕ → List ℕ → ℕ
query_xor t f values = bit_xor (bit_xor (bit_xor f (get_or values t.s0 0)) (get_or values t.s1 0)) (get_or values t.s2 0)

-- the query says yes
abbrev pub AnswersYes : Slots → ℕ → List ℕ → Type 0
AnswersYes t f values = query_xor t f values ≡ 0
