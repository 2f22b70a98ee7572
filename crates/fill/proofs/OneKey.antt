-- One key, stored where it was taken: its fingerprint, the three slots' and its own slot's once more; any fingerprint, so any width.
-- Assumes nothing.
use Rattle.std.specs.Prelude.{◌≡◌, List, length, ℕ, zero, suc, ◌^◌, ◌<◌, get_or, set}
use Rattle.std.specs.Int.Bits.{bit_xor, xor_comm}
use Rattle.std.proofs.Common.{sym, ap, ◌∙◌, arith}
use Rattle.words.specs.Xor.{xor_assoc, xor_cancel_right}
use Rattle.arith.specs.Slots.{slots_of}
use Rattle.arith.specs.XorAt.{xor_at}
use Rattle.stuck.specs.Stuck.{Slots, slot_at, next}
use Rattle.stuck.specs.Fill.{store}
use Rattle.peel.specs.Segments.{slots_in}
use Rattle.peel.specs.Requires.{Segmented}
use Rattle.peel.specs.SlotsRead.{slot_read, slot_inside}

-- ---- what is xored in twice is gone

right_comm : (a b c : ℕ) → bit_xor (bit_xor a b) c ≡ bit_xor (bit_xor a c) b
right_comm a b c = xor_assoc a b c ∙ ap (bit_xor a) (xor_comm b c) ∙ sym (xor_assoc a c b)

-- four numbers, in the code's order
abbrev pub four : (v x y z : ℕ) → ℕ
four v x y z = bit_xor (bit_xor (bit_xor v x) y) z

module _ (v x y z : ℕ) where
  first_twice : bit_xor (four v x y z) x ≡ bit_xor v (bit_xor y z)
  first_twice =
      right_comm (bit_xor (bit_xor v x) y) z x ∙ ap (λ (e : ℕ). bit_xor e z) (right_comm (bit_xor v x) y x)
      ∙ ap (λ (e : ℕ). bit_xor (bit_xor e y) z) (xor_cancel_right v x)
      ∙ xor_assoc v y z

  second_twice : bit_xor (four v x y z) y ≡ bit_xor v (bit_xor z x)
  second_twice =
      right_comm (bit_xor (bit_xor v x) y) z y ∙ ap (λ (e : ℕ). bit_xor e z) (xor_cancel_right (bit_xor v x) y) ∙ right_comm v x z ∙ xor_assoc v z x

  third_twice : bit_xor (four v x y z) z ≡ bit_xor v (bit_xor x y)
  third_twice = xor_cancel_right (bit_xor (bit_xor v x) y) z ∙ xor_assoc v x y

module _ (t : Slots) (v : ℕ) (values : List ℕ) where
  abbrev at : ℕ → ℕ
  at slot = get_or values slot 0

  -- all three slots and the own one once more: the other two
  others : (p : ℕ) → p < 3
      → bit_xor (four v (at t.s0) (at t.s1) (at t.s2)) (at (slot_at t p))
      ≡ bit_xor v (bit_xor (at (slot_at t (next p))) (at (slot_at t (next (next p)))))
  others zero h = first_twice v (at t.s0) (at t.s1) (at t.s2)
  others (suc zero) h = second_twice v (at t.s0) (at t.s1) (at t.s2)
  others (suc (suc zero)) h = third_twice v (at t.s0) (at t.s1) (at t.s2)
  others (suc (suc (suc p))) h = absurd (omega arith)

-- ---- what the code needs of a key whose slots it has read

-- the values with the key stored: at its own slot the left over, and what stood there once more
abbrev pub with_key : (values three : List ℕ) (position v : ℕ) → List ℕ
with_key values three position v =
    set values (get_or three position 0) (bit_xor (xor_at v three values) (get_or values (get_or three position 0) 0))

pub record OneKey (segment mask span slots hash position : ℕ) (three : List ℕ) : Type 0 where
  pub long : length three ≡ 3
  pub inside0 : get_or three 0 0 < slots
  pub inside1 : get_or three 1 0 < slots
  pub inside2 : get_or three 2 0 < slots
  pub inside_own : get_or three position 0 < slots
  pub filled : (own fingerprint : ℕ) (values : List ℕ) → own ≡ fingerprint
      → with_key values three position own
      ≡ store (record { slots = slots_in segment mask span hash; position = position; fingerprint = fingerprint }) values

module _ {segment mask span slots hash position : ℕ} {three : List ℕ} (layout : Segmented segment mask span slots) (below : position < 3)
    (small : hash < 2 ^ 64) (are : three ≡ slots_of hash segment mask span) where
  abbrev key : Slots
  key = slots_in segment mask span hash

  is : (q : ℕ) → q < 3 → get_or three q 0 ≡ slot_at key q
  is = slot_read segment mask span hash are

  inside : (q : ℕ) → q < 3 → get_or three q 0 < slots
  inside = slot_inside layout small are

  filled_with : (v : ℕ) (values : List ℕ)
      → with_key values three position v ≡ store (record { slots = key; position = position; fingerprint = v }) values
  unfolding store
  filled_with v values =
      rw (is position below, is 0 (omega arith), is 1 (omega arith), is 2 (omega arith))
      (ap (set values (slot_at key position)) (others key v values position below))

  pub one_key : OneKey segment mask span slots hash position three
  one_key =
      record {
        long = ap length are;
        inside0 = inside 0 (omega arith);
        inside1 = inside 1 (omega arith);
        inside2 = inside 2 (omega arith);
        inside_own = inside position below;
        filled = λ own fingerprint values e. rw (← e) (filled_with own values);
      }
