-- A count and the xor of positions in one number: one store changes both as a key comes or leaves, and one read gives both. Assumes nothing.
use Rattle.std.proofs.Common.{◌≡◌, ◌≢◌, sym, ap, ◌∙◌, Option, None, Some, List, map, ℕ, ◌+◌, ◌-◌, ◌/◌, ◌%◌, ◌≤◌, ◌<◌, get_or, set, arith}
use native.Mathlib.Nat.{mod-eq_of_lt}
use lib.ListN.{get_or-map}
use lib.Bits.{bit_xor, xor_mod}
use Rattle.std.proofs.lemmas.List.{map-set}
use Rattle.std.proofs.lemmas.Bool.{ne_eqb}
use Rattle.words.specs.Xor.{xor_above}
use Rattle.machine.specs.Machine.{change, change_at}
use Rattle.machine.specs.SumsByKey.{touch}
use Rattle.peel.specs.declared.sums.Pick.{Pick}
use Rattle.peel.specs.Buffers.{counts_in, positions_in, sums_in}
use Rattle.peel.specs.CountsExact.{count_at}
use Rattle.peel.specs.Steps.{only_at}

position_at : (counts : List ℕ) (slot : ℕ) → get_or (positions_in counts) slot 0 ≡ get_or counts slot 0 % 4
position_at counts slot = get_or-map (λ (packed : ℕ). packed % 4) counts slot 0

-- what f sees of the list changes by g
change-map : (f g : ℕ → ℕ) (l : List ℕ) (i v x : ℕ) → get_or (map f l) i 0 ≡ x → f v ≡ g x → map f (set l i v) ≡ change g i (map f l)
unfolding change
change-map f g l i v x e h = map-set f l i v ∙ ap (λ (y : ℕ). set (map f l) i y) (h ∙ ap g (sym e))

module _ (counts hashes : List ℕ) (hash position slot : ℕ) where
  -- the packed number v has the old positions, and for its count the old one changed by g
  changed_is : (g : ℕ → ℕ) (v : ℕ) → v / 4 ≡ g (get_or counts slot 0 / 4) → v % 4 ≡ get_or counts slot 0 % 4 → position < 4
      → sums_in (set counts slot (bit_xor v position)) (set hashes slot (bit_xor (get_or hashes slot 0) hash))
      ≡ change_at g hash position slot (sums_in counts hashes)
  unfolding sums_in change_at change
  changed_is g v same_count same-positions two_bits = λ i. record {
    counts = counted i;
    hashes = change (λ x. bit_xor x hash) slot hashes;
    positions = placed i;
  }
    where
      counted : counts_in (set counts slot (bit_xor v position)) ≡ change g slot (counts_in counts)
      counted =
          change-map (λ packed. packed / 4) g counts slot (bit_xor v position) (get_or counts slot 0 / 4) (count_at counts slot)
          (xor_above 2 v position two_bits ∙ same_count)

      placed : positions_in (set counts slot (bit_xor v position)) ≡ change (λ x. bit_xor x position) slot (positions_in counts)
      placed =
          change-map (λ packed. packed % 4) (λ x. bit_xor x position) counts slot (bit_xor v position) (get_or counts slot 0 % 4) (position_at counts slot)
          (xor_mod v position 2 ∙ ap (λ (y : ℕ). bit_xor (v % 4) y) (mod-eq_of_lt two_bits) ∙ ap (λ (x : ℕ). bit_xor x position) same-positions)

  -- one more key at a slot
  pub touched_is : position < 4
      → sums_in (set counts slot (bit_xor (get_or counts slot 0 + 4) position)) (set hashes slot (bit_xor (get_or hashes slot 0) hash))
      ≡ touch hash position slot (sums_in counts hashes)
  unfolding touch
  touched_is two_bits = changed_is (λ c. c + 1) (get_or counts slot 0 + 4) (omega arith) (omega arith) two_bits

  -- one key less
  pub left_is : 4 ≤ get_or counts slot 0 → position < 4
      → sums_in (set counts slot (bit_xor (get_or counts slot 0 - 4) position)) (set hashes slot (bit_xor (get_or hashes slot 0) hash))
      ≡ change_at (λ c. c - 1) hash position slot (sums_in counts hashes)
  left_is some two_bits = changed_is (λ c. c - 1) (get_or counts slot 0 - 4) (omega arith) (omega arith) two_bits

module _ (counts hashes : List ℕ) (slot : ℕ) where
  pub count_read : get_or counts slot 0 / 4 ≡ get_or (sums_in counts hashes).counts slot 0
  unfolding sums_in
  count_read = sym (count_at counts slot)

  -- the slot is touched once
  pub only_one : get_or counts slot 0 / 4 ≡ 1
      → ◌≡◌ {A = Option Pick} (Some (record { hash = get_or hashes slot 0; position = get_or counts slot 0 % 4 })) (only_at (sums_in counts hashes) slot)
  unfolding only_at sums_in
  only_one one = rw (count_at counts slot, one, position_at counts slot)

  -- it is not
  pub only_none : get_or counts slot 0 / 4 ≢ 1 → ◌≡◌ {A = Option Pick} None (only_at (sums_in counts hashes) slot)
  unfolding only_at sums_in
  only_none ne = rw (count_at counts slot, ne_eqb (get_or counts slot 0 / 4) 1 ne)
