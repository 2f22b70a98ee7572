-- The lengths that the C header offers for buffers are enough: each row of `Lengths` is proved. Assumes nothing.
use Rattle.std.specs.Prelude.{◌≡◌, refl, true, false, ℕ, suc, ◌≤◌, max, leb}
use Rattle.std.proofs.Common.{sym, ap, ◌∙◌, le_trans, arith, leb-true, leb-false, lit≤}
use Rattle.std.proofs.Math.Path.{ap₂}
use Rattle.std.proofs.Math.Nat.{le-max_left, le-max_right}
use Rattle.capacity.specs.Capacity.{max_keys, max_capacity, obeys}
use Rattle.capacity.specs.OneCapacity.{capacity_is}
use Rattle.layout.specs.declared.Layout.{Layout}
use Rattle.layout.specs.Layout.{reaches, exponent_of, slot_count_of, halves, power_above, bucket_starts_of}
use Rattle.layout.specs.Exponent.{max_exponent, exponent_between}
use Rattle.layout.proofs.Fits.{same_slots}
use Rattle.layout.specs.Rows.{Row, row, rows}
use Rattle.layout.proofs.Growth.{RisesInRange, slots_rise, starts_rise}
use Rattle.layout.specs.Lengths.{Enough, Lengths}

-- ---- what rises in a range of sizes is greatest at its end; with the sizes before the range, it is at most the greater of that and their bound

module _ (f : ℕ → ℕ) (rises : RisesInRange f) (hi : ℕ) (few : hi ≤ max_keys) where
  in_range : (lo : ℕ) → exponent_of lo ≡ exponent_of hi → (n : ℕ) → lo ≤ n → n ≤ hi → f n ≤ f hi
  in_range lo same n from to = rises n hi to few (exponent_between lo hi (exponent_of hi) from to same refl)

  with_before : {a : ℕ} (last : ℕ) → ((n : ℕ) → n ≤ last → f n ≤ a) → exponent_of (suc last) ≡ exponent_of hi → (n : ℕ) → n ≤ hi → f n ≤ max a (f hi)
  with_before {a} last before same n to =
      elim (leb n last) as (λ b. leb n last ≡ b → f n ≤ max a (f hi)) [
        | true ↦ λ e. le_trans (before n (leb-true n last e)) (le-max_left a (f hi))
        | false ↦ λ e. le_trans (in_range (suc last) same n (leb-false n last e) to) (le-max_right a (f hi))
      ] refl

-- ---- so a row follows from the layouts at its end, and from the row before it

abbrev starts_for : Layout → Layout → ℕ
starts_for plain second = power_above (max plain.segment_count second.segment_count)

module _ {hi c : ℕ} {plain second : Layout} (end : Row hi c plain second) where
  slots_are : slot_count_of hi ≡ plain.array_length
  slots_are = sym (same_slots hi 1) ∙ ap (λ (l : Layout). l.array_length) end.plain

  starts_are : bucket_starts_of hi ≡ starts_for plain second
  unfolding bucket_starts_of
  starts_are = ap₂ starts_for end.plain end.second

  first_row : hi ≤ max_keys → exponent_of 0 ≡ exponent_of hi → Enough hi plain.array_length (starts_for plain second)
  first_row few same = record {
    slots = λ n to. rw (← slots_are) (in_range slot_count_of slots_rise hi few 0 same n (omega arith) to);
    starts = λ n to. rw (← starts_are) (in_range bucket_starts_of starts_rise hi few 0 same n (omega arith) to);
  }

  next_row : {last a p : ℕ} → Enough last a p → hi ≤ max_keys → exponent_of (suc last) ≡ exponent_of hi
      → Enough hi (max a plain.array_length) (max p (starts_for plain second))
  next_row {last} before few same = record {
    slots = rw (← slots_are) (with_before slot_count_of slots_rise hi few last before.slots same);
    starts = rw (← starts_are) (with_before bucket_starts_of starts_rise hi few last before.starts same);
  }

longer : {hi a p b q : ℕ} → Enough hi a p → a ≤ b → p ≤ q → Enough hi b q
longer e more-slots more-starts = record {
  slots = λ n to. le_trans (e.slots n to) more-slots;
  starts = λ n to. le_trans (e.starts n to) more-starts;
}

-- ---- all rows, by the capacity and the exponent at each end

pub lengths : Lengths
unfolding obeys exponent_of reaches halves power_above
lengths =
    let to-2 = first_row rows.at_2 (lit≤ tt) refl in
    let to-4 = next_row (row 4 13 3 (capacity_is {n = 4} {c = 13} (lit≤ tt) tt) refl) to-2 (lit≤ tt) refl in
    let to-8 = next_row (row 8 20 3 (capacity_is {n = 8} {c = 20} (lit≤ tt) tt) refl) to-4 (lit≤ tt) refl in
    let to-27 = next_row (row 27 52 4 (capacity_is {n = 27} {c = 52} (lit≤ tt) tt) refl) to-8 (lit≤ tt) refl in
    let to-91 = next_row (row 91 149 5 (capacity_is {n = 91} {c = 149} (lit≤ tt) tt) refl) to-27 (lit≤ tt) refl in
    let to-303 = next_row (row 303 448 6 (capacity_is {n = 303} {c = 448} (lit≤ tt) tt) refl) to-91 (lit≤ tt) refl in
    let to-1009 = next_row (row 1009 1387 7 (capacity_is {n = 1009} {c = 1387} (lit≤ tt) tt) refl) to-303 (lit≤ tt) refl in
    let to-3361 = next_row (row 3361 4370 8 (capacity_is {n = 3361} {c = 4370} (lit≤ tt) tt) refl) to-1009 (lit≤ tt) refl in
    let to-4096 = next_row rows.at_4096 to-3361 (lit≤ tt) refl in
    let most = row max_keys max_capacity max_exponent (capacity_is {n = max_keys} {c = max_capacity} (lit≤ tt) tt) refl in
    record {
      up_to_2 = longer to-2 (lit≤ tt) (lit≤ tt);
      up_to_4 = longer to-4 (lit≤ tt) (lit≤ tt);
      up_to_8 = longer to-8 (lit≤ tt) (lit≤ tt);
      up_to_27 = longer to-27 (lit≤ tt) (lit≤ tt);
      up_to_91 = longer to-91 (lit≤ tt) (lit≤ tt);
      up_to_303 = longer to-303 (lit≤ tt) (lit≤ tt);
      up_to_1009 = longer to-1009 (lit≤ tt) (lit≤ tt);
      up_to_3361 = longer to-3361 (lit≤ tt) (lit≤ tt);
      up_to_4096 = longer to-4096 (lit≤ tt) (lit≤ tt);
      up_to_most = longer (next_row most to-4096 (lit≤ tt) refl) (lit≤ tt) (lit≤ tt);
    }
