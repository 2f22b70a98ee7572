-- The same keys in another order give the same sums, so the same picks. Assumes nothing.
use Rattle.std.specs.Prelude.{◌≡◌, refl, List, ◌∷◌}
use Rattle.std.proofs.Common.{ap, ap₂, ◌∙◌}
use Prim.Native.Nat.{ℕ, zero, suc, ◌+◌}
use Rattle.std.specs.Int.Bits.{bit_xor}
use Rattle.stuck.specs.Total.{Op, Adds, plus_adds, xor_adds}
use Rattle.stuck.specs.Stuck.{Slots}
use Rattle.reorder.specs.Reordered.{Reordered, same, swap, under, then}
use Rattle.machine.specs.Machine.{total_all, table, totals, share, sums_of, picks_from, picks_of}

pub total_reordered : (op : Op) → Adds op → (f : ℕ → ℕ) {a b : List ℕ} → Reordered a b → total_all op f a ≡ total_all op f b
unfolding total_all
total_reordered op d f same = refl
total_reordered op d f (swap x y {a = a}) = d.left_comm (f x) (f y) (total_all op f a)
total_reordered op d f (under x r) = ap (λ (n : ℕ). op (f x) n) (total_reordered op d f r)
total_reordered op d f (then r q) = total_reordered op d f r ∙ total_reordered op d f q

table_same : (at n : ℕ) (f g : ℕ → ℕ) → ((s : ℕ) → f s ≡ g s) → table at n f ≡ table at n g
unfolding table
table_same at zero f g e = refl
table_same at (suc n) f g e = ap₂ ◌∷◌ (e at) (table_same (suc at) n f g e)

module _ (slots : ℕ → Slots) (n : ℕ) {a b : List ℕ} (r : Reordered a b) where
  totals_reordered : (op : Op) → Adds op → (g : ℕ → ℕ → ℕ) → totals slots n op g a ≡ totals slots n op g b
  totals_reordered op adds g = table_same 0 n _ _ (λ s. total_reordered op adds (λ h. share (slots h) s (g h)) r)

  pub sums_reordered : sums_of slots n a ≡ sums_of slots n b
  unfolding sums_of
  sums_reordered = λ i. record {
    counts = totals_reordered ◌+◌ plus_adds (λ h q. 1) i;
    hashes = totals_reordered bit_xor xor_adds (λ h q. h) i;
    positions = totals_reordered bit_xor xor_adds (λ h q. q) i;
  }

  pub picks_reordered : picks_of slots n a ≡ picks_of slots n b
  picks_reordered = ap (picks_from slots) sums_reordered
