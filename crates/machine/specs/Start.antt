-- The machine's start: the sums are those of all the keys, and the scan stacks each slot that is touched once, and no other. Assumes nothing.
use Rattle.std.specs.Prelude.{◌≡◌, refl, ◌⊎◌, List, [], ◌∷◌, map, length, T, eqb}
use Rattle.std.proofs.Common.{sym, ap, ◌∙◌, subst, inl, inr, le_of_suc-le-suc, not-suc-le-zero, add-zero, add-suc, suc-add, zero-add, arith, eqb→eq}
use mathlib.Core.List.Memᴰ
use Prim.Native.Nat.{ℕ, zero, suc, ◌+◌, ◌<◌, suc-le-suc}
use Rattle.std.proofs.Math.ListN.{get_or}
use Rattle.std.proofs.lemmas.List.{length-map}
use Rattle.std.specs.Int.Bits.{bit_xor}
use Rattle.std.proofs.Math.Facts.{yes_eqb}
use Rattle.stuck.specs.Total.{Op, total}
use Rattle.stuck.specs.Stuck.{Slots, every_key}
use Rattle.stuck.specs.Sets.{length-every}
use Rattle.machine.specs.Machine.{total_all, table, totals, share, Sums, sums_of, push_if, scan}
use Rattle.machine.specs.Known.{known_at, Long}
use Rattle.machine.specs.KnownOf.{total_at, touching, known_of, known_count}
use Rattle.machine.specs.Stack.{Stacked, Once, push_keeps, push_there, push_from, push_once}
use Rattle.machine.specs.Standing.{Standing}

-- ---- the sums

pub table-length : (at n : ℕ) (f : ℕ → ℕ) → length (table at n f) ≡ n
unfolding table
table-length at zero f = refl
table-length at (suc n) f = ap suc (table-length (suc at) n f)

table_from : (at n : ℕ) (f : ℕ → ℕ) (s : ℕ) → s < n → get_or (table at n f) s 0 ≡ f (at + s)
unfolding table
table_from at zero f s h = absurd (not-suc-le-zero h)
table_from at (suc n) f zero h = ap f (sym (add-zero at))
table_from at (suc n) f (suc s) h = table_from (suc at) n f s (le_of_suc-le-suc h) ∙ ap f (suc-add at s ∙ sym (add-suc at s))

pub table_at : (n : ℕ) (f : ℕ → ℕ) (s : ℕ) → s < n → get_or (table 0 n f) s 0 ≡ f s
table_at n f s lt = table_from 0 n f s lt ∙ ap f (zero-add s)

total-every : (slots : ℕ → Slots) (op : Op) (f : ℕ → ℕ) (hs : List ℕ) → total_all op f hs ≡ total op f (every_key (map slots hs)) hs
unfolding total total_all every_key
total-every slots op f [] = refl
total-every slots op f (h ∷ hs) = ap (λ (x : ℕ). op (f h) x) (total-every slots op f hs)

module _ (slots : ℕ → Slots) (hs : List ℕ) (n : ℕ) where
  pub sums_long : Long n (sums_of slots n hs)
  unfolding sums_of
  sums_long = record { in_counts = table-length 0 n _; in_hashes = table-length 0 n _; in_positions = table-length 0 n _ }

  pub sums_known : (s : ℕ) → s < n → known_at (sums_of slots n hs) s ≡ known_of slots hs (every_key (map slots hs)) s
  unfolding sums_of known_of touching
  sums_known s lt = λ i. record { count = all ◌+◌ (λ h q. 1) i; hash = all bit_xor (λ h q. h) i; position = all bit_xor (λ h q. q) i }
    where
      all : (op : Op) (g : ℕ → ℕ → ℕ) → get_or (totals slots n op g hs) s 0 ≡ total_at slots hs op g (every_key (map slots hs)) s
      all op g = table_at n (λ s. total_all op (λ h. share (slots h) s (g h)) hs) s lt ∙ total-every slots op (λ h. share (slots h) s (g h)) hs

-- ---- the scan

scan_keeps : (at : ℕ) (cs stack : List ℕ) (x : ℕ) → Stacked x stack → Stacked x (scan at cs stack)
unfolding scan
scan_keeps at [] stack x z = z
scan_keeps at (c ∷ cs) stack x z = scan_keeps (suc at) cs (push_if (eqb c 1) at stack) x (push_keeps at stack (eqb c 1) x z)

scan_finds : (at : ℕ) (cs stack : List ℕ) (s : ℕ) → get_or cs s 0 ≡ 1 → Stacked (at + s) (scan at cs stack)
unfolding scan
scan_finds at [] stack s one = absurd (omega arith)
scan_finds at (c ∷ cs) stack zero one = rw (add-zero at) (scan_keeps (suc at) cs (push_if (eqb c 1) at stack) at (push_there at stack (eqb c 1) (yes_eqb one)))
scan_finds at (c ∷ cs) stack (suc s) one = rw (add-suc at s, ← (suc-add at s)) (scan_finds (suc at) cs (push_if (eqb c 1) at stack) s one)

-- slot x is touched once, where the counts cs begin at slot `at`
abbrev OnceFrom : ℕ → List ℕ → ℕ → Type 0
OnceFrom at cs x = (s : ℕ) × (x ≡ at + s) × (get_or cs s 0 ≡ 1)

-- such slots only are stacked
scan_from : (at : ℕ) (cs stack : List ℕ) (x : ℕ) → Stacked x (scan at cs stack) → Stacked x stack ⊎ OnceFrom at cs x
unfolding scan
scan_from at [] stack x z = inl z
scan_from at (c ∷ cs) stack x z = by (scan_from (suc at) cs (push_if (eqb c 1) at stack) x z)
  where
    by : Stacked x (push_if (eqb c 1) at stack) ⊎ OnceFrom (suc at) cs x → Stacked x stack ⊎ OnceFrom at (c ∷ cs) x
    by (inl pushed) = elim (push_from at stack (eqb c 1) x pushed) [ inl new ↦ inr (0, omega (arith, new.0), eqb→eq c 1 new.1) | inr old ↦ inl old ]
    by (inr later) = inr (suc later.0, omega (arith, later.1), later.2)

scan_once : (at : ℕ) (cs stack : List ℕ) → ((x : ℕ) → Stacked x stack → x < at) → Once stack → Once (scan at cs stack)
unfolding scan
scan_once at [] stack below once = once
scan_once at (c ∷ cs) stack below once =
    scan_once (suc at) cs (push_if (eqb c 1) at stack) (λ x z. by x (push_from at stack (eqb c 1) x z))
    (push_once at stack (eqb c 1) (λ t z. omega (arith, below at z)) once)
  where
    by : (x : ℕ) → ((x ≡ at) × T (eqb c 1)) ⊎ Stacked x stack → x < suc at
    by x (inl new) = omega (arith, new.0)
    by x (inr old) = omega (arith, below x old)

inside : (l : List ℕ) (s : ℕ) → get_or l s 0 ≡ 1 → s < length l
inside [] s e = omega arith
inside (x ∷ l) zero e = omega arith
inside (x ∷ l) (suc s) e = suc-le-suc (inside l s e)

scan_ones : (cs : List ℕ) (s : ℕ) → Stacked s (scan 0 cs []) → get_or cs s 0 ≡ 1
scan_ones cs s z = elim (scan_from 0 cs [] s z) [
  | inl none ↦ absurd (Memᴰ.not-nil none)
  | inr found ↦ subst (λ (x : ℕ). get_or cs x 0 ≡ 1) (sym (found.1 ∙ zero-add found.0)) found.2
]

-- ---- the start

pub standing_start : (slots : ℕ → Slots) (hs : List ℕ) (n : ℕ)
    → let a = sums_of slots n hs in Standing slots hs n (every_key (map slots hs)) a (scan 0 a.counts [])
standing_start slots hs n =
    record {
      marks = length-every (map slots hs) ∙ length-map hs slots;
      long = sums_long slots hs n;
      knows = λ s lt. inl (sums_known slots hs n s lt);
      stacked = λ s lt one. subst (λ (x : ℕ). Stacked x (scan 0 a.counts [])) (zero-add s) (scan_finds 0 a.counts [] s (count s lt ∙ one));
      inside = below;
      once = scan_once 0 a.counts [] (λ x z. absurd (Memᴰ.not-nil z)) tt;
      low = λ s z. omega (arith, count s (below s z), scan_ones a.counts s z);
    }
  where
    a : Sums
    a = sums_of slots n hs

    below : (s : ℕ) → Stacked s (scan 0 a.counts []) → s < n
    below s z = omega (arith, inside a.counts s (scan_ones a.counts s z), (sums_long slots hs n).in_counts)

    count : (s : ℕ) → s < n → get_or a.counts s 0 ≡ touching slots hs (every_key (map slots hs)) s
    count s lt = known_count slots hs (every_key (map slots hs)) s (known_at a s) (sums_known slots hs n s lt)
