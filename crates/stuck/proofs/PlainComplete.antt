-- The plain search is a complete run: it removes keys that touch a slot alone, and stops where there is none. Assumes nothing.
use Rattle.std.specs.Prelude.{◌≡◌, refl, true, false, cond, ◌&&◌, List, get_or, T}
use Rattle.std.proofs.Common.{sym, ◌∙◌, subst, le_of_eq, arith, length-set, eqb→eq}
use Rattle.std.proofs.Math.Bool.{Bool}
use Rattle.std.proofs.Math.Option.{Option, none, some}
use Prim.Native.Nat.{ℕ, zero, suc, ◌+◌, ◌*◌, ◌/◌, ◌%◌, ◌≤◌, ◌<◌}
use Rattle.std.proofs.Math.Decide.{ℕ_discrete}
use Rattle.std.proofs.Math.ListN.{length}
use Rattle.std.proofs.Math.Facts.{yes_eqb}
use Rattle.stuck.specs.Stuck.{Slots, KeySet, slot_at, key, size, every_key, without, Alone, Removable, done, remove, Complete}
use Rattle.stuck.specs.Sets.{has-lt, size_nobody, size-without, size-every, length-every}
use Rattle.stuck.specs.Touching.{touches-own, touched_at}
use Rattle.stuck.specs.TouchCount.{alone_of_count, count_of_alone}
use Rattle.stuck.specs.Plain.{can_go, or_else, first_below, first_to_go, Peeled, after, plainly, plain}

-- ---- the first number that passes

-- the answer passes, or none does
abbrev Answers : ℕ → (ℕ → Bool) → Option ℕ → Type 0
Answers n test none = (k : ℕ) → k < n → ¬ T (test k)
Answers n test (some k) = T (test k)

first_below_lem : (n : ℕ) (test : ℕ → Bool) → Answers n test (first_below n test)
unfolding first_below or_else
first_below_lem zero test = λ k lt. absurd (omega arith)
first_below_lem (suc n) test = by (first_below n test) (first_below_lem n test) (test n) refl
  where
    by : (below : Option ℕ) → Answers n test below → (b : Bool) → test n ≡ b → Answers (suc n) test (or_else below (cond b (some n) none))
    by (some k) found b e = found
    by none found true e = rw e tt
    by none found false e = λ k lt. here k lt (ℕ_discrete k n)
      where
        here : (k : ℕ) → k < suc n → Dec (k ≡ n) → ¬ T (test k)
        here k lt (yes q) t = subst T e (subst (λ (x : ℕ). T (test x)) q t)
        here k lt (no ne) t = found k (omega arith) t

-- ---- the test is: removable

and_parts : (a b : Bool) → T (a && b) → T a × T b
and_parts true b h = (tt, h)
and_parts false b h = absurd h

and_both : (a b : Bool) → T a → T b → T (a && b)
and_both true b ha hb = hb
and_both false b ha hb = ha

module _ (keys : List Slots) (m : KeySet) (fits : length m ≡ length keys) where
  can_go_lem : (i p : ℕ) → p < 3 → T (can_go keys m i p) → Removable keys m i p
  unfolding can_go
  can_go_lem i p lt h =
      let w = and_parts (get_or m i false) _ h in
      record { small = lt; alone = alone_of_count keys m fits i (slot_at (key keys i) p) w.0 (touches-own (key keys i) p) (eqb→eq _ _ w.1) }

  goes : (i s : ℕ) → Alone keys m i s → (p : ℕ) → slot_at (key keys i) p ≡ s → T (can_go keys m i p)
  unfolding can_go
  goes i s al p e =
      and_both (get_or m i false) _ al.has
      (yes_eqb (count_of_alone keys m fits i (slot_at (key keys i) p) (subst (λ (x : ℕ). Alone keys m i x) (sym e) al)))

  -- a key to remove, or none that can go
  abbrev Found : Option ℕ → Type 0
  Found none = (i s : ℕ) → ¬ Alone keys m i s
  Found (some k) = Removable keys m (k / 3) (k % 3)

  first_to_go_lem : Found (first_to_go keys m)
  unfolding first_to_go
  first_to_go_lem = by (first_below (3 * length m) test) (first_below_lem (3 * length m) test)
    where
      test : ℕ → Bool
      test k = can_go keys m (k / 3) (k % 3)

      by : (answer : Option ℕ) → Answers (3 * length m) test answer → Found answer
      by (some k) found = can_go_lem (k / 3) (k % 3) (omega arith) found
      by none found = λ i s al.
          let at = touched_at (key keys i) s al.touch in
          let i-is : (at.0 + 3 * i) / 3 ≡ i = omega (arith, at.1) in
          let p-is : (at.0 + 3 * i) % 3 ≡ at.0 = omega (arith, at.1) in
          found (at.0 + 3 * i) (omega (arith, at.1, has-lt m i al.has))
          (rw (i-is, p-is) (goes i s al at.0 at.2))

-- ---- the plain run is complete

pub plainly_complete : (keys : List Slots) (n : ℕ) (m : KeySet) → length m ≡ length keys → size m ≤ n
    → Complete keys m (plainly keys n m).picks (plainly keys n m).left
unfolding plainly after
plainly_complete keys zero m fits le = record { run = done; stops = λ i s al. (size_nobody m).1 (omega arith) i al.has }
plainly_complete keys (suc n) m fits le = by (first_to_go keys m) (first_to_go_lem keys m fits) (plainly_complete keys n)
  where
    again : KeySet → Peeled
    again k = plainly keys n k

    by : (answer : Option ℕ) → Found keys m fits answer
        → ((k : KeySet) → length k ≡ length keys → size k ≤ n → Complete keys k (again k).picks (again k).left)
        → Complete keys m (after answer m again).picks (after answer m again).left
    by none found rest = record { run = done; stops = found }
    by (some k) found rest =
        let c = rest (without m (k / 3)) (length-set m (k / 3) false ∙ fits) (omega (arith, size-without m (k / 3) found.alone.has)) in
        record { run = remove (k / 3) (k % 3) found c.run; stops = c.stops }

pub plain_complete : (keys : List Slots) → Complete keys (every_key keys) (plain keys).picks (plain keys).left
unfolding plain
plain_complete keys = plainly_complete keys (length keys) (every_key keys) (length-every keys) (le_of_eq (size-every keys))
