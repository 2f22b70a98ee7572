-- What the machine takes, in its order, is a complete run: each key that it takes touches a slot alone, and when the stack is empty no slot
-- is touched once. Assumes nothing.
use Rattle.std.specs.Prelude.{◌≡◌, Bool, true, false, length, get_or, T, eqb}
use Rattle.std.proofs.Math.Path.{refl}
use Rattle.std.proofs.Common.{sym, ap, ◌∙◌, subst, subst₂, arith, eqb→eq}
use mathlib.Core.List.Memᴰ
use mathlib.Core.List.{List, [], ◌∷◌, map}
use Prim.Native.Nat.{ℕ, zero, suc, ◌+◌, ◌≤◌, ◌<◌}
use Rattle.std.proofs.lemmas.List.{length-map}
use Rattle.std.proofs.Math.Facts.{yes_eqb}
use Rattle.stuck.specs.Stuck.{Slots, KeySet, slot_at, key, Alone, NoneAlone, without, Removable, Pick, pick, done, remove}
use Rattle.stuck.specs.Sets.{has-lt}
use Rattle.stuck.specs.KeyMap.{key-map}
use Rattle.stuck.specs.Touching.{touched_at}
use Rattle.stuck.specs.TouchCount.{count_of_alone}
use Rattle.stuck.specs.Ring.{Apart, slot_below}
use Rattle.machine.specs.Machine.{Sums, State, take_key, at_slot, pop, takes}
use Rattle.machine.specs.KnownOf.{touching_is, Sole}
use Rattle.machine.specs.Work.{many}
use Rattle.machine.specs.Standing.{Standing}
use Rattle.machine.specs.CompleteRun.{IsCompleteRun}
use Rattle.machine.proofs.Work.{take-work}
use Rattle.machine.proofs.Standing.{dropped, its_key, hash_is, position_is, standing_after}

module _ (slots : ℕ → Slots) (hs : List ℕ) where
  goes_on : (m : KeySet) (s : ℕ) (k : Sole slots hs m s) (out : List Pick) → IsCompleteRun slots hs (without m k.i) out
      → IsCompleteRun slots hs m (pick (get_or hs k.i 0) k.place.position ∷ out)
  goes_on m s k out rest =
      record {
        picks = pick k.i k.place.position ∷ rest.picks;
        left = rest.left;
        complete = record { run = remove k.i k.place.position removable rest.complete.run; stops = rest.complete.stops };
        is = ap (λ (r : List Pick). pick (get_or hs k.i 0) k.place.position ∷ r) rest.is;
      }
    where
      removable : Removable (map slots hs) m k.i k.place.position
      removable =
          record {
            small = k.place.small;
            alone = subst (λ (x : ℕ). Alone (map slots hs) m k.i x)
                (sym (ap (λ (t : Slots). slot_at t k.place.position) (key-map slots hs k.i k.low) ∙ k.place.here)) k.alone;
          }

module _ (slots : ℕ → Slots) (hs : List ℕ) (n : ℕ) (apart : (i : ℕ) → i < length hs → Apart n (slots (get_or hs i 0))) where
  -- the stack is empty: no key can go
  none_alone : (m : KeySet) (a : Sums) → Standing slots hs n m a [] → NoneAlone (map slots hs) m
  none_alone m a k i s al =
      Memᴰ.not-nil (k.stacked s inside (touching_is slots hs m s ∙ count_of_alone keys m (k.marks ∙ sym (length-map hs slots)) i s al))
    where
      keys : List Slots
      keys = map slots hs

      low : i < length hs
      low = omega (arith, has-lt m i al.has, k.marks)

      its_slots : Apart n (key keys i)
      its_slots = rw (key-map slots hs i low) (apart i low)

      inside : s < n
      inside = let w = touched_at (key keys i) s al.touch in subst (λ (x : ℕ). x < n) w.2 (slot_below n (key keys i) its_slots w.0)

  ends : (m : KeySet) (a : Sums) → Standing slots hs n m a [] → IsCompleteRun slots hs m []
  ends m a k = record { picks = []; left = m; complete = record { run = done; stops = none_alone m a k }; is = refl }

  pub takes_complete : (turns : ℕ) (m : KeySet) (a : Sums) (stack : List ℕ) → Standing slots hs n m a stack → length stack + many a.counts ≤ turns
      → IsCompleteRun slots hs m (takes slots turns (record { sums = a; stack = stack }))
  unfolding takes pop at_slot
  takes_complete zero m a [] k le = ends m a k
  takes_complete zero m a (s ∷ stack) k le = absurd (omega arith)
  takes_complete (suc turns) m a [] k le = ends m a k
  takes_complete (suc turns) m a (s ∷ stack) k le = by (eqb (get_or a.counts s 0) 1) refl (takes_complete turns)
    where
      st : State
      st = record { sums = a; stack = stack }

      by : (b : Bool) → eqb (get_or a.counts s 0) 1 ≡ b
          → ((m' : KeySet) (a' : Sums) (stack' : List ℕ) → Standing slots hs n m' a' stack' → length stack' + many a'.counts ≤ turns
          → IsCompleteRun slots hs m' (takes slots turns (record { sums = a'; stack = stack' })))
          → IsCompleteRun slots hs m (at_slot slots b s st (λ x. takes slots turns x))
      by false e later = later m a stack (dropped slots hs n m a s stack k (λ one. subst T e (yes_eqb one))) (omega arith)
      by true e later =
          subst₂ (λ (x y : ℕ). IsCompleteRun slots hs m (pick x y ∷ takes slots turns (take_key (slots x) x y st))) (sym (hash_is slots hs n apart m a s stack k one))
          (sym (position_is slots hs n apart m a s stack k one)) (goes_on slots hs m s who (takes slots turns after) rest)
        where
          one : get_or a.counts s 0 ≡ 1
          one = eqb→eq _ _ (rw e tt)

          who : Sole slots hs m s
          who = its_key slots hs n apart m a s stack k one

          h : ℕ
          h = get_or hs who.i 0

          after : State
          after = take_key (slots h) h who.place.position st

          rest : IsCompleteRun slots hs (without m who.i) (takes slots turns after)
          rest =
              later (without m who.i) after.sums after.stack (standing_after slots hs n apart m a s stack k one)
              (omega (arith, take-work (slots h) h who.place.position st))
