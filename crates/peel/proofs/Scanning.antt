-- The scan, slot by slot: what is to come, stacked onto what is stacked, is all. Assumes nothing.
use Rattle.std.proofs.Common.{◌≡◌, ap, ◌∙◌, subst, Bool, true, false, List, [], ◌∷◌, ℕ, suc, ◌+◌, ◌/◌, ◌≤◌, ◌<◌, length, get_or, drop, arith}
use native.Mathlib.Numerals.{add-one}
use lib.Seq.{drop-cons}
use lib.Dec.{eqb}
use Rattle.std.proofs.lemmas.List.{length-map, drop_all}
use Rattle.stuck.specs.Total.{bit}
use Rattle.machine.specs.Machine.{scan, push_if}
use Rattle.peel.specs.declared.stack.Stack.{Stack}
use Rattle.peel.specs.Buffers.{counts_in, stack_of}
use Rattle.peel.specs.CountsExact.{count_at}
use Rattle.peel.specs.Held.{stack_at, SameStack}
use Rattle.peel.proofs.Same.{stack_stays, stack_then}

pub record Scanning (counts : List ℕ) (start stack : Stack) (i : ℕ) : Type 0 where
  pub same : SameStack start stack
  pub so_far : scan i (drop i (counts_in counts)) (stack_at stack) ≡ scan 0 (counts_in counts) []
  pub no_more : stack.top ≤ i
  pub within : i ≤ length counts

pub scan_start : (counts : List ℕ) (start : Stack) → start.top ≡ 0 → Scanning counts start start 0
unfolding stack_of
scan_start counts start none = record { same = stack_stays; so_far = rw none; no_more = omega arith; within = omega arith }

bit_at_most : (b : Bool) → bit b ≤ 1
bit_at_most true = omega arith
bit_at_most false = omega arith

module _ {counts : List ℕ} {start stack : Stack} {i : ℕ} (k : Scanning counts start stack i) where
  abbrev Rest : List ℕ → Type 0
  Rest to_come = scan i to_come (stack_at stack) ≡ scan 0 (counts_in counts) []

  pub scan_step : {new : Stack} → let wanted = eqb (get_or counts i 0 / 4) 1 in i < length counts → SameStack stack new
      → stack_at new ≡ push_if wanted i (stack_at stack) → new.top ≡ bit wanted + stack.top → Scanning counts start new (i + 1)
  unfolding scan
  scan_step lt same e top_is =
      record {
        same = stack_then k.same same;
        so_far = rw (e, add-one i)
            (subst Rest
            (drop-cons (counts_in counts) i 0 (omega (arith, length-map counts (λ packed. packed / 4)))
            ∙ ap (λ (x : ℕ). x ∷ drop (suc i) (counts_in counts)) (count_at counts i))
            k.so_far);
        no_more = omega (arith, k.no_more, bit_at_most (eqb (get_or counts i 0 / 4) 1));
        within = omega arith;
      }

  pub scan_end : length counts ≤ i → stack_at stack ≡ scan 0 (counts_in counts) []
  unfolding scan
  scan_end le = subst Rest (drop_all i (counts_in counts) (omega (arith, length-map counts (λ packed. packed / 4)))) k.so_far
