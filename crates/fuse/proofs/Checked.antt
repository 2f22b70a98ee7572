-- What checks 1 to 4 say: what holds where all pass, and that a refusal of theirs has a number up to 4. Assumes nothing.
use Rattle.std.specs.Prelude.{◌≡◌, refl, Bool, true, false, ◌||◌, ℕ, ◌+◌, ◌≤◌, eqb}
use Rattle.std.proofs.Common.{arith, lit≤}
use borrow.Author.Tests.{eqb-false, ltb-false}
use Rattle.std.proofs.Math.Dec.{ltb}
use Rattle.std.proofs.lemmas.Bool.{or_parts}
use Rattle.answers.specs.Answers.{Answer, refuses, gives}
use Rattle.answers.specs.Checks.{Done, done, refuse_if, ◌then◌}
use Rattle.answers.specs.Never.{never}
use Rattle.capacity.specs.Capacity.{max_keys}
use Rattle.layout.specs.Layout.{slot_count_of, bucket_starts_of}
use Rattle.fuse.specs.Attempts.{max_attempts}
use Rattle.fuse.specs.Memory.{short?, checks_of}

pub record Passed (n limit fingerprints lone counts sums positions order starts : ℕ) : Type 0 where
  pub few_keys : n ≤ max_keys
  pub some : 1 ≤ limit
  pub most : limit ≤ max_attempts
  pub in_fingerprints : slot_count_of n ≤ fingerprints
  pub in_lone : slot_count_of n ≤ lone
  pub in_counts : slot_count_of n ≤ counts
  pub in_sums : slot_count_of n ≤ sums
  pub in_positions : n ≤ positions
  pub in_order : n + 1 ≤ order
  pub in_starts : bucket_starts_of n ≤ starts

neither : (a b : Bool) → a || b ≡ false → (a ≡ false) × (b ≡ false)
neither = or_parts

refused_up_to : (bound : ℕ) (fault : Bool) (number : ℕ) (next : Answer Done) → number ≤ bound → ((k : ℕ) → next ≡ refuses k → k ≤ bound)
    → (k : ℕ) → refuse_if fault number then next ≡ refuses k → k ≤ bound
refused_up_to bound true number next h rest k e = let z : number ≡ k = cc in omega arith
refused_up_to bound false number next h rest k e = rest k e

last_number : (fault : Bool) (number k : ℕ) → refuse_if fault number ≡ refuses k → k ≤ number
last_number true number k e = let z : number ≡ k = cc in omega arith
last_number false number k e = never cc

module _ (n limit fingerprints lone counts sums positions order starts : ℕ) where
  abbrev checks : Answer Done
  checks = checks_of n limit fingerprints lone counts sums positions order starts

  -- what holds of a refusal by 1 to 4, and of a pass where no test finds a fault, holds of the checks, in whichever order they stand
  module _ (P : Answer Done → Type 0) (refused : (k : ℕ) → k ≤ 4 → P (refuses k))
      (allowed : ltb max_keys n ≡ false → eqb limit 0 || ltb max_attempts limit ≡ false → ltb fingerprints (slot_count_of n) ≡ false
      → short? n lone counts sums positions order starts ≡ false → P (gives done)) where
    by_tests : (a b c d : Bool) → ltb max_keys n ≡ a → eqb limit 0 || ltb max_attempts limit ≡ b → ltb fingerprints (slot_count_of n) ≡ c
        → short? n lone counts sums positions order starts ≡ d → P checks
    unfolding checks_of
    by_tests true b c d one two three four = simp one (refused _ (lit≤ tt))
    by_tests false true true d one two three four = simp (one, two, three) (refused _ (lit≤ tt))
    by_tests false true false d one two three four = simp (one, two, three) (refused _ (lit≤ tt))
    by_tests false false true d one two three four = simp (one, two, three) (refused _ (lit≤ tt))
    by_tests false false false true one two three four = simp (one, two, three, four) (refused _ (lit≤ tt))
    by_tests false false false false one two three four = simp (one, two, three, four) (allowed one two three four)

    all_tests : P checks
    all_tests =
        by_tests (ltb max_keys n) (eqb limit 0 || ltb max_attempts limit) (ltb fingerprints (slot_count_of n)) (short? n lone counts sums positions order starts)
        refl refl refl refl

  pub up_to_four : (k : ℕ) → checks ≡ refuses k → k ≤ 4
  up_to_four k =
      all_tests (λ answer. answer ≡ refuses k → k ≤ 4)
      (λ number small e. let z : number ≡ k = cc in omega arith)
      (λ one two three four e. never (cc))

  pub passed : checks ≡ gives done → Passed n limit fingerprints lone counts sums positions order starts
  passed =
      all_tests (λ answer. answer ≡ gives done → Passed n limit fingerprints lone counts sums positions order starts)
      (λ number small e. never (cc))
      (λ one two three four e.
      let in_range = or_parts (eqb limit 0) (ltb max_attempts limit) two in
      let upto-order = or_parts _ (ltb starts (bucket_starts_of n)) four in
      let upto-positions = or_parts _ (ltb order (n + 1)) upto-order.0 in
      let upto-sums = or_parts _ (ltb positions n) upto-positions.0 in
      let upto-counts = or_parts _ (ltb sums (slot_count_of n)) upto-sums.0 in
      let first_two = or_parts (ltb lone (slot_count_of n)) (ltb counts (slot_count_of n)) upto-counts.0 in
      record {
        few_keys = ltb-false max_keys n one;
        some = omega (arith, eqb-false limit 0 in_range.0);
        most = ltb-false max_attempts limit in_range.1;
        in_fingerprints = ltb-false fingerprints (slot_count_of n) three;
        in_lone = ltb-false lone (slot_count_of n) first_two.0;
        in_counts = ltb-false counts (slot_count_of n) first_two.1;
        in_sums = ltb-false sums (slot_count_of n) upto-counts.1;
        in_positions = ltb-false positions n upto-sums.1;
        in_order = ltb-false order (n + 1) upto-positions.1;
        in_starts = ltb-false starts (bucket_starts_of n) upto-order.1;
      })
