-- A caller who lends lengths that are enough for every list up to a size (layout/specs/Lengths.antt), and gives a limit or a number in range, passes
-- checks 1 to 4 with any such list. Where these pass, three endings are left: 5, 6, or a success. Assumes nothing.
use Rattle.std.specs.Prelude.{◌≡◌, Bool, true, false, cond, List, ℕ, zero, suc, ◌+◌, ◌≤◌, length}
use Rattle.std.proofs.Common.{arith}
use borrow.Author.Tests.{le-ltb, ne_eqb}
use Rattle.answers.specs.Answers.{Answer, refuses, gives}
use Rattle.answers.specs.Checks.{done}
use Rattle.capacity.specs.Capacity.{max_keys}
use Rattle.layout.specs.Layout.{slot_count_of, bucket_starts_of}
use Rattle.layout.specs.Lengths.{Enough}
use Rattle.repeats.specs.Repeats.{repeats?}
use Rattle.fuse.specs.Attempts.{max_attempts, free}
use Rattle.fuse.specs.Memory.{Memory, checks_of, checked}
use Rattle.fuse.specs.Build.{Success, first_free, found_outcome, repeated_outcome, search_of}

module _ (n limit fingerprints lone counts sums positions order starts : ℕ) where
  pub enough_room : {hi a p : ℕ} → Enough hi a p → n ≤ hi → hi ≤ max_keys → 1 ≤ limit → limit ≤ max_attempts
      → a ≤ fingerprints → a ≤ lone → a ≤ counts → a ≤ sums → n ≤ positions → n + 1 ≤ order → p ≤ starts
      → checks_of n limit fingerprints lone counts sums positions order starts ≡ gives done
  unfolding checks_of
  enough_room enough to few some most in_fingerprints in_lone in_counts in_sums in_positions in_order in_starts =
      let slots = enough.slots n to in
      let bucket-starts = enough.starts n to in
      simp (
        le-ltb max_keys n (omega arith),
        ne_eqb limit 0 (λ none. omega arith),
        le-ltb max_attempts limit most,
        le-ltb fingerprints (slot_count_of n) (omega arith),
        le-ltb lone (slot_count_of n) (omega arith),
        le-ltb counts (slot_count_of n) (omega arith),
        le-ltb sums (slot_count_of n) (omega arith),
        le-ltb positions n in_positions,
        le-ltb order (n + 1) in_order,
        le-ltb starts (bucket_starts_of n) (omega arith),
      )

-- what is answered where checks 1 to 4 pass
pub data Ending : Answer Success → Type 0 where
  repeated : Ending (refuses 5)
  all_stuck : Ending (refuses 6)
  succeeds : (s : Success) → Ending (gives s)

module _ (w : ℕ) (keys : List ℕ) (limit first count : ℕ) (m : Memory) where
  ending : (again : Bool) (found : ℕ) → let o = cond again (repeated_outcome keys m) (found_outcome w keys found m) in Ending o.answer
  ending true found = repeated
  ending false zero = all_stuck
  ending false (suc i) = succeeds _

  pub three_endings : checked (length keys) limit m ≡ gives done → Ending (search_of w keys limit first count m).answer
  unfolding search_of
  three_endings passes = rw passes (ending (repeats? keys) (first_free (free keys) first count))
