-- What document 01 says of the memory left follows from the outcome: 1 to 4 leave it as it was; else the scratch is zeroed, and the fingerprints are
-- kept, zeroed or written up to A. Any width. Assumes nothing.
use Rattle.std.specs.Prelude.{◌≡◌, refl, Bool, true, false, cond, List, ℕ, zero, suc, ◌+◌, ◌≤◌, length, drop, replicate}
use Rattle.std.proofs.Common.{arith, take_at, drop_at}
use Rattle.std.proofs.lemmas.List.{length-replicate}
use Rattle.answers.specs.Answers.{Answer, refuses, gives, Outcome}
use Rattle.answers.specs.Never.{never}
use Rattle.answers.specs.Checks.{Done, done, unless_refused}
use Rattle.layout.specs.Layout.{slot_count_of, bucket_starts_of}
use Rattle.repeats.specs.Repeats.{repeats?}
use Rattle.fuse.specs.Attempts.{free, descriptor_at, fingerprints_at}
use Rattle.fuse.specs.Memory.{Memory, zeroed, checked, scratch_zeroed}
use Rattle.fuse.proofs.Checked.{up_to_four}
use Rattle.fuse.specs.Build.{Success, success, first_free, repeated_outcome, found_outcome, search_of}
use Rattle.fuse.specs.FreeAttempts.{attempt_fingerprints_length}
use Rattle.fuse.specs.Leaves.{ZeroedUpTo, KeptBeyond, EachScratch, Leaves}

zeroed_up_to : (needed : ℕ) (before : List ℕ) → ZeroedUpTo needed (zeroed needed before)
zeroed_up_to needed before = take_at (replicate needed 0) (drop needed before) needed (length-replicate needed 0)

kept_beyond : (needed : ℕ) (before : List ℕ) → KeptBeyond needed before (zeroed needed before)
kept_beyond needed before = drop_at (replicate needed 0) (drop needed before) needed (length-replicate needed 0)

-- what holds of every buffer holds of each
each : (n : ℕ) {Rule : ℕ → (Memory → List ℕ) → Type 0} → ((needed : ℕ) (buffer : Memory → List ℕ) → Rule needed buffer) → EachScratch n Rule
each n rule =
    record {
      of_lone = rule _ _;
      of_counts = rule _ _;
      of_sums = rule _ _;
      of_positions = rule _ _;
      of_order = rule _ _;
      of_starts = rule _ _;
    }

module _ (w : ℕ) (keys : List ℕ) (m : Memory) where
  abbrev n : ℕ
  n = length keys

  -- what zeroing makes of every buffer it makes of each
  scratch_is : (P : (needed : ℕ) (before after : List ℕ) → Type 0) → ((needed : ℕ) (before : List ℕ) → P needed before (zeroed needed before))
      → (f : List ℕ) → EachScratch n (λ needed buffer. P needed (buffer m) (buffer (scratch_zeroed n m f)))
  scratch_is P rule f =
      record {
        of_lone = rule (slot_count_of n) m.lone;
        of_counts = rule (slot_count_of n) m.counts;
        of_sums = rule (slot_count_of n) m.sums;
        of_positions = rule n m.positions;
        of_order = rule (n + 1) m.order;
        of_starts = rule (bucket_starts_of n) m.starts;
      }

  scratch_is_zeroed : (f : List ℕ) → EachScratch n (λ needed buffer. ZeroedUpTo needed (buffer (scratch_zeroed n m f)))
  scratch_is_zeroed = scratch_is (λ needed before after. ZeroedUpTo needed after) zeroed_up_to

  scratch_is_kept : (f : List ℕ) → EachScratch n (λ needed buffer. KeptBeyond needed (buffer m) (buffer (scratch_zeroed n m f)))
  scratch_is_kept = scratch_is KeptBeyond kept_beyond

  refused_early : (k : ℕ) → k ≤ 4 → Leaves w keys m (refuses k) m
  refused_early k small =
      record {
        all_unchanged = λ number e h. refl;
        fingerprints_unchanged = λ e. refl;
        fingerprints_zeroed = λ e. absurd (let z : k ≡ 6 = cc in omega arith);
        fingerprints_written = λ s e. never (cc);
        scratch-zeroed = λ later. absurd (let z = later k refl in omega arith);
        fingerprints_beyond = refl;
        scratch_beyond = each n (λ needed buffer. refl);
      }

  refused_repeated : let o = repeated_outcome keys m in Leaves w keys m o.answer o.leaves
  refused_repeated =
      record {
        all_unchanged = λ number e h. absurd (let z : ◌≡◌ {A = ℕ} 5 number = cc in omega arith);
        fingerprints_unchanged = λ e. refl;
        fingerprints_zeroed = λ e. absurd (let z : ◌≡◌ {A = ℕ} 5 6 = cc in omega arith);
        fingerprints_written = λ s e. never (cc);
        scratch-zeroed = λ later. scratch_is_zeroed _;
        fingerprints_beyond = refl;
        scratch_beyond = scratch_is_kept _;
      }

  found_left : (found : ℕ) → let o = found_outcome w keys found m in Leaves w keys m o.answer o.leaves
  found_left zero =
      record {
        all_unchanged = λ number e h. absurd (let z : ◌≡◌ {A = ℕ} 6 number = cc in omega arith);
        fingerprints_unchanged = λ e. absurd (let z : ◌≡◌ {A = ℕ} 6 5 = cc in omega arith);
        fingerprints_zeroed = λ e. zeroed_up_to (slot_count_of n) m.fingerprints;
        fingerprints_written = λ s e. never (cc);
        scratch-zeroed = λ later. scratch_is_zeroed _;
        fingerprints_beyond = kept_beyond (slot_count_of n) m.fingerprints;
        scratch_beyond = scratch_is_kept _;
      }
  found_left (suc k) =
      let all = attempt_fingerprints_length w keys (suc k) in
      record {
        all_unchanged = λ number e h. never (cc);
        fingerprints_unchanged = λ e. never (cc);
        fingerprints_zeroed = λ e. never (cc);
        fingerprints_written = λ s e.
            let z : success (descriptor_at n (suc k)) (slot_count_of n) (suc k) ≡ s = cc in
            rw (← z) (take_at (fingerprints_at w keys (suc k)) _ (slot_count_of n) all);
        scratch-zeroed = λ later. scratch_is_zeroed _;
        fingerprints_beyond = drop_at (fingerprints_at w keys (suc k)) (drop (slot_count_of n) m.fingerprints) (slot_count_of n) all;
        scratch_beyond = scratch_is_kept _;
      }

  searched_left : (repeated : Bool) (found : ℕ)
      → let o = cond repeated (repeated_outcome keys m) (found_outcome w keys found m) in Leaves w keys m o.answer o.leaves
  searched_left true found = refused_repeated
  searched_left false found = found_left found

  checked-left : (checks : Answer Done) → ((k : ℕ) → checks ≡ refuses k → k ≤ 4) → (o : Outcome Success Memory) → Leaves w keys m o.answer o.leaves
      → let u = unless_refused checks m o in Leaves w keys m u.answer u.leaves
  checked-left (refuses k) small o left = refused_early k (small k refl)
  checked-left (gives done) small o left = left

  pub left_as_said : (limit first count : ℕ) (o : Outcome Success Memory) → o ≡ search_of w keys limit first count m → Leaves w keys m o.answer o.leaves
  unfolding search_of
  left_as_said limit first count o e =
      rw e
      (checked-left (checked n limit m) (up_to_four n limit _ _ _ _ _ _ _) _ (searched_left (repeats? keys) (first_free (free keys) first count)))
