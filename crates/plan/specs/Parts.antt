-- The same on buffers of exactly the needed lengths (document 01: "what lies beyond is never changed"): what the search and its end ask and promise there.
-- Assumes nothing.
use Rattle.std.specs.Prelude.{◌≡◌, cond, List, ℕ, ◌+◌, ◌-◌, ◌≤◌, length, Result, Ok, Err}
use Rattle.answers.specs.declared.Refusal.{Refusal}
use Rattle.answers.specs.declared.Refusal.TheVariants.{RepeatedKeys}
use Rattle.answers.specs.Answers.{Outcome, gives}
use Rattle.answers.specs.Checks.{done}
use Rattle.scratch.specs.declared.Scratch.{Scratch}
use Rattle.capacity.specs.Capacity.{max_keys}
use Rattle.layout.specs.Layout.{slot_count_of, bucket_starts_of}
use Rattle.repeats.specs.Repeats.{repeats?}
use Rattle.fuse.specs.Attempts.{max_attempts, free}
use Rattle.fuse.specs.Memory.{Memory, memory, checks_of, begins}
use Rattle.fuse.specs.Build.{Success, first_free, repeated_outcome, found_outcome}
use Rattle.fuse.specs.Seek.{CanSeek}
use Rattle.plan.specs.declared.Plan.{Plan}
use Rattle.plan.specs.declared.Plan.TheVariants.{Stuck}
use Rattle.plan.specs.Plans.{carried_out, CanCarryOut}

-- what no fingerprint is made from is as it was
pub record SameTables (old new : Scratch) : Type 0 where
  pub lone : new.lone.now ≡ old.lone.now
  pub counts : new.counts.now ≡ old.counts.now
  pub sums : new.sums.now ≡ old.sums.now
  pub starts : new.starts.now ≡ old.starts.now

-- checks 1 to 4 pass on this scratch, with room for so many fingerprints; check 2 is of `last`
abbrev pub Passes : (keys : List ℕ) (last room : ℕ) → Memory → Type 0
Passes keys last room m =
    checks_of (length keys) last room (length m.lone) (length m.counts) (length m.sums) (length m.positions) (length m.order) (length m.starts) ≡ gives done

-- the scratch has the parts that n keys need, and the attempts are within what check 2 allows
pub record CanCut (keys : List ℕ) (first last : ℕ) (m : Memory) : Type 0 where
  pub few : length keys ≤ max_keys
  pub some : 1 ≤ first
  pub ordered : first ≤ last
  pub most : last ≤ max_attempts
  pub in_lone : slot_count_of (length keys) ≤ length m.lone
  pub in_counts : slot_count_of (length keys) ≤ length m.counts
  pub in_sums : slot_count_of (length keys) ≤ length m.sums
  pub in_positions : length keys ≤ length m.positions
  pub in_order : length keys + 1 ≤ length m.order
  pub in_starts : bucket_starts_of (length keys) ≤ length m.starts

pub record CanPlan (keys : List ℕ) (first last slots : ℕ) (lone counts sums positions order starts : List ℕ) : Type 0 where
  pub can_seek : CanSeek keys first last lone counts sums positions order
  pub slots_are : slots ≡ slot_count_of (length keys)
  pub positions_length : length positions ≡ length keys
  pub order_length : length order ≡ length keys + 1
  pub starts_length : length starts ≡ bucket_starts_of (length keys)

-- the needed parts of the scratch put back before what lies beyond: `slots` is A, `starts` is P
abbrev pub put_back : (slots n starts : ℕ) (parts m : Memory) → Memory
put_back slots n starts parts m =
    memory m.fingerprints (begins slots parts.lone m.lone) (begins slots parts.counts m.counts) (begins slots parts.sums m.sums)
    (begins n parts.positions m.positions) (begins (n + 1) parts.order m.order) (begins starts parts.starts m.starts)

-- the same where A and P are those of n keys
abbrev pub put_back_of : (n : ℕ) (parts m : Memory) → Memory
put_back_of n = put_back (slot_count_of n) n (bucket_starts_of n)

-- 5 where two keys are equal, else what was found: an attempt, or 0
abbrev pub end_outcome : (w : ℕ) → List ℕ → (found : ℕ) → Memory → Outcome Success Memory
end_outcome w keys found m = cond (repeats? keys) (repeated_outcome keys m) (found_outcome w keys found m)

-- the plan where no attempt was free
abbrev pub none_found : List ℕ → (slots : ℕ) → Result Plan Refusal
none_found keys slots = cond (repeats? keys) (Err RepeatedKeys) (Ok (Stuck slots))

-- in any memory m, put back there and carried out, the plan is the end of the search
pub record Ended (keys : List ℕ) (first last : ℕ) (plan : Result Plan Refusal) (parts : Memory) : Type 0 where
  pub can : (m : Memory) → CanCarryOut (length keys) (slot_count_of (length keys)) plan (put_back_of (length keys) parts m)
  pub ends : (w : ℕ) (m : Memory)
      → carried_out w (length keys) plan m.fingerprints (put_back_of (length keys) parts m) ≡ end_outcome w keys (first_free (free keys) first (last + 1 - first)) m
