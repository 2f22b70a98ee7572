-- Document 01, "Answers", the column "Leaves" and the sentences below the table: what each answer of a build or of one attempt leaves of the memory
-- that was lent, in named fields. (It follows from the outcome: proofs/LeftAsSaid.antt.) Assumes nothing.
use Rattle.std.specs.Prelude.{◌≡◌, List, ℕ, ◌+◌, ◌≤◌, ◌<◌, length, take, drop, replicate}
use Rattle.answers.specs.Answers.{Answer, refuses, gives}
use Rattle.layout.specs.Layout.{slot_count_of, bucket_starts_of}
use Rattle.fuse.specs.Attempts.{fingerprints_at}
use Rattle.fuse.specs.Memory.{Memory}
use Rattle.fuse.specs.Build.{Success}

-- the first elements of a buffer are 0
abbrev pub ZeroedUpTo : (needed : ℕ) (after : List ℕ) → Type 0
ZeroedUpTo needed after = take needed after ≡ replicate needed 0

-- those beyond are what they were
abbrev pub KeptBeyond : (needed : ℕ) (before after : List ℕ) → Type 0
KeptBeyond needed before after = drop needed after ≡ drop needed before

-- a rule for each scratch buffer and as many elements as n keys need of it
pub record EachScratch (n : ℕ) (Rule : (needed : ℕ) (buffer : Memory → List ℕ) → Type 0) : Type 0 where
  pub of_lone : Rule (slot_count_of n) (λ m. m.lone)
  pub of_counts : Rule (slot_count_of n) (λ m. m.counts)
  pub of_sums : Rule (slot_count_of n) (λ m. m.sums)
  pub of_positions : Rule n (λ m. m.positions)
  pub of_order : Rule (n + 1) (λ m. m.order)
  pub of_starts : Rule (bucket_starts_of n) (λ m. m.starts)

pub record Leaves (w : ℕ) (keys : List ℕ) (before : Memory) (answer : Answer Success) (after : Memory) : Type 0 where
  -- 1 to 4: "all lent memory unchanged"
  pub all_unchanged : (number : ℕ) → answer ≡ refuses number → number ≤ 4 → after ≡ before
  -- 5: "fingerprints unchanged"
  pub fingerprints_unchanged : answer ≡ refuses 5 → after.fingerprints ≡ before.fingerprints
  -- 6: "first A fingerprints .. zeroed"
  pub fingerprints_zeroed : answer ≡ refuses 6 → ZeroedUpTo (slot_count_of (length keys)) after.fingerprints
  -- "A success writes the first A fingerprints"
  pub fingerprints_written : (s : Success) → answer ≡ gives s → take s.slots after.fingerprints ≡ fingerprints_at w keys s.attempt
  -- 5, 6 and a success: "scratch zeroed"
  pub scratch-zeroed : ((number : ℕ) → answer ≡ refuses number → 4 < number) → EachScratch (length keys) (λ needed buffer. ZeroedUpTo needed (buffer after))
  -- every answer: "what lies beyond is never changed"
  pub fingerprints_beyond : KeptBeyond (slot_count_of (length keys)) before.fingerprints after.fingerprints
  pub scratch_beyond : EachScratch (length keys) (λ needed buffer. KeptBeyond needed (buffer before) (buffer after))
