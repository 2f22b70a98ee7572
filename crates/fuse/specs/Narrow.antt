-- Document 02, wish 2, "the same filter with 16-bit fingerprints", for any two widths w ≤ v: what the list of w bits has to do with the list of
-- v bits of the same keys and limit. (It follows from the definitions: proofs/Widths.antt, QueryWidths.antt.) Definitions only. Assumes nothing.
use Rattle.std.specs.Prelude.{◌≡◌, ◌↔◌, Bool, true, ℕ, take}
use Rattle.words.specs.Low.{low}
use Rattle.answers.specs.Answers.{Answer, refuses, gives, Outcome, outcome}
use Rattle.fuse.specs.Memory.{Memory, memory}
use Rattle.fuse.specs.Build.{Success}
use Rattle.fuse.specs.Query.{contains_of}

-- ---- on memory that is alike

-- the fingerprints modulo 2 ^ w, the scratch as it is
abbrev pub narrow : (w : ℕ) → Memory → Memory
narrow w m = memory (low w m.fingerprints) m.lone m.counts m.sums m.positions m.order m.starts

-- the same answer, and the memory left narrowed
abbrev pub narrowed : (w : ℕ) → Outcome Success Memory → Outcome Success Memory
narrowed w o = outcome o.answer (narrow w o.leaves)

-- ---- on any memory

-- the outcome `slim` for w bits beside the outcome `wide` for v bits
pub record NarrowerList (w v : ℕ) (slim wide : Outcome Success Memory) : Type 0 where
  -- the same refusal, or the same descriptor, A and attempt number
  pub same_answer : slim.answer ≡ wide.answer
  -- after a success: the wider fingerprints modulo 2 ^ w are the narrower ones
  pub fingerprints_modulo : (s : Success) → wide.answer ≡ gives s
      → low w (take s.slots wide.leaves.fingerprints) ≡ take s.slots slim.leaves.fingerprints
  -- and every yes of the wider list is a yes of the narrower, so that the wider has no needless flush of its own
  pub yes_of_both : (s : Success) → wide.answer ≡ gives s → (key : ℕ)
      → contains_of v s.descriptor (take s.slots wide.leaves.fingerprints) key ≡ gives true
      → contains_of w s.descriptor (take s.slots slim.leaves.fingerprints) key ≡ gives true

-- ---- the query

-- what the narrower list answers beside what the wider answers
pub record NarrowerAnswer (slim wide : Answer Bool) : Type 0 where
  pub yes_kept : wide ≡ gives true → slim ≡ gives true
  pub same_refusals : (number : ℕ) → (slim ≡ refuses number) ↔ (wide ≡ refuses number)
