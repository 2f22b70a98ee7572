-- Document 01, "Answers": the memory that a build is lent, what it needs of it for n keys, and checks 1 to 4. Lengths are in elements, so
-- that fingerprints of any width are counted alike. Assumes nothing.
use Rattle.std.specs.Prelude.{Bool, ◌||◌, List, ◌++◌, ℕ, ◌+◌, length, drop, replicate, eqb, ltb}
use Rattle.answers.specs.Answers.{Answer}
use Rattle.answers.specs.Checks.{Done, refuse_if, ◌then◌}
use Rattle.scratch.specs.declared.Scratch.{Scratch}
use Rattle.scratch.specs.Lent.{short_of}
use Rattle.capacity.specs.Capacity.{max_keys}
use Rattle.layout.specs.Layout.{slot_count_of, bucket_starts_of}
use Rattle.fuse.specs.Attempts.{max_attempts}

-- fingerprints, and the scratch: lone list, touch counts, hash sums, positions, order, bucket starts
pub record Memory : Type 0 where
  pub fingerprints : List ℕ
  pub lone : List ℕ
  pub counts : List ℕ
  pub sums : List ℕ
  pub positions : List ℕ
  pub order : List ℕ
  pub starts : List ℕ

abbrev pub memory : (fingerprints lone counts sums positions order starts : List ℕ) → Memory
memory f l c s p o b = record { fingerprints = f; lone = l; counts = c; sums = s; positions = p; order = o; starts = b }

-- the fingerprints and the scratch as they are lent
abbrev pub lent : (fingerprints : List ℕ) → Scratch → Memory
lent fingerprints s = memory fingerprints s.lone.now s.counts.now s.sums.now s.positions.now s.order.now s.starts.now

-- "lone list A, touch counts A, hash sums A, positions n, order n + 1, bucket starts P": one of them is shorter
abbrev pub short? : (n lone counts sums positions order starts : ℕ) → Bool
short? n = short_of n (slot_count_of n) (bucket_starts_of n)

-- checks 1 to 4, of the number of keys, the attempt limit or number, and the lengths lent
unfoldable pub checks_of : (n limit fingerprints lone counts sums positions order starts : ℕ) → Answer Done
checks_of n limit fingerprints lone counts sums positions order starts =
    refuse_if (ltb max_keys n) 1
    then refuse_if (eqb limit 0 || ltb max_attempts limit) 2
    then refuse_if (ltb fingerprints (slot_count_of n)) 3
    then refuse_if (short? n lone counts sums positions order starts) 4

-- the same of the memory lent
abbrev pub checked : (n limit : ℕ) → Memory → Answer Done
checked n limit m =
    checks_of n limit (length m.fingerprints) (length m.lone) (length m.counts) (length m.sums) (length m.positions) (length m.order)
    (length m.starts)

-- the first n elements become these, the rest stays as it was
abbrev pub begins : (n : ℕ) (these all : List ℕ) → List ℕ
begins n these all = these ++ drop n all

-- the first n elements zeroed
abbrev pub zeroed : (n : ℕ) (all : List ℕ) → List ℕ
zeroed n all = begins n (replicate n 0) all

-- "scratch zeroed means the needed part of each buffer; what lies beyond is never changed"
abbrev pub scratch_zeroed : (n : ℕ) → Memory → (fingerprints : List ℕ) → Memory
scratch_zeroed n m fingerprints =
    memory fingerprints (zeroed (slot_count_of n) m.lone) (zeroed (slot_count_of n) m.counts) (zeroed (slot_count_of n) m.sums)
    (zeroed n m.positions) (zeroed (n + 1) m.order) (zeroed (bucket_starts_of n) m.starts)
