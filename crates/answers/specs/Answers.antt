-- Document 01, "Answers": the number of each refusal, given exactly when the comment says; and what a call answers and leaves,
-- in the paper's numbers. Assumes nothing.
use Rattle.std.specs.Prelude.{ℕ, ◌+◌}
use Rattle.answers.specs.declared.Refusal.{Refusal}
use Rattle.answers.specs.declared.Refusal.TheVariants.{TooManyKeys, AttemptOutOfRange, ShortFingerprints, ShortScratch, RepeatedKeys, Stuck}
use Rattle.answers.specs.declared.Refusal.TheVariants.{ShortDescriptor, SegmentLength, Mask, CountLength, FingerprintLength, Clock}

abbrev pub number_of : Refusal → ℕ
number_of TooManyKeys = 1  -- more than `max_keys` keys (capacity `Capacity`)
number_of AttemptOutOfRange = 2  -- attempt limit or number outside 1..1,000
number_of ShortFingerprints = 3  -- room for fingerprints below A
number_of ShortScratch = 4  -- any scratch buffer too short
number_of RepeatedKeys = 5  -- two keys equal
number_of Stuck = 6  -- every allowed attempt has a stuck set
number_of ShortDescriptor = 7  -- fewer than 20 bytes to read, or room to write
number_of SegmentLength = 8  -- segment length L no power of two in 4..262,144
number_of Mask = 9  -- mask is not L - 1
number_of CountLength = 10  -- segment count length 0, no multiple of L, or with 2L added above 2^31 - 1
number_of FingerprintLength = 11  -- fingerprints given are not exactly that length + 2L
number_of Clock = 12  -- flush hour outside -2^39 .. 2^39 - 1 (document 02, wish 3)

-- what a C program is told of a refusal: "16 plus the number"
abbrev pub code_of : (number : ℕ) → ℕ
code_of number = 16 + number

-- what a call answers: a refusal by its number, or a value
pub data Answer (A : Type 0) : Type 0 where
  refuses : ℕ → Answer A
  gives : A → Answer A

-- what a call answers, and what it leaves in the memory lent to it
pub record Outcome (A M : Type 0) : Type 0 where
  pub answer : Answer A
  pub leaves : M

abbrev pub outcome : {A M : Type 0} → Answer A → M → Outcome A M
outcome a m = record { answer = a; leaves = m }
