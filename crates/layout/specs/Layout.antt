-- Document 01, "Layout in whole numbers", and P of its "Answers": the layout of an attempt on n keys.
-- Assumes nothing.
use Rattle.std.specs.Prelude.{ℕ, zero, suc, ◌+◌, ◌-◌, ◌*◌, ◌/◌, ◌%◌, ◌^◌, max, Bool, true, false, cond, ◌&&◌, leb, ltb, eqb}
use Rattle.capacity.specs.Capacity.{capacity_of, first}
use Rattle.layout.specs.declared.Layout.{Layout}

-- the most slots (A) that a layout has: those at `max_keys`
abbrev pub max_slots : ℕ
max_slots = 10752

-- ours: no list asks for more bucket starts (P), as proofs/Lengths.antt shows
abbrev pub max_starts : ℕ
max_starts = 64

-- ---- the segment length L

-- 333^(4e-9) ≤ n^4 × 100^(4e-9)
unfoldable pub reaches : ℕ → ℕ → Bool
reaches n e = leb (333 ^ (4 * e - 9)) (n ^ 4 * 100 ^ (4 * e - 9))

-- the greatest of the k numbers 3 to k + 2 that passes the test, and 2 where none does
abbrev pub greatest : (passes : ℕ → Bool) (k : ℕ) → ℕ
greatest passes zero = 2
greatest passes (suc k) = elim (passes (3 + k)) [ true ↦ 3 + k | false ↦ greatest passes k ]

-- the last e that is sought: 2^18 is the longest segment that a descriptor may have
abbrev pub last_sought : ℕ
last_sought = 18

-- The greatest e, at least 3, that reaches, and 2 where none does, as at size 0. (None after the last one sought reaches, for any size up to
-- the limit: Exponent.antt.)
unfoldable pub exponent_of : ℕ → ℕ
exponent_of n = greatest (reaches n) (last_sought - 2)

abbrev pub segment_length_of : ℕ → ℕ
segment_length_of n = 2 ^ exponent_of n

-- ---- the plain layout, from the capacity c and L

-- S = ceil(c / L)
abbrev pub segments_of : ℕ → ℕ → ℕ
segments_of c l = (c + (l - 1)) / l

-- the segment count: 1 if S is below 3, else S - 2
abbrev pub count_of : ℕ → ℕ → ℕ
count_of c l = cond (ltb (segments_of c l) 3) 1 (segments_of c l - 2)

-- the layout of a segment length and a count: A = (count + 2) × L
abbrev pub layout_with : ℕ → ℕ → Layout
layout_with l k = record { segment_length = l; segment_count = k; segment_count_length = k * l; array_length = (k + 2) * l }

unfoldable pub plain_of : ℕ → Layout
plain_of n = layout_with (segment_length_of n) (count_of (capacity_of n) (segment_length_of n))

-- A, the number of slots for n keys. (It is the same in every attempt: proofs/Fits.antt.)
abbrev pub slot_count_of : ℕ → ℕ
slot_count_of n = (plain_of n).array_length

-- ---- the layout of an attempt

-- L / 2, and count 2 × count + 2
abbrev pub halved_of : Layout → Layout
halved_of p = layout_with (p.segment_length / 2) (2 * p.segment_count + 2)

-- 4 < n, and attempt 2, 6, 10 and so on
unfoldable pub halves : ℕ → ℕ → Bool
halves n attempt = ltb 4 n && eqb (attempt % 4) 2

-- all other attempts use the plain layout
unfoldable pub layout_of : ℕ → ℕ → Layout
layout_of n attempt = cond (halves n attempt) (halved_of (plain_of n)) (plain_of n)

-- ---- the bucket starts P

-- the smallest power of two, at least 2, that is not below k (for k up to 2^31)
unfoldable pub power_above : ℕ → ℕ
power_above k = 2 ^ first (λ j. leb k (2 ^ j)) 31 1

-- P, from the larger segment count of the layouts for n
unfoldable pub bucket_starts_of : ℕ → ℕ
bucket_starts_of n = power_above (max (layout_of n 1).segment_count (layout_of n 2).segment_count)
