-- Document 01, module 7 and answers 7 to 11: the query of a list with fingerprints of w bits, by its record and by its 20 bytes.
-- Assumes nothing.
use Rattle.std.specs.Prelude.{Bool, true, false, not, List, ℕ, ◌+◌, ◌*◌, length, eqb, ltb}
use Rattle.arith.specs.Murmur3.{hash_of}
use Rattle.arith.specs.Fingerprint.{fingerprint_of}
use Rattle.answers.specs.Answers.{code_of, Answer, refuses, gives}
use Rattle.answers.specs.Checks.{Done, refuse_if, ◌then◌}
use Rattle.descriptor.specs.declared.Descriptor.{Descriptor}
use Rattle.descriptor.specs.Descriptor.{check_of, descriptor_size, descriptor_of}
use Rattle.stuck.specs.Fill.{query_xor}
use Rattle.peel.specs.Segments.{slots_in}

-- fingerprint xor the three stored values
unfoldable pub left_over : (w : ℕ) → Descriptor → List ℕ → ℕ → ℕ
left_over w d fingerprints key =
    let hash = hash_of key d.seed in
    query_xor (slots_in d.segment_length d.segment_length_mask d.segment_count_length hash) (fingerprint_of w hash) fingerprints

-- "yes if and only if fingerprint xor the three stored bytes is 0"
abbrev pub yes? : (w : ℕ) → Descriptor → List ℕ → ℕ → Bool
yes? w d fingerprints key = eqb (left_over w d fingerprints key) 0

-- "segment count length + 2L"
abbrev pub fingerprints_for : Descriptor → ℕ
fingerprints_for d = d.segment_count_length + 2 * d.segment_length

-- checks 8 to 10 of the record, then 11 of the fingerprints
abbrev pub accepts : Descriptor → List ℕ → Answer Done
accepts d fingerprints = check_of d then refuse_if (not (eqb (length fingerprints) (fingerprints_for d))) 11

-- given the record: 8 to 11
unfoldable pub contains_of : (w : ℕ) → Descriptor → List ℕ → ℕ → Answer Bool
contains_of w d fingerprints key = accepts d fingerprints then gives (yes? w d fingerprints key)

-- given descriptor bytes: 7 to 11
unfoldable pub contains_bytes_of : (w : ℕ) → List ℕ → List ℕ → ℕ → Answer Bool
contains_bytes_of w bytes fingerprints key = refuse_if (ltb (length bytes) descriptor_size) 7 then contains_of w (descriptor_of bytes) fingerprints key

-- what the controller's C program is told: 0 for no, 1 for yes, 16 plus the number for a refusal
abbrev pub told : Answer Bool → ℕ
told (gives false) = 0
told (gives true) = 1
told (refuses number) = code_of number
