-- Document 01, answers 7 to 10 and module 6: the descriptor's checks, and its 20 bytes (seed 8 bytes, segment length 4, mask 4,
-- segment count length 4, little-endian) read and written. Assumes nothing.
use Rattle.std.specs.Prelude.{ℕ, zero, suc, ◌+◌, ◌-◌, ◌*◌, ◌%◌, ◌^◌, Bool, not, ◌&&◌, ◌||◌, List, ◌++◌, leb, ltb, eqb, length, drop}
use Rattle.words.specs.Bytes.{number_at, bytes_of}
use Rattle.answers.specs.Answers.{Answer, gives, Outcome, outcome}
use Rattle.answers.specs.Checks.{Done, done, refuse_if, ◌then◌, unless_refused}
use Rattle.descriptor.specs.declared.Descriptor.{Descriptor}

-- ---- the checks

-- l is 2 ^ e for some e up to `last`
abbrev pub is_power : (last l : ℕ) → Bool
is_power zero l = eqb l (2 ^ 0)
is_power (suc last) l = eqb l (2 ^ suc last) || is_power last l

-- 262,144 is 2 ^ 18
abbrev pub last_exponent : ℕ
last_exponent = 18

-- a power of two in 4..262,144
unfoldable pub is_length : ℕ → Bool
is_length l = leb 4 l && is_power last_exponent l

-- the most fingerprints, count length + 2L, that a descriptor may speak of
abbrev pub longest : ℕ
longest = 2 ^ 31 - 1

-- segment count length 0, no multiple of L, or with 2L added above 2 ^ 31 - 1
unfoldable pub bad_count : (l span : ℕ) → Bool
bad_count l span = eqb span 0 || (not (eqb (span % l) 0) || ltb longest (span + 2 * l))

unfoldable pub check_of : Descriptor → Answer Done
check_of d =
    refuse_if (not (is_length d.segment_length)) 8
    then refuse_if (not (eqb d.segment_length_mask (d.segment_length - 1))) 9
    then refuse_if (bad_count d.segment_length d.segment_count_length) 10

-- ---- the twenty bytes

abbrev pub descriptor_size : ℕ
descriptor_size = 20

unfoldable pub descriptor_of : List ℕ → Descriptor
descriptor_of bytes =
    record {
      seed = number_at 8 0 bytes;
      segment_length = number_at 4 8 bytes;
      segment_length_mask = number_at 4 12 bytes;
      segment_count_length = number_at 4 16 bytes;
    }

abbrev pub encode : Descriptor → List ℕ
encode d =
    bytes_of 8 d.seed ++ (bytes_of 4 d.segment_length ++ (bytes_of 4 d.segment_length_mask ++ bytes_of 4 d.segment_count_length))

-- 7 to 10; what follows the first 20 bytes is not looked at
abbrev pub read_of : List ℕ → Answer Descriptor
read_of bytes = refuse_if (ltb (length bytes) descriptor_size) 7 then check_of (descriptor_of bytes) then gives (descriptor_of bytes)

-- 8 to 10 of the record, but 7 first; the first 20 bytes of the room are changed, and no others
abbrev pub write_of : Descriptor → (room : List ℕ) → Outcome Done (List ℕ)
write_of d room =
    unless_refused (refuse_if (ltb (length room) descriptor_size) 7 then check_of d) room (outcome (gives done) (encode d ++ drop descriptor_size room))
