-- What is written is read back, and what was read is written back as it stood. Assumes nothing.
use Rattle.std.specs.Prelude.{◌≡◌, refl, List, ◌++◌, ℕ, ◌+◌, ◌^◌, ◌≤◌, ◌<◌, ltb, length, get_or, take, drop}
use Rattle.std.proofs.Common.{sym, ap, ◌∙◌, append_assoc, arith, le-ltb, ltb-false, length-append, take-add}
use Rattle.words.specs.Bytes.{number_at, bytes_of}
use Rattle.words.specs.BytesRoundTrip.{number_of_bytes, bytes_of_number}
use Rattle.answers.specs.Answers.{gives, Outcome, outcome}
use Rattle.answers.specs.Checks.{Done, done, refuse_if, ◌then◌}
use Rattle.answers.specs.Passed.{both_pass, passed_first, next_follows}
use Rattle.descriptor.specs.declared.Descriptor.{Descriptor}
use Rattle.descriptor.specs.Descriptor.{check_of, descriptor_size, descriptor_of, encode, read_of, write_of}
use Rattle.descriptor.specs.SameFields.{same_fields}

-- the numbers of a record are those of its types
pub record Sized (d : Descriptor) : Type 0 where
  pub seed : d.seed < 2 ^ 64
  pub length : d.segment_length < 2 ^ 32
  pub mask : d.segment_length_mask < 2 ^ 32
  pub count : d.segment_count_length < 2 ^ 32

-- ---- the twenty bytes of a record, whatever follows them, hold that record

pub decode_encode : (d : Descriptor) (rest : List ℕ) → Sized d → descriptor_of (encode d ++ rest) ≡ d
unfolding descriptor_of
decode_encode d rest s =
    let bytes = encode d ++ rest in
    same_fields (number_of_bytes 8 0 bytes d.seed s.seed refl) (number_of_bytes 4 8 bytes d.segment_length s.length refl)
    (number_of_bytes 4 12 bytes d.segment_length_mask s.mask refl) (number_of_bytes 4 16 bytes d.segment_count_length s.count refl)

-- ---- the record in twenty bytes has those bytes

four_parts : {a b c d : List ℕ} (bytes : List ℕ)
    → a ≡ take 8 bytes → b ≡ take 4 (drop 8 bytes) → c ≡ take 4 (drop 12 bytes) → d ≡ take 4 (drop 16 bytes)
    → a ++ (b ++ (c ++ d)) ≡ take descriptor_size bytes
four_parts {a} {b} {c} {d} bytes p q r s =
    regroup a b c d
    ∙ (λ i. ((p i ++ q i) ++ r i) ++ s i)
    ∙ sym (further 16 (further 12 (take-add 8 4 bytes)))
  where
    regroup : (a b c d : List ℕ) → a ++ (b ++ (c ++ d)) ≡ ((a ++ b) ++ c) ++ d
    regroup a b c d = simp append_assoc

    further : (n : ℕ) {front : List ℕ} → take n bytes ≡ front → take (n + 4) bytes ≡ front ++ take 4 (drop n bytes)
    further n e = take-add n 4 bytes ∙ ap (λ (l : List ℕ). l ++ take 4 (drop n bytes)) e

pub encode_decode : (bytes : List ℕ) → ((i : ℕ) → get_or bytes i 0 < 256) → descriptor_size ≤ length bytes
    → encode (descriptor_of bytes) ≡ take descriptor_size bytes
unfolding descriptor_of
encode_decode bytes small h =
    let part : (k p : ℕ) → p + k ≤ length bytes → bytes_of k (number_at k p bytes) ≡ take k (drop p bytes) = λ k p. bytes_of_number k p bytes small in
    four_parts bytes (part 8 0 (omega arith)) (part 4 8 (omega arith)) (part 4 12 (omega arith)) (part 4 16 (omega arith))

-- ---- a record that was written is read back

pub read_written : (d : Descriptor) (room after : List ℕ) → Sized d → write_of d room ≡ outcome (gives done) after → read_of after ≡ gives d
read_written d room after s e =
    let checks = refuse_if (ltb (length room) descriptor_size) 7 then check_of d in
    let written = encode d ++ drop descriptor_size room in
    let passed = next_follows checks room (outcome (gives done) written) done (ap (λ (o : Outcome Done (List ℕ)). o.answer) e) in
    let is : after ≡ written = ap (λ (o : Outcome Done (List ℕ)). o.leaves) (sym e ∙ passed.1) in
    let good = passed_first (ltb (length room) descriptor_size) 7 (check_of d) done passed.0 in
    let long : descriptor_size ≤ length written = simp length-append (omega arith) in
    ap read_of is ∙ simp (le-ltb (length written) descriptor_size long, decode_encode d (drop descriptor_size room) s, good.1)

-- ---- a record that was read is written back as the bytes that it came from

pub written_read : (bytes room : List ℕ) (d : Descriptor) → ((i : ℕ) → get_or bytes i 0 < 256) → descriptor_size ≤ length room
    → read_of bytes ≡ gives d → write_of d room ≡ outcome (gives done) (take descriptor_size bytes ++ drop descriptor_size room)
written_read bytes room d small h e =
    let long = passed_first (ltb (length bytes) descriptor_size) 7 (check_of (descriptor_of bytes) then gives (descriptor_of bytes)) d e in
    let good = both_pass (check_of (descriptor_of bytes)) (gives (descriptor_of bytes)) d long.1 in
    let is : d ≡ descriptor_of bytes = cc in
    let back = encode_decode bytes small (ltb-false (length bytes) descriptor_size long.0) in
    rw is
    (simp (le-ltb (length room) descriptor_size h, good.0) (ap (λ (l : List ℕ). outcome (gives done) (l ++ drop descriptor_size room)) back))
