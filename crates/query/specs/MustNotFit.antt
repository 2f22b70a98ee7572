-- Document 01, "What the promises say": these must not fit, at any width. Whatever program answers as `contains` promises does not refuse every
-- question, and where it answers it does not always say yes, nor always no. Assumes nothing.
use Rattle.std.specs.Prelude.{◌≡◌, refl, Bool, true, false, List, ℕ, ◌-◌, ◌^◌, ◌<◌, replicate}
use Rattle.std.proofs.Common.{◌∙◌, arith}
use Rattle.answers.specs.Answers.{Answer, gives}
use Rattle.answers.specs.Never.{never}
use Rattle.descriptor.specs.declared.Descriptor.{Descriptor}
use Rattle.fuse.specs.Query.{contains_of, left_over}
use Rattle.arith.specs.Steps.{xorshift, times}
use Rattle.arith.specs.Murmur3.{mix64_of, hash_of}
use Rattle.arith.specs.Fingerprint.{fingerprint_of}
use Rattle.arith.specs.Slots.{slot0, slot1, slot2}
use Rattle.descriptor.specs.Descriptor.{is_length, bad_count, check_of}
use Rattle.stuck.specs.Fill.{query_xor}

abbrev pub Program : Type 0
Program = Descriptor → (fingerprints : List ℕ) (key : ℕ) → Answer Bool

-- keys have 64 bits
abbrev pub Fits : (w : ℕ) → Program → Type 0
Fits w program = (d : Descriptor) (fingerprints : List ℕ) (key : ℕ) → key < 2 ^ 64 → program d fingerprints key ≡ contains_of w d fingerprints key

-- this is so of every answer that is no refusal
abbrev pub OfEach : Program → (Bool → Type 0) → Type 0
OfEach program rule = (d : Descriptor) (fingerprints : List ℕ) (key : ℕ) (answer : Bool) → key < 2 ^ 64 → program d fingerprints key ≡ gives answer → rule answer

pub record MustNotFit (program : Program) : Type 0 where
  pub some_question_answered : ¬ OfEach program (λ answer. ⊥)
  -- not always yes, and not always no
  pub not_always : (always : Bool) → ¬ OfEach program (λ answer. answer ≡ always)

-- seed 1, L 4, mask 3, count length 4, asked with fingerprints of zeros
abbrev pub list : Descriptor
list = record { seed = 1; segment_length = 4; segment_length_mask = 3; segment_count_length = 4 }

-- the last key has the hash 0, and so the fingerprint 0; the first key's is another
pub record Asked (w : ℕ) : Type 0 where
  pub last_key : contains_of w list (replicate 12 0) (2 ^ 64 - 1) ≡ gives true
  pub first_key : contains_of w list (replicate 12 0) 0 ≡ gives false

-- the checker computes them at each width
pub asked : Asked 8 × Asked 16
unfolding contains_of left_over query_xor check_of is_length bad_count xorshift times mix64_of hash_of fingerprint_of slot0 slot1 slot2
asked = (record { last_key = refl; first_key = refl }, record { last_key = refl; first_key = refl })

pub must_not_fit : {w : ℕ} → Asked w → (program : Program) → Fits w program → MustNotFit program
must_not_fit so program fits =
    record {
      some_question_answered = λ none. none list (replicate 12 0) 0 false (omega arith) (fits list (replicate 12 0) 0 (omega arith) ∙ so.first_key);
      not_always = λ always one.
          let yes = one list (replicate 12 0) (2 ^ 64 - 1) true (omega arith) (fits list (replicate 12 0) (2 ^ 64 - 1) (omega arith) ∙ so.last_key) in
          let no = one list (replicate 12 0) 0 false (omega arith) (fits list (replicate 12 0) 0 (omega arith) ∙ so.first_key) in
          never cc;
    }
