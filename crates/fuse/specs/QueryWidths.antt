-- The query of a list of w bits that a wider one was narrowed to: the same refusals, and yes wherever the wider list says yes. Assumes nothing.
use Rattle.std.specs.Prelude.{◌≡◌, Bool, true, List, ℕ, ◌%◌, ◌^◌, ◌≤◌, ltb, length}
use Rattle.std.proofs.Common.{sym, ◌∙◌, eq-eqb, eqb-true}
use Rattle.std.proofs.Math.Path.{ap}
use Rattle.std.proofs.Math.Nat.{zero-mod}
use Rattle.words.specs.Low.{low}
use Rattle.words.specs.LowLaws.{low-length}
use Rattle.answers.specs.Answers.{Answer, refuses, gives}
use Rattle.answers.specs.Never.{never}
use Rattle.answers.specs.Checks.{Done, done, refuse_if, ◌then◌}
use Rattle.arith.specs.Murmur3.{hash_of}
use Rattle.arith.specs.Fingerprint.{fingerprint_of}
use Rattle.arith.specs.FingerprintLow.{fingerprint_low}
use Rattle.descriptor.specs.declared.Descriptor.{Descriptor}
use Rattle.descriptor.specs.Descriptor.{descriptor_size, descriptor_of}
use Rattle.stuck.specs.Fill.{query_xor}
use Rattle.stuck.specs.FillLow.{query_low}
use Rattle.peel.specs.Segments.{slots_in}
use Rattle.fuse.specs.Query.{left_over, yes?, accepts, contains_of, contains_bytes_of}
use Rattle.fuse.specs.Narrow.{NarrowerAnswer}

-- the checks come before, and are the same
after-checks : (checks : Answer Done) {slim wide : Answer Bool} → NarrowerAnswer slim wide → NarrowerAnswer (checks then slim) (checks then wide)
after-checks (refuses number) narrower = record { yes_kept = λ e. never (cc); same_refusals = λ k. (λ e. e, λ e. e) }
after-checks (gives done) narrower = narrower

both_answer : {slim wide : Bool} → (wide ≡ true → slim ≡ true) → NarrowerAnswer (gives slim) (gives wide)
both_answer follows = record { yes_kept = λ e. ap gives (follows (cc)); same_refusals = λ k. (λ e. never (cc), λ e. never (cc)) }

module _ {w v : ℕ} (narrower : w ≤ v) where
  -- what is left over is the wider list's, modulo 2 ^ w
  left_over_low : (d : Descriptor) (fingerprints : List ℕ) (key : ℕ) → left_over w d (low w fingerprints) key ≡ left_over v d fingerprints key % 2 ^ w
  unfolding left_over
  left_over_low d fingerprints key =
      let hash = hash_of key d.seed in
      let t = slots_in d.segment_length d.segment_length_mask d.segment_count_length hash in
      ap (λ (f : ℕ). query_xor t f (low w fingerprints)) (sym (fingerprint_low narrower hash)) ∙ query_low w t (fingerprint_of v hash) fingerprints

  yes_low : (d : Descriptor) (fingerprints : List ℕ) (key : ℕ) → yes? v d fingerprints key ≡ true → yes? w d (low w fingerprints) key ≡ true
  yes_low d fingerprints key e =
      eq-eqb (left_over w d (low w fingerprints) key) 0
      (left_over_low d fingerprints key ∙ ap (λ (x : ℕ). x % 2 ^ w) (eqb-true (left_over v d fingerprints key) 0 e) ∙ zero-mod (2 ^ w))

  pub contains_narrows : (d : Descriptor) (fingerprints : List ℕ) (key : ℕ)
      → NarrowerAnswer (contains_of w d (low w fingerprints) key) (contains_of v d fingerprints key)
  unfolding contains_of
  contains_narrows d fingerprints key =
      rw (low-length w fingerprints) (after-checks (accepts d fingerprints) (both_answer (yes_low d fingerprints key)))

  pub contains_bytes_narrows : (bytes fingerprints : List ℕ) (key : ℕ)
      → NarrowerAnswer (contains_bytes_of w bytes (low w fingerprints) key) (contains_bytes_of v bytes fingerprints key)
  unfolding contains_bytes_of
  contains_bytes_narrows bytes fingerprints key =
      after-checks (refuse_if (ltb (length bytes) descriptor_size) 7) (contains_narrows (descriptor_of bytes) fingerprints key)
