-- A query of fingerprints of any width, where its checks have passed: the sums of the slots have room, the slots are in range, and what is
-- left over decides. Assumes nothing.
use Rattle.std.specs.Prelude.{◌≡◌, List, ℕ, ◌+◌, ◌*◌, ◌^◌, ◌<◌, eqb, length, get_or}
use Rattle.std.proofs.Common.{eq-eqb}
use Rattle.answers.specs.Answers.{gives}
use Rattle.arith.specs.Murmur3.{hash_of}
use Rattle.arith.specs.Fingerprint.{fingerprint_of}
use Rattle.arith.specs.Slots.{slots_of}
use Rattle.arith.specs.XorAt.{xor_at}
use Rattle.stuck.specs.Fill.{query_xor}
use Rattle.peel.specs.SlotsApart.{in_room}
use Rattle.descriptor.specs.declared.Descriptor.{Descriptor}
use Rattle.fuse.specs.Query.{left_over, fingerprints_for, contains_of}
use Rattle.fuse.specs.AcceptedSlots.{accepted_segments, accepted_slots}
use Rattle.query.specs.Suited.{Suited}

-- what the code of the slots asks
pub slots-room : {d : Descriptor} {fingerprints : List ℕ} → Suited d fingerprints
    → d.segment_count_length + 2 * d.segment_length < 2 ^ 32
slots-room {d} s = in_room (accepted_segments d s.good)

-- each slot has a fingerprint, and the answer is whether nothing is left over
pub record Answered (w : ℕ) (d : Descriptor) (fingerprints : List ℕ) (key fingerprint : ℕ) (slots : List ℕ) : Type 0 where
  pub three : length slots ≡ 3
  pub in0 : get_or slots 0 0 < length fingerprints
  pub in1 : get_or slots 1 0 < length fingerprints
  pub in2 : get_or slots 2 0 < length fingerprints
  pub listed : gives (eqb (xor_at fingerprint slots fingerprints) 0) ≡ contains_of w d fingerprints key

module _ (w : ℕ) (d : Descriptor) (fingerprints : List ℕ) (key : ℕ) (s : Suited d fingerprints) where
  -- of what the code has made of the key
  pub answered : {hash fingerprint : ℕ} {slots : List ℕ} → hash ≡ hash_of key d.seed → fingerprint ≡ fingerprint_of w hash
      → slots ≡ slots_of hash d.segment_length d.segment_length_mask d.segment_count_length
      → Answered w d fingerprints key fingerprint slots
  unfolding contains_of left_over query_xor
  answered {hash} {fingerprint} {slots} is f made =
      let are : slots ≡ slots_of (hash_of key d.seed) d.segment_length d.segment_length_mask d.segment_count_length = rw is at made in
      let own : fingerprint ≡ fingerprint_of w (hash_of key d.seed) = rw is at f in
      let inside = accepted_slots d s.good key in
      record {
        three = rw are;
        in0 = rw (are, s.whole) inside.in0;
        in1 = rw (are, s.whole) inside.in1;
        in2 = rw (are, s.whole) inside.in2;
        listed = simp (s.good, eq-eqb (length fingerprints) (fingerprints_for d) s.whole, are, own);
      }
