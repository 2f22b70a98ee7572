-- The 20 bytes of a list that was built stand for its descriptor: a success is that of the attempt it names, whose numbers fit their bytes, so every
-- listed key answers yes when asked of the bytes, too. Any width. Assumes nothing.
use Rattle.std.specs.Prelude.{◌≡◌, refl, Bool, true, false, cond, List, ◌++◌, ℕ, zero, suc, ◌+◌, ◌-◌, ◌≤◌, ◌<◌, length, take, get_or}
use Rattle.std.proofs.Common.{sym, ap, ◌∙◌, arith, le-ltb, length-append}
use Rattle.answers.specs.Answers.{Answer, refuses, gives, Outcome}
use Rattle.answers.specs.Never.{never}
use Rattle.answers.specs.Checks.{Done, done, unless_refused}
use Rattle.arith.specs.SeedBound.{seed_lt}
use Rattle.capacity.specs.Capacity.{max_keys}
use Rattle.layout.specs.Layout.{slot_count_of}
use Rattle.layout.proofs.Fits.{layout_fits}
use Rattle.descriptor.specs.declared.Descriptor.{Descriptor}
use Rattle.descriptor.specs.Descriptor.{descriptor_size, descriptor_of, encode}
use Rattle.descriptor.specs.RoundTrip.{Sized, decode_encode}
use Rattle.repeats.specs.Repeats.{repeats?}
use Rattle.fuse.specs.Attempts.{descriptor_at, free}
use Rattle.fuse.specs.Query.{fingerprints_for, contains_of, contains_bytes_of}
use Rattle.fuse.specs.Memory.{Memory, checked}
use Rattle.fuse.proofs.Checked.{passed}
use Rattle.fuse.specs.Build.{Success, success, first_free, repeated_outcome, found_outcome, search_of}
use Rattle.fuse.specs.FreeAttempts.{attempt_length}
use Rattle.fuse.proofs.Demanded.{demand_met}

-- ---- a descriptor by its bytes

pub asked_by_bytes : (w : ℕ) (d : Descriptor) (rest fingerprints : List ℕ) (key : ℕ) → Sized d
    → contains_bytes_of w (encode d ++ rest) fingerprints key ≡ contains_of w d fingerprints key
unfolding contains_bytes_of
asked_by_bytes w d rest fingerprints key s =
    let bytes = encode d ++ rest in
    let long : descriptor_size ≤ length bytes = simp length-append (omega arith) in
    simp (le-ltb (length bytes) descriptor_size long, decode_encode d rest s)

pub attempt_sized : {n : ℕ} (i : ℕ) → n ≤ max_keys → Sized (descriptor_at n i)
unfolding descriptor_at
attempt_sized {n} i few =
    let f = layout_fits i few in
    record {
      seed = seed_lt i;
      length = omega (arith, f.whole, f.small);
      mask = omega (arith, f.whole, f.small);
      count = omega (arith, f.whole, f.small);
    }

-- ---- a success is that of the attempt it names

module _ (w : ℕ) (keys : List ℕ) (m : Memory) where
  abbrev Named : Answer Success → Type 0
  Named answer = (s : Success) → answer ≡ gives s → s ≡ success (descriptor_at (length keys) s.attempt) (slot_count_of (length keys)) s.attempt

  found_named : (found : ℕ) → Named (found_outcome w keys found m).answer
  found_named zero s e = never (cc)
  found_named (suc k) s e =
      let z : success (descriptor_at (length keys) (suc k)) (slot_count_of (length keys)) (suc k) ≡ s = cc in
      rw (← z) refl

  searched_named : (repeated : Bool) (found : ℕ) → Named (cond repeated (repeated_outcome keys m) (found_outcome w keys found m)).answer
  searched_named true found s e = never (cc)
  searched_named false found s e = found_named found s e

  checked_named : (checks : Answer Done) (o : Outcome Success Memory) → Named o.answer → (s : Success) → (unless_refused checks m o).answer ≡ gives s
      → (checks ≡ gives done) × (s ≡ success (descriptor_at (length keys) s.attempt) (slot_count_of (length keys)) s.attempt)
  checked_named (refuses k) o named s e = never (cc)
  checked_named (gives done) o named s e = (refl, named s e)

  -- where checks 1 to 4 pass
  pub success_is : (limit first count : ℕ) (o : Outcome Success Memory) → o ≡ search_of w keys limit first count m → (s : Success) → o.answer ≡ gives s
      → (checked (length keys) limit m ≡ gives done)
      × (s ≡ success (descriptor_at (length keys) s.attempt) (slot_count_of (length keys)) s.attempt)
  unfolding search_of
  success_is limit first count o e s a =
      checked_named (checked (length keys) limit m) _ (searched_named (repeats? keys) (first_free (free keys) first count)) s
      (ap (λ (x : Outcome Success Memory). x.answer) (sym e) ∙ a)

  -- ---- so every listed key answers yes, asked of the 20 bytes and whatever follows them

  module _ (first last : ℕ) (allowed : 1 ≤ last → (1 ≤ first) × (first ≤ last)) (o : Outcome Success Memory)
      (e : o ≡ search_of w keys last first (last + 1 - first) m) (s : Success) (built : o.answer ≡ gives s) where
    abbrev is : (checked (length keys) last m ≡ gives done)
        × (s ≡ success (descriptor_at (length keys) s.attempt) (slot_count_of (length keys)) s.attempt)
    is = success_is last first (last + 1 - first) o e s built

    few : length keys ≤ max_keys
    few = (passed (length keys) last _ _ _ _ _ _ _ is.0).few_keys

    sized : Sized s.descriptor
    sized = rw is.1 (attempt_sized s.attempt few)

    -- A is the number of fingerprints that the bytes speak of
    pub counted_by_bytes : (rest : List ℕ) → fingerprints_for (descriptor_of (encode s.descriptor ++ rest)) ≡ s.slots
    counted_by_bytes rest =
        ap fingerprints_for (decode_encode s.descriptor rest sized)
        ∙ ap (λ (x : Success). fingerprints_for x.descriptor) is.1
        ∙ attempt_length s.attempt few
        ∙ ap (λ (x : Success). x.slots) (sym is.1)

    pub listed_key_yes_by_bytes : (rest : List ℕ) (j : ℕ) → j < length keys → let bytes = encode s.descriptor ++ rest in
        contains_bytes_of w bytes (take (fingerprints_for (descriptor_of bytes)) o.leaves.fingerprints) (get_or keys j 0) ≡ gives true
    listed_key_yes_by_bytes rest j listed =
        let bytes = encode s.descriptor ++ rest in
        ap (λ (a : ℕ). contains_bytes_of w bytes (take a o.leaves.fingerprints) (get_or keys j 0)) (counted_by_bytes rest)
        ∙ asked_by_bytes w s.descriptor rest _ (get_or keys j 0) sized
        ∙ (demand_met w keys first last m allowed o e).every_key_yes s built j listed
