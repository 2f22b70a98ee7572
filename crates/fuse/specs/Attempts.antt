-- Document 01, modules 2, 4 and 8: the attempts on a list of keys, by their numbers from 1. Each has its seed and its layout; what it does
-- with them is the section "One attempt, and the order that fixes the bytes". Assumes nothing.
use Rattle.std.specs.Prelude.{Bool, List, ℕ, ◌-◌, length, eqb}
use Rattle.arith.specs.SplitMix64.{seed_of}
use Rattle.layout.specs.declared.Layout.{Layout}
use Rattle.layout.specs.Layout.{layout_of, slot_count_of}
use Rattle.descriptor.specs.declared.Descriptor.{Descriptor}
use Rattle.stuck.specs.Stuck.{Slots, Pick}
use Rattle.peel.specs.Picks.{slots_of_keys, picks_of_keys, fingerprints_of}

-- an attempt limit or number is at most this
abbrev pub max_attempts : ℕ
max_attempts = 1000

-- the descriptor of a seed and a layout: the mask is L - 1
abbrev pub describe : ℕ → Layout → Descriptor
describe seed layout =
    record {
      seed = seed;
      segment_length = layout.segment_length;
      segment_length_mask = layout.segment_length - 1;
      segment_count_length = layout.segment_count_length;
    }

-- attempt i on n keys
unfoldable pub descriptor_at : (n i : ℕ) → Descriptor
descriptor_at n i = describe (seed_of i) (layout_of n i)

-- the slots that each of the keys touches in attempt i
unfoldable pub slots_at : List ℕ → ℕ → List Slots
slots_at keys i =
    let d = descriptor_at (length keys) i in
    slots_of_keys d.segment_length d.segment_length_mask d.segment_count_length d.seed keys

-- the keys that it takes
unfoldable pub picks_at : List ℕ → ℕ → List Pick
picks_at keys i =
    let d = descriptor_at (length keys) i in
    picks_of_keys d.segment_length d.segment_length_mask d.segment_count_length (slot_count_of (length keys)) d.seed keys

-- "the attempt succeeded if n keys were taken". (Exactly then it has no stuck set: FreeAttempts.antt.)
unfoldable pub free : List ℕ → ℕ → Bool
free keys i = eqb (length (picks_at keys i)) (length keys)

-- its fingerprints, of w bits each, one for each of the A slots
unfoldable pub fingerprints_at : (w : ℕ) → List ℕ → ℕ → List ℕ
fingerprints_at w keys i =
    let d = descriptor_at (length keys) i in
    fingerprints_of w d.segment_length d.segment_length_mask d.segment_count_length (slot_count_of (length keys)) d.seed keys
