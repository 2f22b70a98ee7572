-- Two builds by the definitions alone, as the checker computes them at each width: of no keys, and of the keys 2 and 4, which are stuck in attempt 1
-- and free in attempt 2. Assumes nothing.
use Rattle.std.specs.Prelude.{◌≡◌, refl, List, [], ◌∷◌, ℕ, replicate}
use Rattle.answers.specs.Answers.{gives, outcome}
use Rattle.descriptor.specs.declared.Descriptor.{Descriptor}
use Rattle.fuse.specs.Memory.{Memory, memory, checks_of}
use Rattle.fuse.specs.Build.{success, build_of, first_free, search_of}
use Rattle.arith.specs.Steps.{xorshift, times}
use Rattle.arith.specs.Murmur3.{mix64_of, hash_of}
use Rattle.arith.specs.SplitMix64.{state_of, output_of, seed_of}
use Rattle.arith.specs.Fingerprint.{fingerprint_of}
use Rattle.arith.specs.Slots.{slot0, slot1, slot2}
use Rattle.capacity.specs.Capacity.{capacity_of, obeys}
use Rattle.layout.specs.Layout.{reaches, exponent_of, plain_of, halves, layout_of, power_above, bucket_starts_of}
use Rattle.repeats.specs.Repeats.{among?, repeats?}
use Rattle.stuck.specs.Fill.{store, fill}
use Rattle.machine.specs.Machine.{share, total_all, table, sums_of, change, change_at, push_if, scan, release, take_key, at_slot, pop, takes, picks_from}
use Rattle.peel.specs.Segments.{hashes_of}
use Rattle.peel.specs.Picks.{picks_of_keys, fingerprints_of}
use Rattle.fuse.specs.Attempts.{descriptor_at, picks_at, free, fingerprints_at}

-- as much as two keys need, with a 7 in every place
abbrev pub room : Memory
room = memory (replicate 12 7) (replicate 12 7) (replicate 12 7) (replicate 12 7) (replicate 2 7) (replicate 3 7) (replicate 2 7)

abbrev pub described : (seed : ℕ) → Descriptor
described seed = record { seed = seed; segment_length = 4; segment_length_mask = 3; segment_count_length = 4 }

abbrev pub zeroed_but : (fingerprints : List ℕ) → Memory
zeroed_but fingerprints = memory fingerprints (replicate 12 0) (replicate 12 0) (replicate 12 0) (replicate 2 0) (replicate 3 0) (replicate 2 0)

-- two of the twelve fingerprints are not zero: those of slots 6 and 10
abbrev pub two_of : (sixth tenth : ℕ) → List ℕ
two_of sixth tenth = 0 ∷ 0 ∷ 0 ∷ 0 ∷ 0 ∷ 0 ∷ sixth ∷ 0 ∷ 0 ∷ 0 ∷ tenth ∷ 0 ∷ []

pub record Built (w sixth tenth : ℕ) : Type 0 where
  -- no keys have no positions, and an order of one element
  pub no_keys : build_of w [] 1 room
      ≡ outcome (gives (success (described 10451216379200822465) 12 1))
      (memory (replicate 12 0) (replicate 12 0) (replicate 12 0) (replicate 12 0) (replicate 2 7) (0 ∷ 7 ∷ 7 ∷ []) (replicate 2 0))
  pub two_keys : build_of w (2 ∷ 4 ∷ []) 2 room ≡ outcome (gives (success (described 13757245211066428519) 12 2)) (zeroed_but (two_of sixth tenth))

pub built : Built 8 58 186 × Built 16 35898 47034
unfolding search_of first_free free picks_at fingerprints_at descriptor_at checks_of picks_of_keys fingerprints_of hashes_of among? repeats?
    capacity_of obeys reaches exponent_of plain_of halves layout_of power_above bucket_starts_of
    xorshift times mix64_of hash_of state_of output_of seed_of fingerprint_of slot0 slot1 slot2
    share total_all table sums_of change change_at push_if scan release take_key at_slot pop takes picks_from store fill
built = (record { no_keys = refl; two_keys = refl }, record { no_keys = refl; two_keys = refl })
