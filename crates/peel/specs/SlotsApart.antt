-- The three slots of a hash under a layout differ and are below the number of slots; and the hashes of the keys, one by one. Assumes nothing.
use Rattle.std.specs.Prelude.{◌≡◌, List, ℕ, ◌+◌, ◌-◌, ◌*◌, ◌^◌, ◌<◌, length, get_or}
use Rattle.std.proofs.Common.{arith}
use Rattle.std.proofs.lemmas.List.{length-map, get_or-map}
use Rattle.arith.specs.Murmur3.{hash_of}
use Rattle.arith.specs.OneToOne.{hash-lt}
use Rattle.arith.specs.Slots.{slot0, slot1, slot2}
use Rattle.arith.specs.Spread.{Spread, spread, spread_apart}
use Rattle.stuck.specs.Ring.{Apart}
use Rattle.peel.specs.Segments.{slots_in, hashes_of}
use Rattle.peel.specs.Requires.{Segmented}

module _ {segment mask span slots : ℕ} (layout : Segmented segment mask span slots) where
  -- the sums of the slots of a hash have room in 32 bits
  pub in_room : span + 2 * segment < 2 ^ 32
  in_room = omega (arith, layout.slots_are, layout.numbered)

  pub slots_apart : (hash : ℕ) → hash < 2 ^ 64 → Apart slots (slots_in segment mask span hash)
  slots_apart hash small =
      rw (layout.slots_are, layout.span_is, layout.mask_is, layout.segment_is)
      (record {
        ne01 = (spread_apart s).0;
        ne02 = (spread_apart s).1;
        ne12 = (spread_apart s).2;
        in0 = omega (arith, s.below0);
        in1 = s.below1;
        in2 = s.below2;
      })
    where
      L : ℕ
      L = 2 ^ layout.exponent

      wide : ℕ
      wide = layout.segments * 2 ^ layout.exponent

      s : Spread L wide (slot0 hash wide) (slot1 hash L (L - 1) wide) (slot2 hash L (L - 1) wide)
      s = spread layout.exponent layout.segments hash small layout.some

pub hashes_length : (seed : ℕ) (keys : List ℕ) → length (hashes_of seed keys) ≡ length keys
unfolding hashes_of
hashes_length seed keys = length-map keys (λ key. hash_of key seed)

pub hashes_at : (seed : ℕ) (keys : List ℕ) (i : ℕ) → i < length keys → get_or (hashes_of seed keys) i 0 ≡ hash_of (get_or keys i 0) seed
unfolding hashes_of
hashes_at seed keys i h = get_or-map (λ key. hash_of key seed) keys i 0 0 h

pub hashes_small : (seed : ℕ) (keys : List ℕ) (i : ℕ) → i < length (hashes_of seed keys) → get_or (hashes_of seed keys) i 0 < 2 ^ 64
hashes_small seed keys i h = rw (hashes_at seed keys i (omega (arith, hashes_length seed keys))) (hash-lt (get_or keys i 0) seed)
