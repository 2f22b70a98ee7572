-- Document 01, modules 5 and 1: the slots of a hash for a segment length, a mask and a segment count length, here `span`; and the hashes of the
-- keys under a seed. Assumes nothing.
use Rattle.std.specs.Prelude.{List, map, ℕ}
use Rattle.arith.specs.Murmur3.{hash_of}
use Rattle.arith.specs.Slots.{slot0, slot1, slot2}
use Rattle.stuck.specs.Stuck.{Slots}

-- the three slots of a hash, as the three numbers that keys touch
abbrev pub slots_in : (segment mask span hash : ℕ) → Slots
slots_in segment mask span hash = record { s0 = slot0 hash span; s1 = slot1 hash segment mask span; s2 = slot2 hash segment mask span }

-- the hashes of the keys under a seed
unfoldable pub hashes_of : (seed : ℕ) (keys : List ℕ) → List ℕ
hashes_of seed keys = map (λ key. hash_of key seed) keys
