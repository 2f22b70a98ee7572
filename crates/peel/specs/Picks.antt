-- Document 01, "One attempt, and the order that fixes the bytes", from keys, a seed and a layout: the keys that are taken, the slots that the
-- keys touch, and the fingerprints of any width that are filled in from what was taken. Assumes nothing.
use Rattle.std.specs.Prelude.{List, map, ℕ, replicate}
use Rattle.arith.specs.Fingerprint.{fingerprint_of}
use Rattle.stuck.specs.Stuck.{Slots, Pick}
use Rattle.stuck.specs.Fill.{fill}
use Rattle.machine.specs.Machine.{picks_of, stores}
use Rattle.peel.specs.Segments.{slots_in, hashes_of}

-- the slots of each key
unfoldable pub slots_of_keys : (segment mask span seed : ℕ) (keys : List ℕ) → List Slots
slots_of_keys segment mask span seed keys = map (slots_in segment mask span) (hashes_of seed keys)

-- the keys taken, each by its hash and its position, the first taken first
unfoldable pub picks_of_keys : (segment mask span slots seed : ℕ) (keys : List ℕ) → List Pick
picks_of_keys segment mask span slots seed keys = picks_of (slots_in segment mask span) slots (hashes_of seed keys)

-- the fingerprints of `width` bits, one for each slot: last taken first, and slots never used stay 0
unfoldable pub fingerprints_of : (width segment mask span slots seed : ℕ) (keys : List ℕ) → List ℕ
fingerprints_of width segment mask span slots seed keys =
    fill (stores (slots_in segment mask span) (fingerprint_of width) (picks_of_keys segment mask span slots seed keys)) (replicate slots 0)
