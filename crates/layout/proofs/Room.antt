-- What the parts of a layout have room for. Assumes nothing.
use Rattle.std.specs.Prelude.{ℕ, ◌+◌, ◌*◌, ◌/◌, ◌≤◌}
use Rattle.std.proofs.Common.{arith, pow_pos, mul-le-mul_left}
use Rattle.capacity.specs.Capacity.{max_keys, capacity_of}
use Rattle.layout.specs.Layout.{max_slots, exponent_of, segment_length_of, count_of, plain_of, layout_of}
use Rattle.layout.proofs.Fits.{plain_fits, layout_fits, count_small, length_from_four}

pub plain_room : (n : ℕ) → n ≤ max_keys
    → (1 ≤ segment_length_of n) × ((count_of (capacity_of n) (segment_length_of n) + 2) * segment_length_of n ≤ max_slots)
unfolding plain_of
plain_room n h = (pow_pos (exponent_of n), (plain_fits h).small)

-- half of a segment has room at every size, also where no attempt halves
pub halved_room : (n : ℕ) → n ≤ max_keys
    → ((plain_of n).segment_count ≤ max_slots) × (1 ≤ (plain_of n).segment_length / 2)
    × ((2 * (plain_of n).segment_count + 2 + 2) * ((plain_of n).segment_length / 2) ≤ max_slots)
halved_room n h =
    let f = plain_fits h in
    let l = (plain_of n).segment_length in
    let k = (plain_of n).segment_count in
    let twice_half : l / 2 * 2 ≤ l = omega arith in
    (count_small f, omega (arith, length_from_four f.power), omega (arith, mul-le-mul_left (k + 2) twice_half, f.small, f.whole, f.multiple))

pub few_segments : (n attempt : ℕ) → n ≤ max_keys → (layout_of n attempt).segment_count ≤ max_slots
few_segments n attempt h = count_small (layout_fits attempt h)
