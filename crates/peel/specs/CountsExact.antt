-- The packed counts are exact: where the buffers hold the sums of some hashes, each slot's count is the number of keys that touch it. That is
-- at most the number of keys, and 16 bits hold it with the positions up to `max_touches`: neither 64 touches wrap, nor as many as keys are allowed. Assumes nothing.
use Rattle.std.specs.Prelude.{◌≡◌, List, map, ℕ, ◌+◌, ◌*◌, ◌/◌, ◌^◌, ◌≤◌, ◌<◌, length}
use Rattle.std.proofs.Math.Path.{sym, ap}
use Rattle.std.proofs.Common.{◌∙◌, arith}
use Rattle.std.proofs.Math.ListN.{get_or, get_or-map}
use Rattle.stuck.specs.Stuck.{Slots, every_key}
use Rattle.stuck.specs.TouchCount.{touch_count}
use Rattle.machine.specs.Machine.{Sums, sums_of}
use Rattle.machine.specs.KnownOf.{known_count, touching_is}
use Rattle.machine.specs.Start.{sums_known}
use Rattle.machine.specs.SumsBounded.{count_at_most}
use Rattle.peel.specs.Buffers.{max_touches, counts_in, sums_in}

pub count_at : (counts : List ℕ) (slot : ℕ) → get_or (counts_in counts) slot 0 ≡ get_or counts slot 0 / 4
count_at counts slot = get_or-map (λ (packed : ℕ). packed / 4) counts slot 0

module _ (slots : ℕ → Slots) (n : ℕ) (hashes counts sums : List ℕ) (are : sums_in counts sums ≡ sums_of slots n hashes) (slot : ℕ) where
  count_is : get_or counts slot 0 / 4 ≡ get_or (sums_of slots n hashes).counts slot 0
  unfolding sums_in
  count_is = sym (count_at counts slot) ∙ ap (λ (a : Sums). get_or a.counts slot 0) are

  -- the number of keys that touch the slot
  pub counts_exact : slot < n → get_or counts slot 0 / 4 ≡ touch_count (map slots hashes) (every_key (map slots hashes)) slot
  counts_exact lt =
      let keys = every_key (map slots hashes) in
      count_is ∙ known_count slots hashes keys slot _ (sums_known slots hashes n slot lt) ∙ touching_is slots hashes keys slot

  -- no more than there are
  pub counts_at_most : get_or counts slot 0 / 4 ≤ length hashes
  counts_at_most = rw count_is (count_at_most slots n hashes slot)

  -- with any positions, in 16 bits
  pub counts_fit : length hashes ≤ max_touches → get_or counts slot 0 / 4 * 4 + 3 < 2 ^ 16
  counts_fit few = omega (arith, counts_at_most)
