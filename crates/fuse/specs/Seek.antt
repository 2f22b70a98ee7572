-- Document 01, module 8, on lent scratch: what one attempt and the search over attempts ask. The bucket starts are not among it: they are lent,
-- checked and zeroed, and no attempt looks at them (document 02, wish 1). Assumes nothing.
use Rattle.std.specs.Prelude.{◌≡◌, List, ℕ, ◌≤◌, length}
use Rattle.capacity.specs.Capacity.{max_keys}
use Rattle.layout.specs.Layout.{slot_count_of}
use Rattle.fuse.specs.Attempts.{max_attempts}

-- no more than `max_keys` keys, three lists with an element for each slot, and two with room for each key
pub record CanAttempt (keys lone counts sums positions order : List ℕ) : Type 0 where
  pub few : length keys ≤ max_keys
  pub lone_length : length lone ≡ slot_count_of (length keys)
  pub counts_length : length counts ≡ slot_count_of (length keys)
  pub sums_length : length sums ≡ slot_count_of (length keys)
  pub positions_room : length keys ≤ length positions
  pub order_room : length keys ≤ length order

-- the attempts from `first` to `last`, within what check 2 allows
pub record CanSeek (keys : List ℕ) (first last : ℕ) (lone counts sums positions order : List ℕ) : Type 0 where
  pub some : 1 ≤ first
  pub ordered : first ≤ last
  pub most : last ≤ max_attempts
  pub can_attempt : CanAttempt keys lone counts sums positions order
