-- Document 01, "Answers", the scratch: its buffers before and after a call, and when one of them is too short. Assumes nothing.
use Rattle.std.specs.Prelude.{◌≡◌, Bool, ◌||◌, ℕ, ◌+◌, length, ltb}
use Rattle.scratch.specs.declared.Scratch.{Scratch}

-- "lone list A, touch counts A, hash sums A, positions n, order n + 1, bucket starts P": one of them is shorter
abbrev pub short_of : (n slots needed lone counts sums positions order starts : ℕ) → Bool
short_of n slots needed lone counts sums positions order starts =
    ltb lone slots || ltb counts slots || ltb sums slots || ltb positions n || ltb order (n + 1) || ltb starts needed

-- the same six buffers are lent, each as long as it was
pub record SameBuffers (old new : Scratch) : Type 0 where
  pub lone : new.lone.ghost_name ≡ old.lone.ghost_name
  pub counts : new.counts.ghost_name ≡ old.counts.ghost_name
  pub sums : new.sums.ghost_name ≡ old.sums.ghost_name
  pub positions : new.positions.ghost_name ≡ old.positions.ghost_name
  pub order : new.order.ghost_name ≡ old.order.ghost_name
  pub starts : new.starts.ghost_name ≡ old.starts.ghost_name
  pub lone_length : length new.lone.now ≡ length old.lone.now
  pub counts_length : length new.counts.now ≡ length old.counts.now
  pub sums_length : length new.sums.now ≡ length old.sums.now
  pub positions_length : length new.positions.now ≡ length old.positions.now
  pub order_length : length new.order.now ≡ length old.order.now
  pub starts_length : length new.starts.now ≡ length old.starts.now
