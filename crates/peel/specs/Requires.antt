-- What an attempt asks of the layout and of the buffers; `Steps` has what its steps ask. Assumes nothing.
use Rattle.std.specs.Prelude.{◌≡◌, List, ℕ, ◌+◌, ◌-◌, ◌*◌, ◌^◌, ◌≤◌, ◌<◌, length, get_or, replicate}
use Rattle.peel.specs.Buffers.{max_touches}

-- ---- the layout

-- the three numbers cut so many slots into segments: L is a power of two, the mask L - 1, the span a positive multiple of L, and two more
-- segments follow it
pub record Segmented (segment mask span slots : ℕ) : Type 0 where
  pub exponent : ℕ
  pub segments : ℕ
  pub some : 0 < segments
  pub segment_is : segment ≡ 2 ^ exponent
  pub mask_is : mask ≡ 2 ^ exponent - 1
  pub span_is : span ≡ segments * 2 ^ exponent
  pub slots_are : slots ≡ span + 2 * segment
  pub numbered : slots < 2 ^ 32

-- ---- a whole attempt

pub record CanRun (segment mask span : ℕ) (keys lone counts sums order positions : List ℕ) : Type 0 where
  pub layout : Segmented segment mask span (length counts)
  pub few : length keys ≤ max_touches
  pub same_lone : length lone ≡ length counts
  pub counts_clear : counts ≡ replicate (length counts) 0
  pub sums_clear : sums ≡ replicate (length counts) 0
  pub order_room : length keys ≤ length order
  pub positions_room : length keys ≤ length positions

-- ---- the fingerprints: what crate `fill` asks, at every width

pub record CanFill (segment mask span : ℕ) (fingerprints order positions : List ℕ) (n : ℕ) : Type 0 where
  pub layout : Segmented segment mask span (length fingerprints)
  pub in_order : n ≤ length order
  pub in_positions : n ≤ length positions
  pub positions_are : (i : ℕ) → i < n → get_or positions i 0 < 3
