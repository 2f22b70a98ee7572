-- Buffers of the same lengths, each pair counted in elements: what the checks of lent room go by. Definition only. Assumes nothing.
use Rattle.std.specs.Prelude.{◌≡◌, length}
use Rattle.fuse.specs.Memory.{Memory}

pub record SameLengths (m m' : Memory) : Type 0 where
  pub of_fingerprints : length m.fingerprints ≡ length m'.fingerprints
  pub of_lone : length m.lone ≡ length m'.lone
  pub of_counts : length m.counts ≡ length m'.counts
  pub of_sums : length m.sums ≡ length m'.sums
  pub of_positions : length m.positions ≡ length m'.positions
  pub of_order : length m.order ≡ length m'.order
  pub of_starts : length m.starts ≡ length m'.starts
