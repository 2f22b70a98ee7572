-- What the part of a filter of w bits promises that stores the keys taken, on buffers of exactly the needed lengths: the fingerprints filled in, and the room
-- that the keys took zeroed. Assumes nothing.
use Rattle.std.specs.Prelude.{◌≡◌, List, ℕ}
use Rattle.descriptor.specs.declared.Descriptor.{Descriptor}
use Rattle.plan.specs.Plans.{zeros, fill_from}

pub record Written (w : ℕ) (d : Descriptor) (n : ℕ) (fingerprints positions order fingerprints' positions' order' : List ℕ) : Type 0 where
  pub filled : fingerprints' ≡ fill_from w d n order positions (zeros fingerprints)
  pub positions_zeroed : positions' ≡ zeros positions
  pub order_zeroed : order' ≡ zeros order
