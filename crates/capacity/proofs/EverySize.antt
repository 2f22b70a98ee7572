-- Every size up to the limit has a capacity: one test, computed over all entries of the table. Assumes nothing.
use mathlib.Core.Path.{subst}
use Prim.Native.Nat.{ℕ, ◌≤◌, ◌<◌}
use native.Mathlib.Omega.{arith}
use lib.Dec.{T}
use lib.ListN.{length, get_or}
use Rattle.capacity.specs.Capacity.{max_keys, obeys, Capacity}
use Rattle.capacity.specs.OneCapacity.{EverySize}
use Rattle.capacity.proofs.Rounding.{rounded}
use Rattle.capacity.proofs.EntryTest.{ruled, right, every, every_capacity}
use Rattle.capacity.proofs.Entries.{entries}

all_right : T (every right 0 entries)
unfolding entries right ruled rounded obeys
all_right = tt

pub within : {n : ℕ} → n ≤ max_keys → n < length entries
unfolding entries
within {n} h = omega arith

pub entry : (n : ℕ) → n ≤ max_keys → Capacity n (get_or entries n 0)
entry n h = every_capacity entries all_right n (within h)

pub every-size : EverySize
every-size n h = subst (Capacity n) (entry n h).is (entry n h)
