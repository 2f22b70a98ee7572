-- In any list some number of keys sticks: those that the plain run leaves. Assumes nothing.
use Rattle.std.specs.Prelude.{List, ℕ, ◌-◌, length}
use Rattle.stuck.specs.Stuck.{Slots}
use Rattle.stuck.specs.Plain.{plain}
use Rattle.stuck.specs.HowMany.{Sticks, left_sticks}
use Rattle.stuck.proofs.PlainComplete.{plain_complete}

pub how_many : (keys : List Slots) → (k : ℕ) × Sticks keys k
how_many keys = (length keys - length (plain keys).picks, left_sticks (plain_complete keys))
