-- A release keeps the number of slots stacked plus slots touched twice or more, and so does taking a key. Assumes nothing.
use Rattle.std.specs.Prelude.{◌≡◌, ℕ, get_or, eqb}
use Rattle.std.proofs.Common.{◌∙◌, arith}
use Rattle.stuck.specs.Stuck.{Slots, slot_at, next}
use Rattle.machine.specs.Machine.{State, change_at, release, take_key}
use Rattle.machine.specs.Stack.{push_length}
use Rattle.machine.specs.Work.{work, many-change}

pub release-work : (h q s : ℕ) (st : State) → work (release h q s st) ≡ work st
unfolding release change_at
release-work h q s st = omega (arith, push_length s st.stack (eqb (get_or st.sums.counts s 0) 2), many-change s st.sums.counts)

pub take-work : (t : Slots) (h p : ℕ) (st : State) → work (take_key t h p st) ≡ work st
unfolding take_key
take-work t h p st = release-work h (next (next p)) (slot_at t (next (next p))) _ ∙ release-work h (next p) (slot_at t (next p)) st
