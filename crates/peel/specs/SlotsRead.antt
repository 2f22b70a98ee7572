-- The three slots of a hash as the code reads them are those that the key touches, and they lie inside. Assumes nothing.
use Rattle.std.specs.Prelude.{◌≡◌, List, ℕ, zero, suc, ◌^◌, ◌<◌, get_or}
use Rattle.std.proofs.Common.{ap, arith}
use Rattle.arith.specs.Slots.{slots_of}
use Rattle.stuck.specs.Stuck.{slot_at}
use Rattle.stuck.specs.Ring.{slot_below}
use Rattle.peel.specs.Segments.{slots_in}
use Rattle.peel.specs.Requires.{Segmented}
use Rattle.peel.specs.SlotsApart.{slots_apart}

pub slot_read : (segment mask span hash : ℕ) {three : List ℕ} → three ≡ slots_of hash segment mask span → (q : ℕ) → q < 3
    → get_or three q 0 ≡ slot_at (slots_in segment mask span hash) q
slot_read segment mask span hash are zero lt = ap (λ (l : List ℕ). get_or l 0 0) are
slot_read segment mask span hash are (suc zero) lt = ap (λ (l : List ℕ). get_or l 1 0) are
slot_read segment mask span hash are (suc (suc zero)) lt = ap (λ (l : List ℕ). get_or l 2 0) are
slot_read segment mask span hash are (suc (suc (suc q))) lt = absurd (omega arith)

pub slot_inside : {segment mask span slots hash : ℕ} {three : List ℕ} → Segmented segment mask span slots → hash < 2 ^ 64
    → three ≡ slots_of hash segment mask span → (q : ℕ) → q < 3 → get_or three q 0 < slots
slot_inside {segment} {mask} {span} {slots} {hash} layout small are q lt =
    rw (slot_read segment mask span hash are q lt) (slot_below slots (slots_in segment mask span hash) (slots_apart layout hash small) q)
