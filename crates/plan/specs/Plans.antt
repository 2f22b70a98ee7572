-- Ours, over document 01's "Answers" 1 to 6: what a build has settled before any fingerprint is written. A plan carried out with fingerprints of w bits is what the
-- definition of the build answers and leaves, whatever w is. Assumes nothing.
use Rattle.std.specs.Prelude.{◌≡◌, List, [], ℕ, ◌+◌, ◌-◌, ◌≤◌, length, take, replicate, Result, Ok, Err}
use Rattle.answers.specs.declared.Refusal.{Refusal}
use Rattle.answers.specs.Answers.{number_of, refuses, gives, Outcome, outcome}
use Rattle.descriptor.specs.declared.Descriptor.{Descriptor}
use Rattle.arith.specs.Fingerprint.{fingerprint_of}
use Rattle.stuck.specs.Fill.{fill}
use Rattle.machine.specs.Machine.{stores}
use Rattle.peel.specs.Segments.{slots_in}
use Rattle.peel.specs.Buffers.{picks_in}
use Rattle.peel.specs.Requires.{CanFill}
use Rattle.fuse.specs.Memory.{Memory, memory, begins, zeroed}
use Rattle.fuse.specs.Build.{Success, success, search_of}
use Rattle.plan.specs.declared.Plan.{Plan}
use Rattle.plan.specs.declared.Plan.TheVariants.{Found, Stuck}

-- the scratch alone, without fingerprints
abbrev pub scratch : (lone counts sums positions order starts : List ℕ) → Memory
scratch = memory []

-- the scratch of m beside these fingerprints
abbrev pub beside : (fingerprints : List ℕ) → Memory → Memory
beside fingerprints m = memory fingerprints m.lone m.counts m.sums m.positions m.order m.starts

-- what a filter of one width still sees of it: the keys taken
abbrev pub taken : (positions order : List ℕ) → Memory
taken positions order = scratch [] [] [] positions order []

-- as many zeros
abbrev pub zeros : List ℕ → List ℕ
zeros all = replicate (length all) 0

-- what n keys taken fill in with fingerprints of w bits
abbrev pub fill_from : (w : ℕ) → Descriptor → (n : ℕ) (order positions room : List ℕ) → List ℕ
fill_from w d n order positions room =
    fill (stores (slots_in d.segment_length d.segment_length_mask d.segment_count_length) (fingerprint_of w) (picks_in n order positions)) room

abbrev pub CanFillFrom : Descriptor → (n : ℕ) (order positions room : List ℕ) → Type 0
CanFillFrom d n order positions room = CanFill d.segment_length d.segment_length_mask d.segment_count_length room order positions n

-- the plan for n keys carried out with fingerprints of w bits: `fingerprints` is the room for them, `m` the scratch that the plan left
abbrev pub carried_out : (w n : ℕ) → Result Plan Refusal → (fingerprints : List ℕ) → Memory → Outcome Success Memory
carried_out w n (Err why) fingerprints m = outcome (refuses (number_of why)) (beside fingerprints m)
carried_out w n (Ok (Stuck slots)) fingerprints m = outcome (refuses 6) (beside (zeroed slots fingerprints) m)
carried_out w n (Ok (Found built)) fingerprints m =
    outcome (gives (success built.descriptor built.slots built.attempt))
    (memory (begins built.slots (fill_from w built.descriptor n (take (n + 1) m.order) (take n m.positions) (replicate built.slots 0)) fingerprints)
    m.lone m.counts m.sums (zeroed n m.positions) (zeroed (n + 1) m.order) m.starts)

-- the keys taken are there, and the fingerprints have room
pub record Storable (n : ℕ) (d : Descriptor) (slots room : ℕ) (m : Memory) : Type 0 where
  pub in_room : slots ≤ room
  pub in_positions : n ≤ length m.positions
  pub in_order : n + 1 ≤ length m.order
  pub can_fill : CanFillFrom d n (take (n + 1) m.order) (take n m.positions) (replicate slots 0)

-- what carrying it out asks, with room for `room` fingerprints
abbrev pub CanCarryOut : (n room : ℕ) → Result Plan Refusal → Memory → Type 0
CanCarryOut n room (Err why) m = Unit {0}
CanCarryOut n room (Ok (Stuck slots)) m = slots ≤ room
CanCarryOut n room (Ok (Found built)) m = Storable n built.descriptor built.slots room m

-- from the scratch `before` to the scratch `after`; check 2 is of `last`
pub record Planned (keys : List ℕ) (first last room : ℕ) (plan : Result Plan Refusal) (before after : Memory) : Type 0 where
  pub can : CanCarryOut (length keys) room plan after
  pub comes_out : (w : ℕ) (fingerprints : List ℕ) → length fingerprints ≡ room
      → carried_out w (length keys) plan fingerprints after ≡ search_of w keys last first (last + 1 - first) (beside fingerprints before)
