-- What a filter of w bits did is its plan carried out, in one of three ways, and with the rest of the scratch it is what the definition says. The proof of
-- `packing::carry_out`, at any width, cites these laws. Assumes nothing.
use Rattle.std.specs.Prelude.{◌≡◌, refl, List, [], ◌++◌, ℕ, ◌+◌, ◌-◌, ◌≤◌, length, take, drop, replicate, Result, Ok, Err}
use Rattle.std.proofs.Common.{sym, ap, subst, ◌∙◌, length-take-le}
use Rattle.answers.specs.declared.Refusal.{Refusal}
use Rattle.answers.specs.Answers.{number_of, Answer, refuses, gives, Outcome, outcome}
use Rattle.fuse.specs.Memory.{Memory, memory}
use Rattle.fuse.specs.Build.{Success, success, search_of}
use Rattle.plan.specs.declared.Built.{Built}
use Rattle.plan.specs.declared.Plan.{Plan}
use Rattle.plan.specs.declared.Plan.TheVariants.{Found, Stuck}
use Rattle.plan.specs.Plans.{beside, taken, zeros, CanFillFrom, Storable, carried_out, CanCarryOut, Planned}
use Rattle.plan.specs.Written.{Written}

-- a part that is lent is as long as was asked
pub part : (size : ℕ) (whole : List ℕ) → size ≤ length whole → size ≡ length (take size whole)
part size whole h = sym (length-take-le size whole h)

-- the zeros that take the place of a part
zeros_of_part : (size : ℕ) (all : List ℕ) → size ≤ length all → zeros (take size all) ≡ replicate size 0
zeros_of_part size all h = ap (λ (k : ℕ). replicate k 0) (length-take-le size all h)

module _ (w n : ℕ) (fingerprints positions order : List ℕ) {plan : Result Plan Refusal} (can : CanCarryOut n (length fingerprints) plan (taken positions order)) where
  -- what is known of a plan of this kind
  can_so : {told : Result Plan Refusal} → plan ≡ told → CanCarryOut n (length fingerprints) told (taken positions order)
  can_so is = subst (λ (p : Result Plan Refusal). CanCarryOut n (length fingerprints) p (taken positions order)) is can

  -- ---- the fingerprints stay as they are

  pub left_alone : {why : Refusal} → plan ≡ Err why
      → outcome (refuses (number_of why)) (memory fingerprints [] [] [] positions order []) ≡ carried_out w n plan fingerprints (taken positions order)
  left_alone is = rw is

  -- ---- the first A of them are zeroed

  pub zeros-fit : {slots : ℕ} → plan ≡ Ok (Stuck slots) → slots ≤ length fingerprints
  zeros-fit is = can_so is

  pub zeros_written : {slots : ℕ} → plan ≡ Ok (Stuck slots) → {zeroed : List ℕ} → zeroed ≡ zeros (take slots fingerprints)
      → outcome (refuses 6) (memory (zeroed ++ drop slots fingerprints) [] [] [] positions order []) ≡ carried_out w n plan fingerprints (taken positions order)
  zeros_written {slots} is e = rw (is, e, zeros_of_part slots fingerprints (zeros-fit is))

  -- ---- they are written, and the room of the keys taken is zeroed

  module _ {built : Built} (is : plan ≡ Ok (Found built)) where
    pub storable : Storable n built.descriptor built.slots (length fingerprints) (taken positions order)
    storable = can_so is

    pub can_write : CanFillFrom built.descriptor n (take (n + 1) order) (take n positions) (zeros (take built.slots fingerprints))
    can_write = rw (zeros_of_part built.slots fingerprints storable.in_room) storable.can_fill

    pub keys_written : {written positions' order' : List ℕ}
        → Written w built.descriptor n (take built.slots fingerprints) (take n positions) (take (n + 1) order) written positions' order'
        → outcome (gives (success built.descriptor built.slots built.attempt))
        (memory (written ++ drop built.slots fingerprints) [] [] [] (positions' ++ drop n positions) (order' ++ drop (n + 1) order) [])
        ≡ carried_out w n plan fingerprints (taken positions order)
    keys_written p =
        rw (
          is,
          p.filled,
          p.positions_zeroed,
          p.order_zeroed,
          zeros_of_part built.slots fingerprints storable.in_room,
          zeros_of_part n positions storable.in_positions,
          zeros_of_part (n + 1) order storable.in_order,
        )

-- ---- with the rest of the scratch

-- only the keys taken are looked at
only_taken : (n room : ℕ) (plan : Result Plan Refusal) (m : Memory) → CanCarryOut n room plan m → CanCarryOut n room plan (taken m.positions m.order)
only_taken n room (Err why) m can = can
only_taken n room (Ok (Stuck slots)) m can = can
only_taken n room (Ok (Found built)) m can =
    record { in_room = can.in_room; in_positions = can.in_positions; in_order = can.in_order; can_fill = can.can_fill }

pub can_carry_out : {keys : List ℕ} {first last room : ℕ} {plan : Result Plan Refusal} {before after : Memory} → Planned keys first last room plan before after
    → CanCarryOut (length keys) room plan (taken after.positions after.order)
can_carry_out {keys} {room = room} {plan} {after = after} planned = only_taken (length keys) room plan after planned.can

-- and the rest is left as it is
abbrev besides : Memory → Outcome Success Memory → Outcome Success Memory
besides m o =
    outcome o.answer (memory o.leaves.fingerprints m.lone m.counts m.sums o.leaves.positions o.leaves.order m.starts)

rest_kept : (w n : ℕ) (plan : Result Plan Refusal) (fingerprints : List ℕ) (m : Memory)
    → besides m (carried_out w n plan fingerprints (taken m.positions m.order)) ≡ carried_out w n plan fingerprints m
rest_kept w n (Err why) fingerprints m = refl
rest_kept w n (Ok (Stuck slots)) fingerprints m = refl
rest_kept w n (Ok (Found built)) fingerprints m = refl

pub as_planned : (w : ℕ) {keys : List ℕ} {first last : ℕ} (fingerprints : List ℕ) {plan : Result Plan Refusal} {before after : Memory}
    → Planned keys first last (length fingerprints) plan before after → {answer : Answer Success} {fingerprints' positions' order' : List ℕ}
    → outcome answer (memory fingerprints' [] [] [] positions' order' [])
    ≡ carried_out w (length keys) plan fingerprints (taken after.positions after.order)
    → outcome answer (memory fingerprints' after.lone after.counts after.sums positions' order' after.starts)
    ≡ search_of w keys last first (last + 1 - first) (beside fingerprints before)
as_planned w {keys} fingerprints {plan} {after = after} planned e =
    ap (besides after) e ∙ rest_kept w (length keys) plan fingerprints after ∙ planned.comes_out w fingerprints refl
