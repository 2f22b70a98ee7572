-- From buffers of exactly the needed lengths to all that was lent: the needed parts can be planned on, and put back before what lies beyond they are as
-- planned; a refusal by checks 1 to 4 is a plan, too. Assumes nothing.
use Rattle.std.specs.Prelude.{Result, Ok, Err, IsErrAnd}
use Rattle.std.proofs.Common.{◌≡◌, refl, sym, ◌∙◌, List, ℕ, ◌+◌, ◌-◌, ◌≤◌, arith, length, take, length-take-le}
use Rattle.answers.specs.declared.Refusal.{Refusal}
use Rattle.answers.specs.Answers.{number_of, Answer, refuses, gives}
use Rattle.answers.specs.Checks.{Done, done, unless_refused}
use Rattle.layout.specs.Layout.{slot_count_of, bucket_starts_of}
use Rattle.fuse.specs.Attempts.{free}
use Rattle.fuse.specs.Memory.{Memory, checks_of}
use Rattle.fuse.proofs.Checked.{Passed, passed}
use Rattle.fuse.specs.Build.{first_free, search_of}
use Rattle.plan.specs.declared.Plan.{Plan}
use Rattle.plan.specs.declared.Plan.TheVariants.{Found, Stuck}
use Rattle.plan.specs.Plans.{beside, carried_out, CanCarryOut, Planned}
use Rattle.plan.specs.Parts.{CanCut, CanPlan, put_back, end_outcome, Ended}

-- what is carried out in more room
more_room : (n room : ℕ) (plan : Result Plan Refusal) (m : Memory) → slot_count_of n ≤ room → CanCarryOut n (slot_count_of n) plan m → CanCarryOut n room plan m
more_room n room (Err why) m h can = tt
more_room n room (Ok (Stuck slots)) m h can = omega arith
more_room n room (Ok (Found built)) m h can =
    record {
      in_room = omega (arith, can.in_room);
      in_positions = can.in_positions;
      in_order = can.in_order;
      can_fill = can.can_fill;
    }

-- the fingerprints carried out with are the ones given, not those of the memory
same_beside : (w n : ℕ) (plan : Result Plan Refusal) (f g : List ℕ) (m : Memory) → carried_out w n plan f (beside g m) ≡ carried_out w n plan f m
same_beside w n (Err why) f g m = refl
same_beside w n (Ok (Stuck slots)) f g m = refl
same_beside w n (Ok (Found built)) f g m = refl

-- the parts can be planned on; `slots` and `starts` are as the code computed them
pub parts_can_plan : {keys : List ℕ} {first last : ℕ} {m : Memory} → CanCut keys first last m → {slots starts : ℕ}
    → slots ≡ slot_count_of (length keys) → starts ≡ bucket_starts_of (length keys)
    → CanPlan keys first last slots (take slots m.lone) (take slots m.counts) (take slots m.sums) (take (length keys) m.positions)
    (take (length keys + 1) m.order) (take starts m.starts)
parts_can_plan {keys} {m = m} can slots_are starts_are =
    let slots = slot_count_of (length keys) in
    let positions_length = length-take-le (length keys) m.positions can.in_positions in
    let order_length = length-take-le (length keys + 1) m.order can.in_order in
    rw (slots_are, starts_are)
    (record {
      can_seek =
          record {
            some = can.some;
            ordered = can.ordered;
            most = can.most;
            can_attempt =
                record {
                  few = can.few;
                  lone_length = length-take-le slots m.lone can.in_lone;
                  counts_length = length-take-le slots m.counts can.in_counts;
                  sums_length = length-take-le slots m.sums can.in_sums;
                  positions_room = omega (arith, positions_length);
                  order_room = omega (arith, order_length);
                };
          };
      slots_are = refl;
      positions_length = positions_length;
      order_length = order_length;
      starts_length = length-take-le (bucket_starts_of (length keys)) m.starts can.in_starts;
    })

module _ (keys : List ℕ) (first last room : ℕ) (before : Memory) where
  abbrev n : ℕ
  n = length keys

  abbrev checks : Answer Done
  checks =
      checks_of n last room (length before.lone) (length before.counts) (length before.sums) (length before.positions) (length before.order)
      (length before.starts)

  decided : {told : Answer Done} → checks ≡ told → (w : ℕ) (f : List ℕ) → length f ≡ room
      → search_of w keys last first (last + 1 - first) (beside f before)
      ≡ unless_refused told (beside f before) (end_outcome w keys (first_free (free keys) first (last + 1 - first)) (beside f before))
  unfolding search_of
  decided e w f is = rw (is, e)

  refused : (why : Refusal) → checks ≡ refuses (number_of why) → Planned keys first last room (Err why) before before
  refused why e = record { can = tt; comes_out = λ w f is. sym (decided e w f is) }

  -- the refusal of a check is the plan's
  pub refused_so : (plan : Result Plan Refusal) (why : Refusal) → IsErrAnd plan (λ (told : Refusal). told ≡ why) → refuses (number_of why) ≡ checks
      → Planned keys first last room plan before before
  refused_so (Ok plan) why is e = absurd is
  refused_so (Err told) why is e = refused told (rw is (sym e))

  module _ (good : checks ≡ gives done) where
    abbrev fit : Passed n last room (length before.lone) (length before.counts) (length before.sums) (length before.positions)
        (length before.order) (length before.starts)
    fit = passed n last room _ _ _ _ _ _ good

    -- what is known of `first` may be asked where `last` is some attempt
    pub can_cut : (1 ≤ last → (1 ≤ first) × (first ≤ last)) → CanCut keys first last before
    can_cut allowed =
        let from = allowed fit.some in
        record {
          few = fit.few_keys;
          some = from.0;
          ordered = from.1;
          most = fit.most;
          in_lone = fit.in_lone;
          in_counts = fit.in_counts;
          in_sums = fit.in_sums;
          in_positions = fit.in_positions;
          in_order = fit.in_order;
          in_starts = fit.in_starts;
        }

    pub planned : {slots starts : ℕ} → slots ≡ slot_count_of n → starts ≡ bucket_starts_of n → {plan : Result Plan Refusal} {parts : Memory}
        → Ended keys first last plan parts → Planned keys first last room plan before (put_back slots n starts parts before)
    planned slots_are starts_are {plan} {parts} ended =
        rw (slots_are, starts_are)
        (record {
          can = more_room n room plan _ fit.in_fingerprints (ended.can before);
          comes_out = λ w f is.
              sym (same_beside w n plan f f _) ∙ ended.ends w (beside f before) ∙ sym (decided good w f is);
        })
