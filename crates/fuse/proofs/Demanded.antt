-- The third demand follows from the outcome: every outcome is of one of four kinds, and each kind meets the demand. Assumes nothing.
use Rattle.std.specs.Prelude.{◌≡◌, ◌⊎◌, Bool, true, false, cond, List, ◌++◌, ℕ, zero, suc, ◌+◌, ◌-◌, ◌≤◌, length, take}
use Rattle.std.proofs.Math.Path.{refl}
use Rattle.std.proofs.Common.{ap, subst, ◌∙◌, inl, inr, arith, take_at}
use Rattle.answers.specs.Answers.{Answer, refuses, gives, Outcome}
use Rattle.answers.specs.Never.{never}
use Rattle.answers.specs.Checks.{Done, done, unless_refused}
use Rattle.capacity.specs.Capacity.{max_keys}
use Rattle.layout.specs.Layout.{slot_count_of}
use Rattle.repeats.specs.Repeats.{repeats?, Twice}
use Rattle.repeats.specs.Laws.{repeats_iff}
use Rattle.stuck.specs.FirstFree.{First, AllStuck}
use Rattle.stuck.proofs.FirstOrAll.{first_same, first_not_all}
use Rattle.fuse.specs.Attempts.{descriptor_at, slots_at, free, fingerprints_at}
use Rattle.fuse.specs.Memory.{Memory, checked}
use Rattle.fuse.proofs.Checked.{up_to_four, passed}
use Rattle.fuse.specs.Build.{Success, success, found_outcome, repeated_outcome, search_of}
use Rattle.fuse.specs.FirstFree.{FirstFree, NoneFree, first_is}
use Rattle.fuse.specs.FreeAttempts.{free_none_stuck, not_free_stuck, repeats_not_free, attempt_fingerprints_length, attempt_accepts, listed_key_yes}
use Rattle.fuse.specs.Demand.{Demand3}
use Rattle.fuse.specs.Leaves.{Leaves}
use Rattle.fuse.proofs.LeftAsSaid.{left_as_said}

-- ---- free attempts are those without a stuck set

module _ (keys : List ℕ) (first last : ℕ) (few : length keys ≤ max_keys) where
  abbrev count : ℕ
  count = last + 1 - first

  first_of : {k : ℕ} → FirstFree (free keys) first count k → First (slots_at keys) first last k
  first_of {k} f =
      record {
        low = f.low;
        high = omega (arith, f.high, f.low);
        free = free_none_stuck keys k few f.is;
        before = λ j low lt. not_free_stuck keys j few (f.before j low lt);
      }

  all_of : NoneFree (free keys) first count → AllStuck (slots_at keys) first last
  all_of none j low high = not_free_stuck keys j few (none j low (omega arith))

  repeated_all : repeats? keys ≡ true → AllStuck (slots_at keys) first last
  repeated_all r j low high = not_free_stuck keys j few (repeats_not_free keys j few r)

-- ---- the four kinds of outcome

data Kind (w : ℕ) (keys : List ℕ) (first last : ℕ) (checks : Answer Done) : Answer Success → List ℕ → Type 0 where
  early : {f : List ℕ} (k : ℕ) → checks ≡ refuses k → k ≤ 4 → Kind w keys first last checks (refuses k) f
  repeated : {f : List ℕ} → checks ≡ gives done → length keys ≤ max_keys → repeats? keys ≡ true → Kind w keys first last checks (refuses 5) f
  none : {f : List ℕ} → checks ≡ gives done → length keys ≤ max_keys → repeats? keys ≡ false → NoneFree (free keys) first (last + 1 - first)
      → Kind w keys first last checks (refuses 6) f
  some : {f : List ℕ} (k : ℕ) → checks ≡ gives done → length keys ≤ max_keys → repeats? keys ≡ false → FirstFree (free keys) first (last + 1 - first) k
      → take (slot_count_of (length keys)) f ≡ fingerprints_at w keys k → Kind w keys first last checks (gives (success (descriptor_at (length keys) k) (slot_count_of (length keys)) k)) f

not_twice : (keys : List ℕ) → repeats? keys ≡ false → Twice keys → ⊥
not_twice keys e w = let t = (repeats_iff keys).1 w in never (cc)

module _ (w : ℕ) (keys : List ℕ) (first last : ℕ) (m : Memory) where
  abbrev checks : Answer Done
  checks = checked (length keys) last m

  meets : (a : Answer Success) (f : List ℕ) → Kind w keys first last checks a f → Demand3 w keys first last m a f
  meets a f (early k e small) =
      record {
        names_the_first = λ s q. never (cc);
        stops_at_the_first = λ i q g. never (cc);
        accepted = λ s q. never (cc);
        every_key_yes = λ s q j lt. never (cc);
        five = (λ q. absurd (let z : k ≡ 5 = cc in omega arith), λ q. let p = q.0 in never (cc));
        six = (λ q. absurd (let z : k ≡ 6 = cc in omega arith), λ q. let p = q.0 in never (cc));
      }
  meets a f (repeated e few r) =
      record {
        names_the_first = λ s q. never (cc);
        stops_at_the_first = λ i q g. absurd (first_not_all (slots_at keys) first last i g (repeated_all keys first last few r));
        accepted = λ s q. never (cc);
        every_key_yes = λ s q j lt. never (cc);
        five = (λ q. (e, (repeats_iff keys).0 r), λ q. refl);
        six = (λ q. absurd (let z : ◌≡◌ {A = ℕ} 5 6 = cc in omega arith), λ q. absurd (q.1.0 ((repeats_iff keys).0 r)));
      }
  meets a f (none e few r free-none) =
      record {
        names_the_first = λ s q. never (cc);
        stops_at_the_first = λ i q g. absurd (first_not_all (slots_at keys) first last i g (all_of keys first last few free-none));
        accepted = λ s q. never (cc);
        every_key_yes = λ s q j lt. never (cc);
        five = (λ q. absurd (let z : ◌≡◌ {A = ℕ} 6 5 = cc in omega arith), λ q. absurd (not_twice keys r q.1));
        six = (λ q. (e, (not_twice keys r, all_of keys first last few free-none)), λ q. refl);
      }
  meets a f (some k e few r g filled) =
      record {
        names_the_first = λ s q.
            let z : success (descriptor_at (length keys) k) (slot_count_of (length keys)) k ≡ s = cc in
            subst (λ (x : Success). First (slots_at keys) first last x.attempt) z (first_of keys first last few g);
        stops_at_the_first = λ i q other.
            ap (λ (x : ℕ). gives (success (descriptor_at (length keys) x) (slot_count_of (length keys)) x))
            (first_same (slots_at keys) first last k i (first_of keys first last few g) other);
        accepted = λ s q.
            let z : success (descriptor_at (length keys) k) (slot_count_of (length keys)) k ≡ s = cc in
            rw (← z, filled) (attempt_accepts w keys k few);
        every_key_yes = λ s q j lt.
            let z : success (descriptor_at (length keys) k) (slot_count_of (length keys)) k ≡ s = cc in
            rw (← z, filled) (listed_key_yes w keys k few g.is j lt);
        five = (λ q. never (cc), λ q. absurd (not_twice keys r q.1));
        six = (λ q. never (cc), λ q. absurd (first_not_all (slots_at keys) first last k (first_of keys first last few g) q.1.1));
      }

  -- ---- every outcome of the definition is of one kind

  front : (i : ℕ) (rest : List ℕ) → take (slot_count_of (length keys)) (fingerprints_at w keys i ++ rest) ≡ fingerprints_at w keys i
  front i rest = take_at (fingerprints_at w keys i) rest (slot_count_of (length keys)) (attempt_fingerprints_length w keys i)

  module _ (allowed : 1 ≤ last → (1 ≤ first) × (first ≤ last)) where
    found_kind : (found : ℕ) → checks ≡ gives done → length keys ≤ max_keys → 1 ≤ first → repeats? keys ≡ false
        → FirstFree (free keys) first (last + 1 - first) found ⊎ ((found ≡ 0) × NoneFree (free keys) first (last + 1 - first))
        → let o = found_outcome w keys found m in Kind w keys first last checks o.answer o.leaves.fingerprints
    found_kind zero e few p r (inl g) = absurd (omega (arith, g.low))
    found_kind zero e few p r (inr n) = none e few r n.1
    found_kind (suc k) e few p r (inl g) = some (suc k) e few r g (front (suc k) _)
    found_kind (suc k) e few p r (inr n) = absurd (omega (arith, n.0))

    searched_kind : (b : Bool) (found : ℕ) → repeats? keys ≡ b → checks ≡ gives done → length keys ≤ max_keys → 1 ≤ first
        → FirstFree (free keys) first (last + 1 - first) found ⊎ ((found ≡ 0) × NoneFree (free keys) first (last + 1 - first))
        → let o = cond b (repeated_outcome keys m) (found_outcome w keys found m) in Kind w keys first last checks o.answer o.leaves.fingerprints
    searched_kind true found r e few p g = repeated e few r
    searched_kind false found r e few p g = found_kind found e few p r g

    kind_of : (c : Answer Done) (o : Outcome Success Memory) → checks ≡ c → (checks ≡ gives done → Kind w keys first last checks o.answer o.leaves.fingerprints)
        → let u = unless_refused c m o in Kind w keys first last checks u.answer u.leaves.fingerprints
    kind_of (refuses k) o e rest = early k e (up_to_four (length keys) last _ _ _ _ _ _ _ k e)
    kind_of (gives done) o e rest = rest e

    -- the attempts are `first` to `last`
    pub demand_met : (o : Outcome Success Memory) → o ≡ search_of w keys last first (last + 1 - first) m → Demand3 w keys first last m o.answer o.leaves.fingerprints
    unfolding search_of
    demand_met o e =
        rw e
        (meets _ _
        (kind_of checks _ refl
        (λ z.
        let p = passed (length keys) last _ _ _ _ _ _ _ z in
        let from = (allowed p.some).0 in
        searched_kind (repeats? keys) _ refl z p.few_keys from (first_is (free keys) first (last + 1 - first) from))))

    -- so many attempts: the outcome of the definition, and with it the demand and what is left
    pub outcome_met : (count : ℕ) → last + 1 - first ≡ count → (o : Outcome Success Memory) → o ≡ search_of w keys last first (last + 1 - first) m
        → (o ≡ search_of w keys last first count m) × (Demand3 w keys first last m o.answer o.leaves.fingerprints × Leaves w keys m o.answer o.leaves)
    outcome_met _ many o e = (
      e ∙ ap (λ (k : ℕ). search_of w keys last first k m) many,
      (demand_met o e, left_as_said w keys m last first (last + 1 - first) o e),
    )
