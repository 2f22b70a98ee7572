-- The machine as a loop runs it: what holds each time round, and what one round does. For the proofs of code. Assumes nothing.
use Rattle.std.specs.Prelude.{◌≡◌, ◌≢◌, Bool, true, false, T, eqb}
use Rattle.std.proofs.Math.Path.{refl, sym, ap}
use Rattle.std.proofs.Common.{◌∙◌, subst₂, arith, length-append, eqb→eq}
use mathlib.Core.List.{List, [], ◌∷◌, ◌++◌, map, append-nil}
use Prim.Native.Nat.{ℕ, zero, suc, ◌+◌, ◌≤◌, ◌<◌}
use Rattle.std.proofs.Math.ListN.{length, get_or}
use Rattle.std.proofs.Math.Seq.{append_snoc}
use Rattle.std.proofs.Math.Facts.{yes_eqb}
use Rattle.stuck.specs.Stuck.{Slots, KeySet, slot_at, without, every_key, Pick, pick}
use Rattle.stuck.specs.Ring.{Apart}
use Rattle.machine.specs.Machine.{Sums, sums_of, State, take_key, at_slot, pop, takes, scan, picks_from, picks_of}
use Rattle.machine.specs.KnownOf.{Sole}
use Rattle.machine.specs.Work.{many, scan-work}
use Rattle.machine.proofs.Work.{take-work}
use Rattle.machine.specs.Standing.{Standing}
use Rattle.machine.proofs.Standing.{dropped, its_key, hash_is, position_is, slots_touched, standing_after}
use Rattle.machine.specs.Start.{standing_start}
use Rattle.machine.proofs.Picks.{picks_at_most}

at_once : (slots : ℕ → Slots) (b : Bool) (s : ℕ) (st : State) (again : State → List Pick) → T b
    → let h = get_or st.sums.hashes s 0 in let p = get_or st.sums.positions s 0 in
    at_slot slots b s st again ≡ pick h p ∷ again (take_key (slots h) h p st)
unfolding at_slot
at_once slots true s st again t = refl
at_once slots false s st again t = absurd t

at_else : (slots : ℕ → Slots) (b : Bool) (s : ℕ) (st : State) (again : State → List Pick) → ¬ T b → at_slot slots b s st again ≡ again st
unfolding at_slot
at_else slots true s st again n = absurd (n tt)
at_else slots false s st again n = refl

module _ (slots : ℕ → Slots) (hs : List ℕ) (n : ℕ) where
  -- `so_far` was taken, and the machine stands at the sums a and the stack
  pub record Going (so_far : List Pick) (a : Sums) (stack : List ℕ) : Type 0 where
    pub marks : KeySet
    pub standing : Standing slots hs n marks a stack
    pub turns : ℕ
    pub enough : length stack + many a.counts ≤ turns
    pub room : length stack + many a.counts ≤ n
    pub rest : so_far ++ takes slots turns (record { sums = a; stack = stack }) ≡ picks_of slots n hs

  -- `so_far`, and what the machine takes from there on, is all that it takes
  abbrev Rest : List Pick → Sums → List ℕ → ℕ → Type 0
  Rest so_far a stack turns = so_far ++ takes slots turns (record { sums = a; stack = stack }) ≡ picks_of slots n hs

  pub going_start : let a = sums_of slots n hs in Going [] a (scan 0 a.counts [])
  unfolding picks_from
  going_start =
      let a = sums_of slots n hs in
      let k = standing_start slots hs n in
      record {
        marks = every_key (map slots hs);
        standing = k;
        turns = length a.counts;
        enough = omega (arith, scan-work 0 a.counts []);
        room = omega (arith, scan-work 0 a.counts [], k.long.in_counts);
        rest = refl;
      }

  -- the stack is empty: all was taken that is
  pub going_end : (so_far : List Pick) (a : Sums) → Going so_far a [] → so_far ≡ picks_of slots n hs
  unfolding takes pop
  going_end so_far a g = sym (append-nil so_far) ∙ ap (λ (l : List Pick). so_far ++ l) (sym (none g.turns)) ∙ g.rest
    where
      none : (turns : ℕ) → takes slots turns (record { sums = a; stack = [] }) ≡ []
      none zero = refl
      none (suc turns) = refl

  -- a popped slot that is not touched once
  pub going_skip : (so_far : List Pick) (a : Sums) (s : ℕ) (stack : List ℕ) → Going so_far a (s ∷ stack) → get_or a.counts s 0 ≢ 1 → Going so_far a stack
  unfolding takes pop
  going_skip so_far a s stack g ne = by g.turns g.enough g.rest
    where
      by : (turns : ℕ) → length (s ∷ stack) + many a.counts ≤ turns → Rest so_far a (s ∷ stack) turns → Going so_far a stack
      by zero le e = absurd (omega arith)
      by (suc turns) le e =
          record {
            marks = g.marks;
            standing = dropped slots hs n g.marks a s stack g.standing ne;
            turns = turns;
            enough = omega arith;
            room = omega (arith, g.room);
            rest = ap (λ (l : List Pick). so_far ++ l) (sym step) ∙ e;
          }
        where
          step : takes slots (suc turns) (record { sums = a; stack = s ∷ stack }) ≡ takes slots turns (record { sums = a; stack = stack })
          step = at_else slots (eqb (get_or a.counts s 0) 1) s (record { sums = a; stack = stack }) (λ x. takes slots turns x) (λ t. ne (eqb→eq _ _ t))

  -- a popped slot that is touched once: its key, by its hash h and position p
  pub record Took (so_far : List Pick) (a : Sums) (stack : List ℕ) (h p : ℕ) : Type 0 where
    pub who : ℕ
    pub who_low : who < length hs
    pub hash_is : h ≡ get_or hs who 0
    pub small : p < 3
    pub apart : Apart n (slots h)
    pub more : length so_far < length hs
    pub touched : (q : ℕ) → 1 ≤ get_or a.counts (slot_at (slots h) q) 0
    pub then : let st = take_key (slots h) h p (record { sums = a; stack = stack }) in Going (so_far ++ (pick h p ∷ [])) st.sums st.stack

  pub going_take : (so_far : List Pick) (a : Sums) (s : ℕ) (stack : List ℕ) → ((i : ℕ) → i < length hs → Apart n (slots (get_or hs i 0)))
      → Going so_far a (s ∷ stack) → get_or a.counts s 0 ≡ 1 → Took so_far a stack (get_or a.hashes s 0) (get_or a.positions s 0)
  unfolding takes pop
  going_take so_far a s stack all_apart g one = by g.turns g.enough g.rest
    where
      h : ℕ
      h = get_or a.hashes s 0

      p : ℕ
      p = get_or a.positions s 0

      st : State
      st = record { sums = a; stack = stack }

      after : State
      after = take_key (slots h) h p st

      key : Sole slots hs g.marks s
      key = its_key slots hs n all_apart g.marks a s stack g.standing one

      is_hash : h ≡ get_or hs key.i 0
      is_hash = hash_is slots hs n all_apart g.marks a s stack g.standing one

      is_position : p ≡ key.place.position
      is_position = position_is slots hs n all_apart g.marks a s stack g.standing one

      by : (turns : ℕ) → length (s ∷ stack) + many a.counts ≤ turns → Rest so_far a (s ∷ stack) turns → Took so_far a stack h p
      by zero le e = absurd (omega arith)
      by (suc turns) le e =
          record {
            who = key.i;
            who_low = key.low;
            hash_is = is_hash;
            small = rw is_position key.place.small;
            apart = rw is_hash (all_apart key.i key.low);
            more = omega (arith, picks_at_most slots hs n all_apart, ap length parts, length-append so_far (pick h p ∷ takes slots turns after));
            touched = λ q. rw is_hash (slots_touched slots hs n all_apart g.marks a s stack g.standing one q);
            then = record {
              marks = without g.marks key.i;
              standing = subst₂ (λ (x y : ℕ). let next = take_key (slots x) x y st in Standing slots hs n (without g.marks key.i) next.sums next.stack)
                  (sym is_hash) (sym is_position) (standing_after slots hs n all_apart g.marks a s stack g.standing one);
              turns = turns;
              enough = omega (arith, take-work (slots h) h p st);
              room = omega (arith, take-work (slots h) h p st, g.room);
              rest = append_snoc so_far (pick h p) _ ∙ parts;
            };
          }
        where
          step : takes slots (suc turns) (record { sums = a; stack = s ∷ stack }) ≡ pick h p ∷ takes slots turns after
          step = at_once slots (eqb (get_or a.counts s 0) 1) s st (λ x. takes slots turns x) (yes_eqb one)

          parts : so_far ++ (pick h p ∷ takes slots turns after) ≡ picks_of slots n hs
          parts = ap (λ (l : List Pick). so_far ++ l) (sym step) ∙ e
