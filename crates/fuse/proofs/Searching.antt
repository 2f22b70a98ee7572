-- One turn of the search: what is to come from attempt i on is the whole search, and each way out of the turn says what was sought.
-- Assumes nothing.
use mathlib.Core.Path.{◌≡◌, sym, ap, ◌∙◌}
use mathlib.Core.Bool.{Bool, true, false, cond}
use mathlib.Core.List.{List}
use Prim.Native.Nat.{ℕ, suc, ◌+◌, ◌-◌, ◌≤◌, ◌<◌}
use native.Mathlib.Omega.{arith}
use borrow.Author.Tests.{eq-eqb, ne_eqb}
use lib.ListN.{length}
use Rattle.capacity.specs.Capacity.{max_keys}
use Rattle.repeats.specs.Repeats.{repeats?}
use Rattle.peel.specs.Buffers.{picks_in}
use Rattle.peel.specs.PicksIn.{picks_in_length}
use Rattle.fuse.specs.Attempts.{picks_at, free}
use Rattle.fuse.specs.Build.{first_free}
use Rattle.fuse.specs.FirstFree.{none_first}
use Rattle.fuse.specs.FreeAttempts.{repeats_not_free}
use Rattle.fuse.specs.Search.{Sought}

-- ---- the attempts i to last

abbrev pub first_of : (ℕ → Bool) → (i last : ℕ) → ℕ
first_of free i last = first_free free i (last + 1 - i)

module _ (free : ℕ → Bool) (i last : ℕ) where
  no_more : last < i → first_of free i last ≡ 0
  unfolding first_free
  no_more over = let z : last + 1 - i ≡ 0 = omega arith in rw z

  one_more : i ≤ last → first_of free i last ≡ cond (free i) i (first_of free (i + 1) last)
  unfolding first_free
  one_more h =
      let z : last + 1 - i ≡ suc (last + 1 - (i + 1)) = omega arith in
      let next : i + 1 ≡ suc i = omega arith in
      rw (z, next)

-- ---- the keys taken tell whether the attempt is free

module _ (keys : List ℕ) (i taken : ℕ) (positions order : List ℕ) (picked : picks_in taken order positions ≡ picks_at keys i) where
  taken_are : length (picks_at keys i) ≡ taken
  taken_are = sym (ap length picked) ∙ picks_in_length taken order positions

  is_free : taken ≡ length keys → free keys i ≡ true
  unfolding free
  is_free all = eq-eqb (length (picks_at keys i)) (length keys) (taken_are ∙ all)

  is_stuck : (taken ≡ length keys → ⊥) → free keys i ≡ false
  unfolding free
  is_stuck some = ne_eqb (length (picks_at keys i)) (length keys) (λ all. some (sym taken_are ∙ all))

-- ---- the ways out of a turn

module _ (keys : List ℕ) (first last i : ℕ) (rest : first_of (free keys) i last ≡ first_of (free keys) first last) where
  pub none_left : (positions order : List ℕ) → last < i → Sought keys first last 0 positions order
  none_left positions order over =
      record { is = sym (no_more (free keys) i last over) ∙ rest; high = omega arith; there = λ some. absurd (omega arith) }

  module _ (within : i ≤ last) (taken : ℕ) (positions order : List ℕ) (picked : picks_in taken order positions ≡ picks_at keys i) where
    pub found_one : taken ≡ length keys → Sought keys first last i positions order
    found_one all =
        let e : free keys i ≡ true = is_free keys i taken positions order picked all in
        record {
          is = sym (ap (λ (b : Bool). cond b i (first_of (free keys) (i + 1) last)) e) ∙ sym (one_more (free keys) i last within) ∙ rest;
          high = within;
          there = λ some. (e, rw all at picked);
        }

    pub go_on : (taken ≡ length keys → ⊥) → first_of (free keys) (i + 1) last ≡ first_of (free keys) first last
    go_on some =
        sym (ap (λ (b : Bool). cond b i (first_of (free keys) (i + 1) last)) (is_stuck keys i taken positions order picked some))
        ∙ sym (one_more (free keys) i last within)
        ∙ rest

pub no_hope : (keys : List ℕ) (first last : ℕ) (positions order : List ℕ) → length keys ≤ max_keys → repeats? keys ≡ true
    → Sought keys first last 0 positions order
no_hope keys first last positions order few e =
    record {
      is = sym (none_first (free keys) first _ (λ j. repeats_not_free keys j few e));
      high = omega arith;
      there = λ some. absurd (omega arith);
    }
