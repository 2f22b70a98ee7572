-- How many keys of a set touch a slot: one exactly where a key touches it alone. Assumes nothing.
use Rattle.std.specs.Prelude.{◌≡◌, Bool, List, ℕ, length}
use Rattle.std.proofs.Common.{subst}
use native.Mathlib.Omega.{arith}
use Rattle.std.proofs.Math.Decide.{ℕ_discrete}
use Rattle.std.proofs.Math.Dec.{T}
use Rattle.stuck.specs.Total.{bit_yes, count, count-without, none_counted, counted_some}
use Rattle.stuck.specs.Stuck.{Slots, KeySet, key, nowhere, touches, Has, without, Alone}
use Rattle.stuck.specs.Sets.{has-lt, without_within, without_self, without_other}

-- how many keys of the set touch slot s
unfoldable pub touch_count : List Slots → KeySet → ℕ → ℕ
touch_count keys m s = count (λ (t : Slots). touches t s) m keys

module _ (keys : List Slots) (m : KeySet) (fits : length m ≡ length keys) (i s : ℕ) where
  abbrev test : Slots → Bool
  test t = touches t s

  pub count_of_alone : Alone keys m i s → touch_count keys m s ≡ 1
  unfolding touch_count
  count_of_alone al =
      omega (
        arith,
        count-without test m keys i nowhere al.has (omega (arith, has-lt m i al.has)),
        bit_yes (test (key keys i)) al.touch,
        none_counted test (without m i) keys nowhere none_else,
      )
    where
      none_else : (j : ℕ) → Has (without m i) j → ¬ T (touches (key keys j) s)
      none_else j h t = without_self m i (subst (λ (k : ℕ). Has (without m i) k) (al.only j (without_within m i j h) t) h)

  pub alone_of_count : Has m i → T (touches (key keys i) s) → touch_count keys m s ≡ 1 → Alone keys m i s
  unfolding touch_count
  alone_of_count h t e = record { has = h; touch = t; only = λ j hj tj. by j hj tj (ℕ_discrete j i) }
    where
      rest : count test (without m i) keys ≡ 0
      rest = omega (arith, count-without test m keys i nowhere h (omega (arith, has-lt m i h)), bit_yes (test (key keys i)) t)

      by : (j : ℕ) → Has m j → T (touches (key keys j) s) → Dec (j ≡ i) → j ≡ i
      by j hj tj (yes e) = e
      by j hj tj (no ne) =
          absurd (omega (arith, rest, counted_some test (without m i) keys j nowhere (without_other m i j ne hj) (omega (arith, has-lt m j hj)) tj))
