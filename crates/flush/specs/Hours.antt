-- Which hours have a key, and which seconds: just those that document 02, wish 3, calls good. From both sides of each border.
-- Assumes nothing.
use Rattle.std.specs.Prelude.{◌≡◌, ◌⊎◌, Bool, not, ℕ, ◌/◌, ◌≤◌, T, ℤ, pos, negsuc, ◌+ℤ◌, ◌*ℤ◌, ◌≤ℤ◌, ◌<ℤ◌}
use Rattle.std.proofs.Math.Path.{refl}
use Rattle.std.proofs.Common.{sym, subst, arith, leb→le, le→leb, ltb→lt, lt→ltb}
use Rattle.std.proofs.Math.Logic.{inl, inr}
use Rattle.std.proofs.Math.Bool.{true, false}
use Rattle.std.specs.Int.Signed.{mag, lt_z, lt_z_no, lt_z_yes, clash_ℤ}
use Rattle.answers.specs.Answers.{Answer, refuses, gives}
use Rattle.answers.specs.Checks.{refuse_if, ◌then◌}
use Rattle.answers.specs.Passed.{never_both, passed_first}
use Rattle.flush.specs.Floor.{modulo}
use Rattle.flush.specs.FlushKey.{seconds_per_hour, hour_of, first_hour, last_hour, hours_held, key_of, key_at_hour, flush_key_of}

pub record Good (hour : ℤ) : Type 0 where
  pub not_early : first_hour ≤ℤ hour
  pub not_late : hour ≤ℤ last_hour

abbrev pub Outside : (hour : ℤ) → Type 0
Outside hour = hour <ℤ first_hour ⊎ last_hour <ℤ hour

-- ---- a test of two whole numbers, and what it says

is_below : (a b : ℤ) → a <ℤ b → lt_z a b ≡ true
is_below a b h = by (lt_z a b) h.lt
  where
    by : (t : Bool) → T t → t ≡ true
    by true h = refl
    by false h = absurd h

pub below : (a b : ℤ) → lt_z a b ≡ true → a <ℤ b
below a b e = lt_z_yes (subst T (sym e) tt)

pub not_below : (a b : ℤ) → lt_z a b ≡ false → b ≤ℤ a
not_below a b e = lt_z_no (subst (λ (t : Bool). T (not t)) (sym e) tt)

is_not_below : (a b : ℤ) → b ≤ℤ a → lt_z a b ≡ false
is_not_below a b h = by (lt_z a b) (λ t. clash_ℤ (lt_z_yes {a = a} {b = b} t) h)
  where
    by : (t : Bool) → (T t → ⊥) → t ≡ false
    by true h = absurd (h tt)
    by false h = refl

-- ---- by the hour

module _ (unit valve : ℕ) (hour : ℤ) where
  pub good_given : Good hour → key_at_hour unit valve hour ≡ gives (key_of unit valve (modulo hour hours_held))
  unfolding key_at_hour
  good_given g = simp (is_not_below hour first_hour g.not_early, is_not_below last_hour hour g.not_late)

  pub given_good : {key : ℕ} → key_at_hour unit valve hour ≡ gives key → Good hour × (key_of unit valve (modulo hour hours_held) ≡ key)
  unfolding key_at_hour
  given_good {key} e =
      let held = gives (key_of unit valve (modulo hour hours_held)) in
      let p = passed_first (lt_z hour first_hour) 12 (refuse_if (lt_z last_hour hour) 12 then held) key e in
      let q = passed_first (lt_z last_hour hour) 12 held key p.1 in
      (record { not_early = not_below hour first_hour p.0; not_late = not_below last_hour hour q.0 }, cc)

  -- the answer by the two tests
  abbrev tested : (early late : Bool) → Answer ℕ
  tested early late = refuse_if early 12 then refuse_if late 12 then gives (key_of unit valve (modulo hour hours_held))

  pub outside_refused : Outside hour → key_at_hour unit valve hour ≡ refuses 12
  unfolding key_at_hour
  outside_refused (inl early) = simp (is_below hour first_hour early)
  outside_refused (inr late) = by (lt_z hour first_hour)
    where
      by : (early : Bool) → tested early (lt_z last_hour hour) ≡ refuses 12
      by true = refl
      by false = simp (is_below last_hour hour late)

  pub refused_outside : {number : ℕ} → key_at_hour unit valve hour ≡ refuses number → (number ≡ 12) × Outside hour
  unfolding key_at_hour
  refused_outside {number} e = by (lt_z hour first_hour) refl (lt_z last_hour hour) refl e
    where
      by : (early : Bool) → lt_z hour first_hour ≡ early → (late : Bool) → lt_z last_hour hour ≡ late → tested early late ≡ refuses number
          → (number ≡ 12) × Outside hour
      by true is-early late t e = (cc, inl (below hour first_hour is-early))
      by false not_early true is-late e = (cc, inr (below last_hour hour is-late))
      by false not_early false not_late e = absurd (never_both (sym e))

-- as many hours are good on either side of zero: `mag` is n both of n and of -(n + 1)
pub good_small : (hour : ℤ) → Good hour → mag hour ≤ mag last_hour
good_small (pos n) g = leb→le n (mag last_hour) g.not_late.le
good_small (negsuc n) g = leb→le n (mag last_hour) g.not_early.le

-- ---- by the second

-- the first second of the first good hour, and the first after the last
abbrev pub first_second : ℤ
first_second = first_hour *ℤ pos seconds_per_hour

abbrev pub end_second : ℤ
end_second = (last_hour +ℤ pos 1) *ℤ pos seconds_per_hour

early_hour : (s : ℤ) → s <ℤ first_second → hour_of s <ℤ first_hour
early_hour (pos n) h = absurd h.lt
early_hour (negsuc n) h = let k = ltb→lt (mag first_second) n h.lt in record { lt = lt→ltb (mag first_hour) (n / seconds_per_hour) (omega arith) }

late_hour : (s : ℤ) → end_second ≤ℤ s → last_hour <ℤ hour_of s
late_hour (pos n) h = let k = leb→le (mag end_second) n h.le in record { lt = lt→ltb (mag last_hour) (n / seconds_per_hour) (omega arith) }
late_hour (negsuc n) h = absurd h.le

good_hour : (s : ℤ) → first_second ≤ℤ s → s <ℤ end_second → Good (hour_of s)
good_hour (pos n) h l =
    let k = ltb→lt n (mag end_second) l.lt in
    record { not_early = record { le = tt }; not_late = record { le = le→leb (n / seconds_per_hour) (mag last_hour) (omega arith) } }
good_hour (negsuc n) h l =
    let k = leb→le n (mag first_second) h.le in
    record { not_early = record { le = le→leb (n / seconds_per_hour) (mag first_hour) (omega arith) }; not_late = record { le = tt } }

module _ (unit valve : ℕ) (seconds : ℤ) where
  pub good_second : first_second ≤ℤ seconds → seconds <ℤ end_second
      → flush_key_of unit valve seconds ≡ gives (key_of unit valve (modulo (hour_of seconds) hours_held))
  unfolding flush_key_of
  good_second h l = good_given unit valve (hour_of seconds) (good_hour seconds h l)

  pub early_second : seconds <ℤ first_second → flush_key_of unit valve seconds ≡ refuses 12
  unfolding flush_key_of
  early_second h = outside_refused unit valve (hour_of seconds) (inl (early_hour seconds h))

  pub late_second : end_second ≤ℤ seconds → flush_key_of unit valve seconds ≡ refuses 12
  unfolding flush_key_of
  late_second h = outside_refused unit valve (hour_of seconds) (inr (late_hour seconds h))
