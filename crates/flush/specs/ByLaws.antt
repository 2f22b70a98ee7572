-- The flush key by the laws of the floor and of the remainder alone: what `flush_key_of` answers, said without `floor_div` and `modulo`.
-- Assumes nothing.
use Rattle.std.specs.Prelude.{◌≡◌, ℕ, ℤ}
use Rattle.std.proofs.Common.{sym, subst, ◌∙◌, arith}
use Rattle.std.proofs.Math.Path.{ap}
use Rattle.answers.specs.Answers.{refuses, gives}
use Rattle.flush.specs.Floor.{modulo, IsFloor, IsModulo}
use Rattle.flush.specs.FloorLaws.{is_floor, only_floor, is_modulo, only_modulo}
use Rattle.flush.specs.FlushKey.{seconds_per_hour, hour_of, hours_held, key_of, flush_key_of}
use Rattle.flush.specs.Hours.{Good, Outside, good_given, given_good, outside_refused, refused_outside}

-- the flush has this key
pub record KeyOfFlush (unit valve : ℕ) (seconds : ℤ) (key : ℕ) : Type 0 where
  pub hour : ℤ
  pub is_hour : IsFloor seconds seconds_per_hour hour
  pub good : Good hour
  pub held : ℕ
  pub is_held : IsModulo hour hours_held held
  pub is_key : key_of unit valve held ≡ key

-- the flush has none
pub record NoKey (seconds : ℤ) : Type 0 where
  pub hour : ℤ
  pub is_hour : IsFloor seconds seconds_per_hour hour
  pub outside : Outside hour

the_floor : (seconds : ℤ) → IsFloor seconds seconds_per_hour (hour_of seconds)
the_floor seconds = is_floor seconds seconds_per_hour (omega arith)

module _ (unit valve : ℕ) (seconds : ℤ) where
  pub key_by_laws : {key : ℕ} → flush_key_of unit valve seconds ≡ gives key → KeyOfFlush unit valve seconds key
  unfolding flush_key_of
  key_by_laws e =
      let g = given_good unit valve (hour_of seconds) e in
      record {
        hour = hour_of seconds;
        is_hour = the_floor seconds;
        good = g.0;
        held = modulo (hour_of seconds) hours_held;
        is_held = is_modulo (hour_of seconds) hours_held (omega arith);
        is_key = g.1;
      }

  pub laws_give_key : {key : ℕ} → KeyOfFlush unit valve seconds key → flush_key_of unit valve seconds ≡ gives key
  unfolding flush_key_of
  laws_give_key k =
      let hour : k.hour ≡ hour_of seconds = only_floor seconds seconds_per_hour k.hour k.is_hour in
      let held : k.held ≡ modulo (hour_of seconds) hours_held
      = only_modulo k.hour hours_held k.held k.is_held ∙ ap (λ (h : ℤ). modulo h hours_held) hour in
      good_given unit valve (hour_of seconds) (subst Good hour k.good) ∙ ap gives (ap (key_of unit valve) (sym held) ∙ k.is_key)

  pub refused_by_laws : {number : ℕ} → flush_key_of unit valve seconds ≡ refuses number → (number ≡ 12) × NoKey seconds
  unfolding flush_key_of
  refused_by_laws e =
      let o = refused_outside unit valve (hour_of seconds) e in
      (o.0, record { hour = hour_of seconds; is_hour = the_floor seconds; outside = o.1 })

  pub laws_refuse : NoKey seconds → flush_key_of unit valve seconds ≡ refuses 12
  unfolding flush_key_of
  laws_refuse n = outside_refused unit valve (hour_of seconds) (subst Outside (only_floor seconds seconds_per_hour n.hour n.is_hour) n.outside)
