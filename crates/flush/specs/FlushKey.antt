-- Document 01, "Flush key" and answer 12, as document 02, wish 3, corrects them: the hour is the floor of seconds / 3,600, hours -2^39
-- to 2^39 - 1 are good, and the key holds the hour modulo 2^40. Assumes nothing.
use Rattle.std.specs.Prelude.{ℕ, ◌+◌, ◌-◌, ◌*◌, ◌^◌, ℤ, pos, neg_ℤ}
use Rattle.std.specs.Int.Signed.{lt_z}
use Rattle.answers.specs.Answers.{Answer, gives}
use Rattle.answers.specs.Checks.{refuse_if, ◌then◌}
use Rattle.flush.specs.Floor.{floor_div, modulo}

abbrev pub seconds_per_hour : ℕ
seconds_per_hour = 3600

abbrev pub hour_of : (seconds : ℤ) → ℤ
hour_of seconds = floor_div seconds seconds_per_hour

abbrev pub first_hour : ℤ
first_hour = neg_ℤ (pos (2 ^ 39))

abbrev pub last_hour : ℤ
last_hour = pos (2 ^ 39 - 1)

-- the key has 40 bits for the hour
abbrev pub hours_held : ℕ
hours_held = 2 ^ 40

abbrev pub key_of : (unit valve held : ℕ) → ℕ
key_of unit valve held = unit * 2 ^ 48 + valve * 2 ^ 40 + held

unfoldable pub key_at_hour : (unit valve : ℕ) (hour : ℤ) → Answer ℕ
key_at_hour unit valve hour =
    refuse_if (lt_z hour first_hour) 12
    then refuse_if (lt_z last_hour hour) 12
    then gives (key_of unit valve (modulo hour hours_held))

unfoldable pub flush_key_of : (unit valve : ℕ) (seconds : ℤ) → Answer ℕ
flush_key_of unit valve seconds = key_at_hour unit valve (hour_of seconds)
