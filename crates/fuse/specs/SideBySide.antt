-- Two searches of the same keys, of any two widths and on memories of the same lengths, end alike: what holds of each pair of endings holds of the
-- two outcomes. Assumes nothing.
use Rattle.std.specs.Prelude.{◌≡◌, Bool, true, false, cond, List, ℕ, zero, suc, length}
use Rattle.answers.specs.Answers.{Answer, refuses, gives, Outcome, outcome}
use Rattle.answers.specs.Checks.{Done, done, unless_refused}
use Rattle.repeats.specs.Repeats.{repeats?}
use Rattle.fuse.specs.Attempts.{free}
use Rattle.fuse.specs.Memory.{Memory, checked}
use Rattle.fuse.specs.SameLengths.{SameLengths}
use Rattle.fuse.specs.Build.{Success, first_free, stuck_outcome, built_outcome, found_outcome, repeated_outcome, search_of}

-- a relation between two outcomes holds of each pair of endings
pub record EachEnding (Related : Outcome Success Memory → Outcome Success Memory → Type 0) (w v : ℕ) (keys : List ℕ) (m m' : Memory) : Type 0 where
  pub refused : (number : ℕ) → Related (outcome (refuses number) m) (outcome (refuses number) m')
  pub repeated : Related (repeated_outcome keys m) (repeated_outcome keys m')
  pub stuck : Related (stuck_outcome keys m) (stuck_outcome keys m')
  pub built : (i : ℕ) → Related (built_outcome w keys i m) (built_outcome v keys i m')

same_checks : (n limit : ℕ) {m m' : Memory} → SameLengths m m' → checked n limit m ≡ checked n limit m'
same_checks n limit lengths = cc

module _ (Related : Outcome Success Memory → Outcome Success Memory → Type 0) {w v : ℕ} {keys : List ℕ} {m m' : Memory}
    (each : EachEnding Related w v keys m m') where
  of_found : (found : ℕ) → Related (found_outcome w keys found m) (found_outcome v keys found m')
  of_found zero = each.stuck
  of_found (suc i) = each.built (suc i)

  of_keys : (repeats : Bool) (found : ℕ)
      → Related (cond repeats (repeated_outcome keys m) (found_outcome w keys found m)) (cond repeats (repeated_outcome keys m') (found_outcome v keys found m'))
  of_keys true found = each.repeated
  of_keys false found = of_found found

  of_checks : (checks : Answer Done) (o o' : Outcome Success Memory) → Related o o' → Related (unless_refused checks m o) (unless_refused checks m' o')
  of_checks (refuses number) o o' related = each.refused number
  of_checks (gives done) o o' related = related

  pub side_by_side : SameLengths m m' → (limit first count : ℕ)
      → Related (search_of w keys limit first count m) (search_of v keys limit first count m')
  unfolding search_of
  side_by_side lengths limit first count =
      rw (← (same_checks (length keys) limit lengths))
      (of_checks (checked (length keys) limit m) _ _ (of_keys (repeats? keys) (first_free (free keys) first count)))
