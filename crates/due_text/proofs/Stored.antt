-- One line more, after keys in the first places of the room: what becomes of them. Assumes nothing.
use Rattle.std.proofs.Common.{◌≡◌, refl, sym, ◌∙◌, ℕ, ◌+◌, ◌≤◌, ◌<◌, true, false, List, [], ◌∷◌, length, take, set, nat_eq, eq-eqb, ne_eqb, arith}
use Rattle.std.specs.Prelude.{Option, Some, None, Result, Ok, Err}
use Rattle.std.specs.List.{list_any}
use Rattle.std.proofs.Math.Seq.{length-take-le}
use Rattle.std.proofs.lemmas.List.{take_more_set, drop-set-lt}
use Rattle.answers.specs.declared.Refusal.TheVariants.{RepeatedKeys}
use Rattle.repeats.specs.Repeats.{among?}
use Rattle.due_text.specs.Cut.{cut, before_comment}
use Rattle.due_text.specs.Line.{line_of}
use Rattle.due_text.specs.Stored.{GoesOn, Stops}
use Rattle.due_text.specs.declared.line.Fault.{Fault}
use Rattle.due_text.specs.declared.line.Fault.TheVariants.{Refused, TooManyKeys}

listed : (key : ℕ) (keys : List ℕ) → list_any (λ (y : ℕ). nat_eq y key) keys ≡ among? key keys
unfolding among?
listed key [] = refl
listed key (other ∷ keys) = rw (listed key keys) refl

pub says_nothing : (line : List ℕ) → length line ≡ 0 → line_of line ≡ Ok None
unfolding line_of before_comment cut
says_nothing [] e = refl
says_nothing (byte ∷ rest) e = absurd (omega arith)

module _ (said : Result (Option ℕ) Fault) (room : List ℕ) (count : ℕ) (places : count ≤ length room) where
  pub nothing : said ≡ Ok None → GoesOn said room room count count
  nothing e = record { grown = omega arith; places = places; untouched = refl; then = λ number next. rw e refl }

  pub wrong : (why : Fault) → said ≡ Err why → Stops said room room count why
  wrong why e = record { kept = refl; then = λ number next. rw e refl }

  module _ (key : ℕ) (e : said ≡ Ok (Some key)) where
    pub full : count ≡ length room → Stops said room room count TooManyKeys
    full f = record { kept = refl; then = λ number next. rw (e, length-take-le count room places, eq-eqb count (length room) f) refl }

    module _ (free : count < length room) where
      not_full : ¬ (count ≡ length room)
      not_full f = omega arith

      pub again : list_any (λ (y : ℕ). nat_eq y key) (take count room) ≡ true → Stops said room room count (Refused RepeatedKeys)
      again l =
          record {
            kept = refl;
            then = λ number next. rw (e, length-take-le count room places, ne_eqb count (length room) not_full, sym (listed key (take count room)) ∙ l) refl;
          }

      pub stored : list_any (λ (y : ℕ). nat_eq y key) (take count room) ≡ false → GoesOn said room (set room count key) count (count + 1)
      stored l =
          record {
            grown = omega arith;
            places = omega arith;
            untouched = drop-set-lt (count + 1) room count key (omega arith);
            then = λ number next.
                rw (
                  e,
                  length-take-le count room places,
                  ne_eqb count (length room) not_full,
                  sym (listed key (take count room)) ∙ l,
                  take_more_set room count key free,
                ) refl;
          }

pub ruleset one_line = (nothing, wrong, full, again, stored)
