-- The lines read so far, their keys in the first places of the room, and those to come. Assumes nothing.
use Rattle.std.proofs.Common.{◌≡◌, refl, sym, ap, ◌∙◌, ℕ, ◌+◌, ◌-◌, ◌≤◌, ◌<◌, Bool, true, false, cond, List, [], ◌∷◌, ◌++◌, inl, inr, length, take, drop, get_or, eqb, add-one, arith, drop-cons}
use Rattle.std.specs.Prelude.{Option, Some, None, Result, Ok, Err, MatchResult}
use Rattle.std.specs.List.{slice_split}
use Rattle.std.proofs.Math.Seq.{length-take-le, drop-drop}
use Rattle.std.proofs.lemmas.List.{take-append-drop}
use Rattle.std.proofs.Math.ListN.{drop_of_length-le}
use Rattle.repeats.specs.Repeats.{among?}
use Rattle.due_text.specs.Cut.{cut, newline?, lines_of, before_comment}
use Rattle.due_text.specs.Line.{line_of}
use Rattle.due_text.specs.Keys.{KeysOutcome, keys_outcome, bad, after_line, read_lines, in_room}
use Rattle.due_text.specs.Stored.{GoesOn, Stops}
use Rattle.due_text.specs.declared.keys.BadLine.{BadLine}
use Rattle.due_text.specs.declared.line.Fault.{Fault}
use Rattle.due_text.proofs.Pieces.{cut_as_split}

-- what one line answers, with its number
abbrev pub at_line : (number : ℕ) → Result ℕ Fault → Result ℕ BadLine
at_line number (Ok count) = Ok count
at_line number (Err why) = bad number why

-- an empty line at the end says nothing
last_line : (size number : ℕ) (keys : List ℕ) (lines : List (List ℕ)) → read_lines size number keys (lines ++ [] ∷ []) ≡ read_lines size number keys lines
unfolding read_lines line_of before_comment cut
last_line size number keys [] = refl
last_line size number keys (line ∷ more) = by (line_of line) (λ after. last_line size (number + 1) after more)
  where
    then : (full again : Bool) (stop stop' : KeysOutcome) {go go' : KeysOutcome} → go ≡ go' → cond full stop (cond again stop' go) ≡ cond full stop (cond again stop' go')
    then true again stop stop' e = refl
    then false true stop stop' e = refl
    then false false stop stop' e = e

    by : (said : Result (Option ℕ) Fault) {next next' : List ℕ → KeysOutcome} → ((after : List ℕ) → next after ≡ next' after)
        → after_line size number keys said next ≡ after_line size number keys said next'
    by (Ok None) same = same keys
    by (Err why) same = refl
    by (Ok (Some key)) same = then (eqb (length keys) size) (among? key keys) _ _ (same (keys ++ key ∷ []))

pub split_or_cut : (size : ℕ) (text : List ℕ) → read_lines size 1 [] (slice_split newline? text) ≡ read_lines size 1 [] (lines_of text)
split_or_cut size text = elim (cut_as_split newline? text) [
  | inl e ↦ ap (read_lines size 1 []) e
  | inr e ↦ ap (read_lines size 1 []) e ∙ last_line size 1 [] (lines_of text)
]

module _ (pieces : List (List ℕ)) (room₀ : List ℕ) where
  -- the whole text, read from the front
  abbrev whole : KeysOutcome
  whole = read_lines (length room₀) 1 [] pieces

  -- after some of the pieces that the text is split into, with `count` keys
  pub record SoFar (room : List ℕ) (seen count : ℕ) : Type 0 where
    pub places : count ≤ length room
    pub same_room : length room ≡ length room₀
    pub untouched : drop count room ≡ drop count room₀
    pub to_come : read_lines (length room₀) (seen + 1) (take count room) (drop seen pieces) ≡ whole

-- what is as it was from a place on is so further on
further : (xs ys : List ℕ) (n k : ℕ) → n ≤ k → drop n xs ≡ drop n ys → drop k xs ≡ drop k ys
further xs ys n k h e =
    let split : n + (k - n) ≡ k = omega arith in
    ap (λ (i : ℕ). drop i xs) (sym split) ∙ sym (drop-drop (k - n) n xs) ∙ ap (drop (k - n)) e ∙ drop-drop (k - n) n ys ∙ ap (λ (i : ℕ). drop i ys) split

module _ {pieces : List (List ℕ)} {room₀ room : List ℕ} {seen count : ℕ} (s : SoFar pieces room₀ room seen count) where
  -- what is answered now is answered of the whole text
  answered : {answer : Result ℕ BadLine} → keys_outcome answer (take count room) ≡ whole pieces room₀
      → keys_outcome answer room ≡ in_room room₀ (whole pieces room₀)
  answered {answer} e =
      let kept : take count room ++ drop count room₀ ≡ room = rw (← s.untouched) (take-append-drop count room) in
      ap (keys_outcome answer) (sym kept) ∙ rw (length-take-le count room s.places) at (ap (in_room room₀) e)

  pub all_read : length pieces ≤ seen → keys_outcome (Ok count) room ≡ in_room room₀ (whole pieces room₀)
  unfolding read_lines
  all_read h = answered (rw (drop_of_length-le pieces {i = seen} h, length-take-le count room s.places) at s.to_come)

  module _ {line : List ℕ} (here : seen < length pieces) (this : line ≡ get_or pieces seen line) where
    turn : after_line (length room) (seen + 1) (take count room) (line_of line)
        (λ after. read_lines (length room₀) (seen + 1 + 1) after (drop (seen + 1) pieces)) ≡ whole pieces room₀
    unfolding read_lines
    turn =
        let first : drop seen pieces ≡ line ∷ drop (seen + 1) pieces = rw (this, add-one) (drop-cons pieces seen line here) in
        rw s.same_room (rw first at s.to_come)

    pub stops : (stored : Result ℕ Fault) {room' : List ℕ} {bad : BadLine}
        → MatchResult stored (GoesOn (line_of line) room room' count) (Stops (line_of line) room room' count) → at_line (seen + 1) stored ≡ Err bad
        → keys_outcome (Err bad) room' ≡ in_room room₀ (whole pieces room₀)
    stops (Ok more) o e = cc
    stops (Err why) o e = rw (← e, o.kept) (answered (sym (o.then (seen + 1) _) ∙ turn))

    pub goes_on : (stored : Result ℕ Fault) {room' : List ℕ} {more : ℕ}
        → MatchResult stored (GoesOn (line_of line) room room' count) (Stops (line_of line) room room' count) → at_line (seen + 1) stored ≡ Ok more
        → length room' ≡ length room → SoFar pieces room₀ room' (seen + 1) more
    goes_on (Err why) o e same = cc
    goes_on (Ok n) {room'} {more} o e same =
        let is : n ≡ more = cc in
        let after : SoFar pieces room₀ room' (seen + 1) n
        = record {
          places = omega (arith, o.places);
          same_room = same ∙ s.same_room;
          untouched = o.untouched ∙ further room room₀ count n o.grown s.untouched;
          to_come = sym (o.then (seen + 1) _) ∙ turn;
        } in
        rw is at after
