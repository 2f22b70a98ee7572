-- The keys of a text of due flushes, line by line: each goes behind those before it, and the first line that is bad ends the
-- reading. This project's own format; document 01 has none. Assumes nothing.
use Rattle.std.specs.Prelude.{ℕ, ◌+◌, cond, List, [], ◌∷◌, ◌++◌, length, drop, eqb, Option, Some, None, Result, Ok, Err}
use Rattle.answers.specs.declared.Refusal.TheVariants.{RepeatedKeys}
use Rattle.repeats.specs.Repeats.{among?}
use Rattle.due_text.specs.Cut.{lines_of}
use Rattle.due_text.specs.Line.{line_of}
use Rattle.due_text.specs.declared.line.Fault.{Fault}
use Rattle.due_text.specs.declared.line.Fault.TheVariants.{Refused, TooManyKeys}
use Rattle.due_text.specs.declared.keys.BadLine.{BadLine}

-- an answer, and what it leaves: the keys read so far, or the whole room
pub record KeysOutcome : Type 0 where
  pub answer : Result ℕ BadLine
  pub leaves : List ℕ

abbrev pub keys_outcome : Result ℕ BadLine → List ℕ → KeysOutcome
keys_outcome a l = record { answer = a; leaves = l }

abbrev pub bad : (number : ℕ) → Fault → Result ℕ BadLine
bad number why = Err (record { line = number; fault = why })

-- one line, with this number, after these keys: `next` goes on, unless the line is bad, the room full or the key listed already
abbrev pub after_line : (size number : ℕ) (keys : List ℕ) → Result (Option ℕ) Fault → (next : List ℕ → KeysOutcome) → KeysOutcome
after_line size number keys (Ok None) next = next keys
after_line size number keys (Err why) next = keys_outcome (bad number why) keys
after_line size number keys (Ok (Some key)) next =
    cond (eqb (length keys) size) (keys_outcome (bad number TooManyKeys) keys)
    (cond (among? key keys) (keys_outcome (bad number (Refused RepeatedKeys)) keys) (next (keys ++ key ∷ [])))

-- the lines to come, the first of which has this number, after these keys; there is room for `size` keys in all
unfoldable pub read_lines : (size number : ℕ) (keys : List ℕ) (lines : List (List ℕ)) → KeysOutcome
read_lines size number keys [] = keys_outcome (Ok (length keys)) keys
read_lines size number keys (line ∷ more) = after_line size number keys (line_of line) (λ after. read_lines size (number + 1) after more)

-- the keys stand in the first places of the room, and its other places are as they were
abbrev pub in_room : (room : List ℕ) → KeysOutcome → KeysOutcome
in_room room read = keys_outcome read.answer (read.leaves ++ drop (length read.leaves) room)

unfoldable pub keys_of : (text room : List ℕ) → KeysOutcome
keys_of text room = in_room room (read_lines (length room) 1 [] (lines_of text))
