-- As many keys as are read have their places in the room: it follows from the equation that `keys::read` promises. Assumes nothing.
use Rattle.std.specs.Prelude.{ℕ, ◌+◌, ◌≤◌, ◌≡◌, refl, Bool, true, false, cond, List, [], ◌∷◌, ◌++◌, length, drop, eqb, Option, Some, None, Result, Ok, Err}
use Rattle.std.proofs.Common.{ap, arith, length-append}
use Rattle.answers.specs.declared.Refusal.TheVariants.{RepeatedKeys}
use Rattle.repeats.specs.Repeats.{among?}
use Rattle.due_text.specs.Cut.{lines_of}
use Rattle.due_text.specs.Line.{line_of}
use Rattle.due_text.specs.Keys.{KeysOutcome, keys_outcome, bad, after_line, read_lines, keys_of}
use Rattle.due_text.specs.declared.line.Fault.{Fault}
use Rattle.due_text.specs.declared.line.Fault.TheVariants.{Refused, TooManyKeys}
use Rattle.due_text.specs.declared.keys.BadLine.{BadLine}

abbrev pub WithinRoom : Result ℕ BadLine → (room : ℕ) → Type 0
WithinRoom (Ok count) room = count ≤ room
WithinRoom (Err line) room = Unit

-- the keys that are counted are those that are left
abbrev pub Counts : Result ℕ BadLine → (keys : List ℕ) → Type 0
Counts (Ok count) keys = count ≡ length keys
Counts (Err line) keys = Unit

after_line_lem : (size number : ℕ) (keys : List ℕ) (l : Result (Option ℕ) Fault) (next : List ℕ → KeysOutcome) → ((after : List ℕ) → Counts (next after).answer (next after).leaves)
    → let t = after_line size number keys l next in
    Counts t.answer t.leaves
after_line_lem size number keys (Ok None) next go = go keys
after_line_lem size number keys (Err why) next go = tt
after_line_lem size number keys (Ok (Some key)) next go = by (eqb (length keys) size) (among? key keys)
  where
    by : (full again : Bool)
        → let t = cond full (keys_outcome (bad number TooManyKeys) keys) (cond again (keys_outcome (bad number (Refused RepeatedKeys)) keys) (next (keys ++ key ∷ []))) in
        Counts t.answer t.leaves
    by true again = tt
    by false true = tt
    by false false = go (keys ++ key ∷ [])

pub all_lines : (size number : ℕ) (keys : List ℕ) (lines : List (List ℕ))
    → let t = read_lines size number keys lines in
    Counts t.answer t.leaves
unfolding read_lines
all_lines size number keys [] = refl
all_lines size number keys (l ∷ more) =
    after_line_lem size number keys (line_of l) (λ after. read_lines size (number + 1) after more) (λ after. all_lines size (number + 1) after more)

in_front_lem : (r : Result ℕ BadLine) (keys rest : List ℕ) → Counts r keys → WithinRoom r (length (keys ++ rest))
in_front_lem (Ok count) keys rest e = omega (arith, length-append keys rest)
in_front_lem (Err line) keys rest e = tt

pub within_room : (text room : List ℕ) {r : Result ℕ BadLine} {after : List ℕ} → keys_outcome r after ≡ keys_of text room → WithinRoom r (length after)
unfolding keys_of
within_room text room {r} {after} e =
    let t = read_lines (length room) 1 [] (lines_of text) in
    let answered : r ≡ t.answer = ap (λ (o : KeysOutcome). o.answer) e in
    let left : after ≡ t.leaves ++ drop (length t.leaves) room = ap (λ (o : KeysOutcome). o.leaves) e in
    rw (answered, left) (in_front_lem t.answer t.leaves (drop (length t.leaves) room) (all_lines (length room) 1 [] (lines_of text)))
