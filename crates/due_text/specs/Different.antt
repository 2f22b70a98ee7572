-- No two of the keys that are read from a text are equal, whatever the text: so a build of them does not refuse with 5. Assumes nothing.
use Rattle.std.specs.Prelude.{ℕ, ◌+◌, ◌<◌, ◌≡◌, refl, Bool, true, false, cond, List, [], ◌∷◌, ◌++◌, eqb, ltb, length, get_or, take, drop, Option, Some, None, Result, Ok, Err}
use Rattle.std.proofs.Common.{sym, ap, ◌∙◌, arith, ltb-true, ltb-false, length-append, take_at}
use Rattle.std.proofs.Math.ListN.{get_or-append}
use Rattle.std.proofs.Math.Seq.{get_or-append_seam}
use Rattle.answers.specs.declared.Refusal.TheVariants.{RepeatedKeys}
use Rattle.repeats.specs.Repeats.{among?, Twice}
use Rattle.repeats.specs.Laws.{among_at}
use Rattle.due_text.specs.Cut.{lines_of}
use Rattle.due_text.specs.Line.{line_of}
use Rattle.due_text.specs.Keys.{KeysOutcome, keys_outcome, bad, after_line, read_lines, keys_of}
use Rattle.due_text.specs.declared.line.Fault.{Fault}
use Rattle.due_text.specs.declared.line.Fault.TheVariants.{Refused, TooManyKeys}
use Rattle.due_text.specs.Room.{Counts, all_lines}
use Rattle.due_text.specs.declared.keys.BadLine.{BadLine}

abbrev pub Different : List ℕ → Type 0
Different keys = ¬ Twice keys

-- one more key that is not listed yet
one_more : (keys : List ℕ) (key : ℕ) → Different keys → among? key keys ≡ false → Different (keys ++ key ∷ [])
one_more keys key apart new t = by (ltb t.second (length keys)) refl
  where
    old : (k : ℕ) → k < length keys → get_or (keys ++ key ∷ []) k 0 ≡ get_or keys k 0
    old k h = get_or-append keys (key ∷ []) 0 k h

    by : (before : Bool) → ltb t.second (length keys) ≡ before → ⊥
    by true e =
        let h = ltb-true t.second (length keys) e in
        let equal = sym (old t.first (omega (arith, t.apart))) ∙ t.equal ∙ old t.second h in
        apart (record { first = t.first; second = t.second; apart = t.apart; within = h; equal = equal })
    by false e =
        let last : t.second ≡ length keys
        = omega (arith, t.within, ltb-false t.second (length keys) e, length-append keys (key ∷ [])) in
        let before : t.first < length keys = omega (arith, t.apart) in
        let again = among_at key keys t.first before
        (sym (old t.first before) ∙ t.equal ∙ ap (λ (k : ℕ). get_or (keys ++ key ∷ []) k 0) last ∙ get_or-append_seam keys key [] 0) in
        cc

after_line_lem : (size number : ℕ) (keys : List ℕ) → Different keys → (l : Result (Option ℕ) Fault) (next : List ℕ → KeysOutcome)
    → ((after : List ℕ) → Different after → Different (next after).leaves) → Different (after_line size number keys l next).leaves
after_line_lem size number keys apart (Ok None) next go = go keys apart
after_line_lem size number keys apart (Err why) next go = apart
after_line_lem size number keys apart (Ok (Some key)) next go = by (eqb (length keys) size) (among? key keys) refl
  where
    by : (full again : Bool) → among? key keys ≡ again
        → Different
        (cond full (keys_outcome (bad number TooManyKeys) keys) (cond again (keys_outcome (bad number (Refused RepeatedKeys)) keys) (next (keys ++ key ∷ [])))).leaves
    by true again e = apart
    by false true e = apart
    by false false e = go (keys ++ key ∷ []) (one_more keys key apart e)

lines_different : (size number : ℕ) (keys : List ℕ) (lines : List (List ℕ)) → Different keys → Different (read_lines size number keys lines).leaves
unfolding read_lines
lines_different size number keys [] apart = apart
lines_different size number keys (l ∷ more) apart =
    after_line_lem size number keys apart (line_of l) (λ after. read_lines size (number + 1) after more) (λ after. lines_different size (number + 1) after more)

counted : (count : ℕ) (r : Result ℕ BadLine) (keys : List ℕ) → Ok count ≡ r → Counts r keys → length keys ≡ count
counted count (Ok n) keys e c = let same : count ≡ n = cc in sym (same ∙ c)
counted count (Err line) keys e c = cc

pub read_different : (text room : List ℕ) {count : ℕ} {after : List ℕ} → keys_outcome (Ok count) after ≡ keys_of text room → Different (take count after)
unfolding keys_of
read_different text room {count} e =
    let read = read_lines (length room) 1 [] (lines_of text) in
    let left = ap (λ (o : KeysOutcome). o.leaves) e in
    let many = counted count read.answer read.leaves (ap (λ (o : KeysOutcome). o.answer) e) (all_lines (length room) 1 [] (lines_of text)) in
    rw (left, take_at read.leaves (drop (length read.leaves) room) count many)
    (lines_different (length room) 1 [] (lines_of text) (λ t. omega (arith, t.within)))
