-- The lines of a text in turn, each with the number of those before it. Assumes nothing.
use Rattle.std.proofs.Common.{◌≡◌, refl, ap, ◌∙◌, ℕ, ◌≤◌, ◌<◌, Bool, false, List, length, get_or, zero-add, arith}
use Rattle.std.specs.Prelude.{Option, Some, None}
use Rattle.std.specs.List.{slice_split, enumerate_from}
use Rattle.std.specs.Fn.{CalledAt}
use Rattle.std.specs.Iterator.{Yields}
use Rattle.std.specs.Iterator.Adapters.{enumerate_steps, enumerate_source, enumerate_count}
use Rattle.std.specs.Slice.Iter.{split_steps, split_rest, split_done, split_callee}
use Rattle.std.specs.declared.iter.Enumerate.{Enumerate}
use Rattle.std.specs.declared.slice.Split.{Split}
use Rattle.std.proofs.lemmas.Iterator.{YieldsList}
use Rattle.std.proofs.lemmas.Iterator.Consumers.{YieldsList-from_enumerate, YieldsList-turn, YieldsList-end}
use Rattle.std.proofs.lemmas.Iterator.Splits.{YieldsList-from_slice_split}
use Rattle.std.proofs.lemmas.List.FromFn.{get_or-enumerate_from, length-enumerate_from}
use denote.Param.Members.{Mut}
use denote.Ref.{Bor}
use Rattle.due_text.specs.Cut.{newline?}

abbrev pub pieces : List ℕ → List (List ℕ)
pieces text = slice_split newline? text

module _ {F : Type 0} {g : Mut F (Bor ℕ × Unit {0}) Bool} (s t u : Enumerate (Split ℕ F)) (so_far : List (ℕ × Bor (List ℕ))) (r : Option (ℕ × Bor (List ℕ)))
    (gave : Yields (enumerate_steps (split_steps g)) s so_far t) (gives : enumerate_steps (split_steps g) t r u) (text : List ℕ)
    (from : split_rest (enumerate_source s) ≡ text) (fresh : split_done (enumerate_source s) ≡ false) (none_yet : enumerate_count s ≡ 0)
    (newlines : (x : ℕ) (b : Bool) (q : F) → CalledAt g (split_callee (enumerate_source s)) x b q → (q ≡ split_callee (enumerate_source s)) × (b ≡ newline? x)) where
  lines_from : YieldsList {B = ℕ × List ℕ} (enumerate_steps (split_steps g)) (λ p. (p.0, p.1.now)) s (enumerate_from 0 (pieces text))
  lines_from = YieldsList-from_enumerate (YieldsList-from_slice_split g newline? text from fresh refl newlines) none_yet

  -- one line more
  pub line_turn : {before : ℕ} {line : Bor (List ℕ)} → r ≡ Some (before, line)
      → (length so_far < length (pieces text)) × (before ≡ length so_far) × (line.now ≡ get_or (pieces text) (length so_far) line.now)
  line_turn {before} {line} e =
      let turn = YieldsList-turn lines_from so_far t gave r u (before, line) e gives in
      let here : length so_far < length (pieces text) = omega (arith, turn.0, length-enumerate_from 0 (pieces text)) in
      let this = turn.1 ∙ get_or-enumerate_from 0 (pieces text) (length so_far) (before, line.now) here in
      (here, ap (λ (p : ℕ × List ℕ). p.0) this ∙ zero-add (length so_far), ap (λ (p : ℕ × List ℕ). p.1) this)

  -- no more lines
  pub line_end : r ≡ None → length (pieces text) ≤ length so_far
  line_end e = omega (arith, (YieldsList-end lines_from so_far t gave r u e gives).1, length-enumerate_from 0 (pieces text))
