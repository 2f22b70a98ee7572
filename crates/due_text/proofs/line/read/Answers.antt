-- `due_text::line::read`: a comment begins at the first `#`. Assumes nothing.
use Rattle.std.proofs.Common.{◌∙◌, ap, List, ℕ, rules, tests, eqb}
use Rattle.std.proofs.lemmas.Iterator.{YieldsList-from_slice}
use Rattle.std.proofs.lemmas.Iterator.Search.{position_from_yields_List}
use Rattle.due_text.specs.Cut.{words_of}
use Rattle.due_text.specs.Line.{said_by, line_of}
use Rattle.due_text.proofs.Comment.{up_to_comment}
use Rattle.due_text.proofs.line.read.Goals as goal

pub returns : goal.returns
unfolding line_of
returns c =
    let found = position_from_yields_List (λ b. eqb b 35) _ _ c.position-comment.result c.position-comment.ensures.ran
    (YieldsList-from_slice c.args.text.now (cc)) (λ x b q k. search (rules, tests)) in
    c.said.ensures ∙ ap (λ (line : List ℕ). said_by (words_of line)) (up_to_comment c.args.text.now found c.unwrap_or-end.ensures)
