-- `due_text::line::first_word`: blanks are passed, and the word goes on to the next one. Assumes nothing.
use Rattle.std.proofs.Common.{◌≡◌, sym, ◌∙◌, rules, tests, ◌-◌, length, take, drop, length-drop, arith}
use Rattle.std.specs.Prelude.{None}
use Rattle.std.proofs.lemmas.Iterator.{YieldsList-from_slice}
use Rattle.std.proofs.lemmas.Iterator.Search.{position_from_yields_List}
use Rattle.std.proofs.lemmas.List.{take_all}
use Rattle.due_text.specs.Cut.{blank?}
use Rattle.due_text.proofs.Words.{solid?, end_of, none_left, one_given}
use Rattle.due_text.proofs.line.first_word.Goals as goal

pub returns-in_err-start : goal.returns-in_err-start
returns-in_err-start c =
    let found = position_from_yields_List solid? _ _ c.position.result c.position.ensures.ran
    (YieldsList-from_slice c.args.text.now (cc)) (λ x b q k. search (rules, tests)) in
    let none : c.position.result ≡ None = search rules in
    rw c.from_residual.ensures (none_left c.args.text.now (sym found ∙ none))

pub returns : goal.returns
returns c =
    let found = position_from_yields_List solid? _ _ c.position.result c.position.ensures.ran
    (YieldsList-from_slice c.args.text.now (cc)) (λ x b q k. search (rules, tests)) in
    let rest = take (length c.args.text.now - c.in_ok-start.start) (drop c.in_ok-start.start c.args.text.now) in
    let whole : rest ≡ drop c.in_ok-start.start c.args.text.now = take_all _ _ (omega (arith, length-drop c.in_ok-start.start c.args.text.now)) in
    let blank = position_from_yields_List blank? _ _ c.position-blank.result c.position-blank.ensures.ran
    (YieldsList-from_slice rest (cc)) (λ x b q k. search (rules, tests)) in
    let end = end_of blank? rest blank c.unwrap_or.ensures in
    rw (c.split_at.ensures.front, c.split_at.ensures.back) (one_given c.args.text.now {rest = rest} (sym found ∙ c.in_ok-start.was) whole end)
