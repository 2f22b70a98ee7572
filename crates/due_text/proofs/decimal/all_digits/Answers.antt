-- `due_text::decimal::all_digits`: digits are those of ASCII. Assumes nothing.
use Rattle.std.proofs.Common.{◌∙◌, rules, tests}
use Rattle.std.proofs.lemmas.Iterator.{YieldsList-from_slice}
use Rattle.std.proofs.lemmas.Iterator.Search.{all_from_yields_List}
use Rattle.std.specs.Char.{is_ascii_digit}
use Rattle.due_text.proofs.Digits.{ascii}
use Rattle.due_text.proofs.decimal.all_digits.Goals as goal

pub returns : goal.returns
returns c =
    all_from_yields_List is_ascii_digit _ _ _ c.all.ensures.ran (YieldsList-from_slice c.args.word.now (cc)) (λ x b q k. search (rules, tests))
    ∙ ascii c.args.word.now
