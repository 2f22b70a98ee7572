-- `due_text::keys::store`: a key that is listed already, one that is not, and an empty line. Assumes nothing.
use Rattle.std.proofs.Common.{sym, ap, ◌∙◌, Ok, arith, rules}
use Rattle.due_text.proofs.Stored.{says_nothing, nothing, again, stored}
use Rattle.due_text.proofs.keys.store.Goals as goal

pub returns-then-is_empty : goal.returns-then-is_empty
returns-then-is_empty c = nothing _ _ _ c.requires (says_nothing c.args.line.now (search rules))

pub returns-then-contains : goal.returns-then-contains
returns-then-contains c =
    again _ _ _ c.requires _ (sym c.read.ensures ∙ c.in_ok-key.was ∙ ap Ok c.in-Some.is) (omega arith) (sym c.contains.ensures.value ∙ c.if-contains.true)

pub returns : goal.returns
returns c =
    stored _ _ _ c.requires _ (sym c.read.ensures ∙ c.in_ok-key.was ∙ ap Ok c.in-Some.is) (omega arith) (sym c.contains.ensures.value ∙ c.if-contains.false)
