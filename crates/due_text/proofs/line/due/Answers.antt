-- `due_text::line::due`: the flush has its key, or a refusal. Assumes nothing.
use Rattle.std.proofs.Common.{◌≡◌, rules, ◌∙◌, sym, arith}
use Rattle.std.specs.Result.{result_map_both}
use Rattle.answers.specs.Paper.{paper}
use Rattle.due_text.specs.declared.line.Fault.TheVariants.{Refused}
use Rattle.due_text.specs.Line.{due_of, due_at_unit, keyed_of}
use Rattle.due_text.proofs.Bounds.{in_turn, told}
use Rattle.due_text.proofs.line.due.Goals as goal

pub returns : goal.returns
unfolding due_of due_at_unit
returns c =
    let said : c.map_err-2.result ≡ result_map_both (λ key. key) Refused c.flush_key.result = search rules in
    let keyed : c.map_err-2.result ≡ keyed_of (paper c.flush_key.result) = said ∙ sym (told c.flush_key.result) in
    grind (arith, in_turn)
