-- `due_text::keys::read`: the lines in turn. Assumes nothing.
use Rattle.std.proofs.Common.{rules, tests, ◌≡◌, ap, ◌∙◌, sym, ◌+◌, length}
use Rattle.std.proofs.lemmas.List.{length_push}
use Rattle.std.proofs.lemmas.Result.{err_from_is_err_and}
use Rattle.due_text.specs.Keys.{keys_of, in_room}
use Rattle.due_text.proofs.Lines.{line_turn, line_end}
use Rattle.due_text.proofs.SoFar.{at_line, split_or_cut, all_read, stops, goes_on}
use Rattle.due_text.proofs.keys.read.Goals as goal

pub returns-in_err-count : goal.returns-in_err-count
unfolding keys_of
returns-in_err-count c =
    let turn = line_turn _ _ _ _ _ c.loop-before.yielded_by c.next.ensures.steps c.args.text.now (cc) (cc) (cc) (λ x b q k. search (rules, tests)) c.in-Some.is in
    let mapped : c.map_err.result ≡ at_line (length c.loop-before.yielded + 1) c.store.result = rw (← turn.1) (search rules) in
    let p = err_from_is_err_and c.from_residual.result c.from_residual.ensures.1 in
    rw (p.1, p.2) (stops c.loop-before.invariant.2 turn.0 turn.2 _ c.store.ensures (sym mapped ∙ c.in_err-count.was))
    ∙ ap (in_room c.args.room.now) (split_or_cut _ c.args.text.now)

pub loop-before-preserved : goal.loop-before-preserved
loop-before-preserved c =
    let turn = line_turn _ _ _ _ _ c.loop-before.yielded_by c.next.ensures.steps c.args.text.now (cc) (cc) (cc) (λ x b q k. search (rules, tests)) c.in-Some.is in
    let mapped : c.map_err.result ≡ at_line (length c.loop-before.yielded + 1) c.store.result = rw (← turn.1) (search rules) in (
      search rules,
      search rules,
      rw length_push (goes_on c.loop-before.invariant.2 turn.0 turn.2 _ c.store.ensures (sym mapped ∙ c.in_ok-count.was) c.store.auto.room),
    )

pub returns : goal.returns
unfolding keys_of
returns c =
    let end = line_end _ _ _ _ _ c.loop-before.yielded_by c.next.ensures.steps c.args.text.now (cc) (cc) (cc) (λ x b q k. search (rules, tests)) c.in-None.is in
    all_read c.loop-before.invariant.2 end ∙ ap (in_room c.args.room.now) (split_or_cut _ c.args.text.now)
