-- `descriptor::is_length` meets its contract: one bit is set exactly of powers of two. Assumes nothing.
use Rattle.std.proofs.Common.{rules, sym, ◌∙◌}
use Rattle.descriptor.specs.Lengths.{at_least, at_most, no_length}
use Rattle.descriptor.specs.Masks.{one-bit-test}
use Rattle.descriptor.proofs.is_length.Goals as goal

pub returns-then-contains-clause-value : goal.returns-then-contains-clause-value
returns-then-contains-clause-value c = c.is_power_of_two.ensures ∙ one-bit-test c.args.size (search rules) (search rules)

pub returns-else-contains-clause-value : goal.returns-else-contains-clause-value
returns-else-contains-clause-value c = c.if-contains.false ∙ sym (no_length c.args.size (λ p. search (rules, at_least p, at_most p)))
