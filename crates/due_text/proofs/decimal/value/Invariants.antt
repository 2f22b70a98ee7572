-- The value so far and the digits still to come give the number.
use Rattle.std.proofs.Common.{◌^◌, ◌≡◌, ◌<◌, drop}
use Rattle.due_text.specs.Decimal.{value_from}
use Rattle.due_text.proofs.decimal.value.Given as goal

abbrev pub invariant-loop-byte : goal.invariant-loop-byte
invariant-loop-byte l = (l.value < 2 ^ 64) × (value_from l.value (drop l.byte-index l.digits) ≡ value_from 0 l.digits)
