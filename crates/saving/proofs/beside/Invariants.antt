-- `saving::beside`: behind the list's name and the mark stand as many digits as were drawn so far. Assumes nothing.
use Rattle.std.proofs.Common.{◌≡◌, ℕ, List, ◌++◌, length}
use Rattle.saving.specs.Beside.{mark}
use Rattle.saving.proofs.beside.Given as goal

abbrev pub invariant-loop-byte : goal.invariant-loop-byte
invariant-loop-byte g l = (digits : List ℕ) × (l.name.bytes ≡ l.path ++ mark ++ digits) × (length digits ≡ l.byte-index)
