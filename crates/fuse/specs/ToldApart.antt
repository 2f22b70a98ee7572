-- From what the controller's C program is told the query's answer can be told: no two answers share a number. Assumes nothing.
use Rattle.std.specs.Prelude.{◌≡◌, refl, Bool, true, false}
use Rattle.std.proofs.Common.{ap, arith}
use Rattle.answers.specs.Answers.{Answer, refuses, gives}
use Rattle.fuse.specs.Query.{told}

pub told_apart : (a b : Answer Bool) → told a ≡ told b → a ≡ b
told_apart (gives false) (gives false) e = refl
told_apart (gives false) (gives true) e = absurd (omega arith)
told_apart (gives false) (refuses number) e = absurd (omega arith)
told_apart (gives true) (gives false) e = absurd (omega arith)
told_apart (gives true) (gives true) e = refl
told_apart (gives true) (refuses number) e = absurd (omega arith)
told_apart (refuses number) (gives false) e = absurd (omega arith)
told_apart (refuses number) (gives true) e = absurd (omega arith)
told_apart (refuses number) (refuses other) e = ap refuses (omega arith)
