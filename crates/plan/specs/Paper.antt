-- Document 01, "Answers": the paper's number for each refusal of a build, and for a success the descriptor, A and the attempt number.
-- Assumes nothing.
use Rattle.std.specs.Prelude.{Result, Ok, Err}
use Rattle.answers.specs.declared.Refusal.{Refusal}
use Rattle.answers.specs.Answers.{number_of, Answer, refuses, gives}
use Rattle.fuse.specs.Build.{Success, success}
use Rattle.plan.specs.declared.Built.{Built}

abbrev pub paper : Result Built Refusal → Answer Success
paper (Ok built) = gives (success built.descriptor built.slots built.attempt)
paper (Err why) = refuses (number_of why)
