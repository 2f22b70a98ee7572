-- Document 01, "Answers": the paper's number for a refusal, and the value for a good result. Assumes nothing.
use Rattle.std.specs.Prelude.{Result, Ok, Err}
use Rattle.answers.specs.declared.Refusal.{Refusal}
use Rattle.answers.specs.Answers.{number_of, Answer, refuses, gives}
use Rattle.answers.specs.Checks.{Done, done}

abbrev pub paper : {A : Type 0} → Result A Refusal → Answer A
paper (Ok value) = gives value
paper (Err why) = refuses (number_of why)

-- of a call that has nothing more to tell
abbrev pub passed : Result (Unit {0}) Refusal → Answer Done
passed (Ok _) = gives done
passed (Err why) = refuses (number_of why)
