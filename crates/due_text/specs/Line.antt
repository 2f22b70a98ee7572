-- What a line of a text of due flushes says: nothing, a plain key, or a flush by its unit, valve and seconds; or what is wrong with
-- it. This project's own format; the key of a flush is document 01's. Assumes nothing.
use Rattle.std.specs.Prelude.{ℕ, ℤ, cond, List, [], ◌∷◌, ltb, Option, Some, None, Result, Ok, Err}
use Rattle.answers.specs.Answers.{Answer, refuses, gives}
use Rattle.answers.specs.OneNumber.{refusal_of}
use Rattle.flush.specs.FlushKey.{flush_key_of}
use Rattle.due_text.specs.Decimal.{number_of}
use Rattle.due_text.specs.Clock.{clock_of}
use Rattle.due_text.specs.Cut.{before_comment, words_of}
use Rattle.due_text.specs.declared.decimal.NumberError.{NumberError}
use Rattle.due_text.specs.declared.decimal.NumberError.TheVariants.{NotDigits, TooLarge}
use Rattle.due_text.specs.declared.line.Fault.{Fault}
use Rattle.due_text.specs.declared.line.Fault.TheVariants.{NotNumber, WordCount, UnitAbove, ValveAbove, ClockBeyond, KeyAbove, Refused}

-- what is wrong with a word that is no number, or one above what is allowed
abbrev pub fault_of : (above : Fault) → NumberError → Fault
fault_of above NotDigits = NotNumber
fault_of above TooLarge = above

abbrev pub plain_key : Result ℕ NumberError → Result ℕ Fault
plain_key (Ok key) = Ok key
plain_key (Err why) = Err (fault_of KeyAbove why)

-- one word: a plain key
unfoldable pub plain_of : (key : List ℕ) → Result ℕ Fault
plain_of key = plain_key (number_of key)

-- with a number that is not above the last one allowed, what follows is said
abbrev pub up_to : (last : ℕ) (above : Fault) → Result ℕ NumberError → (next : ℕ → Result ℕ Fault) → Result ℕ Fault
up_to last above (Ok n) next = cond (ltb last n) (Err above) (next n)
up_to last above (Err why) next = Err (fault_of above why)

-- the answer to a flush, as what a line says
abbrev pub keyed_of : Answer ℕ → Result ℕ Fault
keyed_of (gives key) = Ok key
keyed_of (refuses n) = Err (Refused (refusal_of n))

abbrev pub due_at_clock : (unit valve : ℕ) → Result ℤ NumberError → Result ℕ Fault
due_at_clock unit valve (Ok seconds) = keyed_of (flush_key_of unit valve seconds)
due_at_clock unit valve (Err why) = Err (fault_of ClockBeyond why)

unfoldable pub due_at_unit : (unit : ℕ) (valve seconds : List ℕ) → Result ℕ Fault
due_at_unit unit valve seconds = up_to 255 ValveAbove (number_of valve) (λ v. due_at_clock unit v (clock_of seconds))

-- three words: the first that is wrong decides, from the left
unfoldable pub due_of : (unit valve seconds : List ℕ) → Result ℕ Fault
due_of unit valve seconds = up_to 65535 UnitAbove (number_of unit) (λ u. due_at_unit u valve seconds)

-- a line that says a key, or what is wrong with it
abbrev pub says : Result ℕ Fault → Result (Option ℕ) Fault
says (Ok key) = Ok (Some key)
says (Err why) = Err why

-- a line with no words says nothing
abbrev pub said_by : (words : List (List ℕ)) → Result (Option ℕ) Fault
said_by [] = Ok None
said_by (key ∷ []) = says (plain_of key)
said_by (first ∷ second ∷ []) = Err WordCount
said_by (unit ∷ valve ∷ seconds ∷ []) = says (due_of unit valve seconds)
said_by (first ∷ second ∷ third ∷ fourth ∷ more) = Err WordCount

unfoldable pub line_of : List ℕ → Result (Option ℕ) Fault
line_of line = said_by (words_of (before_comment line))
