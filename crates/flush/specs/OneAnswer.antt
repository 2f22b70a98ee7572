-- No other answer of `flush_key` fits its promise. Assumes nothing.
use Rattle.std.specs.Prelude.{◌≡◌, ℕ, ℤ, Result}
use Rattle.answers.specs.declared.Refusal.{Refusal}
use Rattle.answers.specs.Paper.{paper}
use Rattle.answers.specs.OneReading.{one_answer}
use Rattle.flush.specs.FlushKey.{flush_key_of}

pub one_flush_key : (unit valve : ℕ) (seconds : ℤ) (r s : Result ℕ Refusal)
    → paper r ≡ flush_key_of unit valve seconds → paper s ≡ flush_key_of unit valve seconds → r ≡ s
one_flush_key unit valve seconds = one_answer
