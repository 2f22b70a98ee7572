-- Document 01, "What the promises say": these must not fit. Whatever program answers and leaves as `write` promises does not leave every room alone.
-- Assumes nothing.
use Rattle.std.specs.Prelude.{◌≡◌, refl, List, ℕ, replicate, get_or}
use Rattle.std.proofs.Common.{sym, ap, ◌∙◌, arith}
use Rattle.answers.specs.Answers.{Outcome}
use Rattle.answers.specs.Checks.{Done}
use Rattle.answers.specs.Never.{never}
use Rattle.descriptor.specs.declared.Descriptor.{Descriptor}
use Rattle.descriptor.specs.Descriptor.{is_length, bad_count, check_of, write_of}
use Rattle.descriptor.specs.RoundTrip.{Sized}

abbrev good : Descriptor
good = record { seed = 1; segment_length = 4; segment_length_mask = 3; segment_count_length = 4 }

good_sized : Sized good
good_sized = record { seed = omega arith; length = omega arith; mask = omega arith; count = omega arith }

-- the first byte is that of the seed
seed_written : get_or (write_of good (replicate 20 0)).leaves 0 0 ≡ 1
unfolding check_of is_length bad_count
seed_written = refl

-- of records whose numbers are those of their types
pub some_room_written : (program : Descriptor → (room : List ℕ) → Outcome Done (List ℕ))
    → ((d : Descriptor) (room : List ℕ) → Sized d → program d room ≡ write_of d room)
    → ((d : Descriptor) (room : List ℕ) → Sized d → (program d room).leaves ≡ room) → ⊥
some_room_written program fits alone =
    let left = ap (λ (o : Outcome Done (List ℕ)). get_or o.leaves 0 0) (fits good (replicate 20 0) good_sized) in
    let same = ap (λ (l : List ℕ). get_or l 0 0) (alone good (replicate 20 0) good_sized) in
    never (sym same ∙ left ∙ seed_written)
