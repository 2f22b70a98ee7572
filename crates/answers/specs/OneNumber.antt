-- No two refusals share a number: from the number the refusal can be told. No number is above 12. Assumes nothing.
use Rattle.std.specs.Prelude.{ℕ, ◌-◌, ◌≤◌, ◌≡◌, refl, List, [], ◌∷◌, get_or}
use Rattle.std.proofs.Common.{sym, ap, ◌∙◌, arith}
use Rattle.answers.specs.declared.Refusal.{Refusal}
use Rattle.answers.specs.declared.Refusal.TheVariants.{TooManyKeys, AttemptOutOfRange, ShortFingerprints, ShortScratch, RepeatedKeys, Stuck}
use Rattle.answers.specs.declared.Refusal.TheVariants.{ShortDescriptor, SegmentLength, Mask, CountLength, FingerprintLength, Clock}
use Rattle.answers.specs.Answers.{number_of}

-- the refusals in the order of their numbers
refusals : List Refusal
refusals =
    TooManyKeys ∷ AttemptOutOfRange ∷ ShortFingerprints ∷ ShortScratch ∷ RepeatedKeys ∷ Stuck
    ∷ ShortDescriptor ∷ SegmentLength ∷ Mask ∷ CountLength ∷ FingerprintLength ∷ Clock ∷ []

-- the refusal of a number from 1 to 12
pub refusal_of : ℕ → Refusal
refusal_of n = get_or refusals (n - 1) Clock

pub refusal_number : (r : Refusal) → refusal_of (number_of r) ≡ r
unfolding refusal_of refusals
refusal_number TooManyKeys = refl
refusal_number AttemptOutOfRange = refl
refusal_number ShortFingerprints = refl
refusal_number ShortScratch = refl
refusal_number RepeatedKeys = refl
refusal_number Stuck = refl
refusal_number ShortDescriptor = refl
refusal_number SegmentLength = refl
refusal_number Mask = refl
refusal_number CountLength = refl
refusal_number FingerprintLength = refl
refusal_number Clock = refl

pub one_number : (r s : Refusal) → number_of r ≡ number_of s → r ≡ s
one_number r s e = sym (refusal_number r) ∙ ap refusal_of e ∙ refusal_number s

pub up_to_twelve : (r : Refusal) → number_of r ≤ 12
up_to_twelve TooManyKeys = omega arith
up_to_twelve AttemptOutOfRange = omega arith
up_to_twelve ShortFingerprints = omega arith
up_to_twelve ShortScratch = omega arith
up_to_twelve RepeatedKeys = omega arith
up_to_twelve Stuck = omega arith
up_to_twelve ShortDescriptor = omega arith
up_to_twelve SegmentLength = omega arith
up_to_twelve Mask = omega arith
up_to_twelve CountLength = omega arith
up_to_twelve FingerprintLength = omega arith
up_to_twelve Clock = omega arith
