-- What the answer whether checks 8 to 11 pass says of a query, at any width: where they pass, the record is good and each of its slots has a
-- fingerprint; where they do not, the answer is the first fault. Assumes nothing.
use Rattle.std.specs.Prelude.{◌≡◌, refl, Bool, true, false, not, List, ℕ, eqb, length}
use Rattle.std.proofs.Common.{sym, ◌∙◌, eqb-true}
use Rattle.std.proofs.lemmas.Bool.{false≢true, not-true, not-false}
use Rattle.answers.specs.Answers.{Answer, refuses, gives}
use Rattle.answers.specs.Checks.{Done, done, refuse_if, ◌then◌}
use Rattle.descriptor.specs.declared.Descriptor.{Descriptor}
use Rattle.descriptor.specs.Descriptor.{check_of}
use Rattle.fuse.specs.Query.{yes?, fingerprints_for, accepts, contains_of}
use Rattle.query.specs.FirstFault.{unseeded, passed?, suits_of, first_fault}

-- of a descriptor and the fingerprints asked with it
abbrev pub suits? : Descriptor → List ℕ → Bool
suits? d fingerprints = suits_of d (length fingerprints)

-- the checks are document 01's
pub suits_accepts : (d : Descriptor) (fingerprints : List ℕ) → suits? d fingerprints ≡ passed? (accepts d fingerprints)
suits_accepts d fingerprints = refl

-- and none of them looks at the seed
pub seedless : (d : Descriptor) (given : ℕ)
    → suits_of d given ≡ suits_of (unseeded d.segment_length d.segment_length_mask d.segment_count_length) given
unfolding check_of
seedless d given = refl

-- ---- where they pass

pub record Suited (d : Descriptor) (fingerprints : List ℕ) : Type 0 where
  pub good : check_of d ≡ gives done
  pub whole : length fingerprints ≡ fingerprints_for d

pub both_passed : (checks : Answer Done) (same : Bool) → passed? (checks then refuse_if (not same) 11) ≡ true → (checks ≡ gives done) × (same ≡ true)
both_passed (refuses number) same e = absurd (false≢true e)
both_passed (gives done) false e = absurd (false≢true e)
both_passed (gives done) true e = (refl, refl)

pub suited : (d : Descriptor) (fingerprints : List ℕ) {suits : Bool} → suits ≡ suits? d fingerprints → not suits ≡ false → Suited d fingerprints
suited d fingerprints is left =
    let both = both_passed (check_of d) (eqb (length fingerprints) (fingerprints_for d)) (sym is ∙ not-false _ left) in
    record { good = both.0; whole = eqb-true (length fingerprints) (fingerprints_for d) both.1 }

-- ---- where they do not

first_fault_lem : (checks : Answer Done) (same listed : Bool) → passed? (checks then refuse_if (not same) 11) ≡ false
    → checks then refuses 11 ≡ (checks then refuse_if (not same) 11) then gives listed
first_fault_lem (refuses number) same listed e = refl
first_fault_lem (gives done) false listed e = refl
first_fault_lem (gives done) true listed e = absurd (false≢true (sym e))

pub unsuited : (w : ℕ) (d : Descriptor) (fingerprints : List ℕ) (key : ℕ) {suits : Bool} {answer : Answer Bool} → suits ≡ suits? d fingerprints
    → not suits ≡ true → answer ≡ first_fault d → answer ≡ contains_of w d fingerprints key
unfolding contains_of
unsuited w d fingerprints key is taken e =
    e
    ∙ first_fault_lem (check_of d) (eqb (length fingerprints) (fingerprints_for d)) (yes? w d fingerprints key) (sym is ∙ not-true _ taken)
