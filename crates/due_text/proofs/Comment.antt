-- A line up to its comment: what stands before the first `#`. Assumes nothing.
use Rattle.std.proofs.Common.{◌≡◌, refl, ap, ℕ, ◌+◌, Bool, true, false, cond, not, List, [], ◌∷◌, length, take, eqb, add_comm, add-one}
use Rattle.std.specs.Prelude.{Option, unwrap_or}
use Rattle.std.specs.List.{position, position_or_len}
use Rattle.due_text.specs.Cut.{before_comment}
use Rattle.due_text.proofs.Words.{end_of}

-- how far the text goes, and whether that is short of its end
place : (text : List ℕ) → ℕ
place text = position_or_len (λ b. eqb b 35) text

before_hash : (text : List ℕ) → take (place text) text ≡ before_comment text
unfolding before_comment place
before_hash [] = refl
before_hash (byte ∷ rest) = by (eqb byte 35) (before_hash rest)
  where
    by : (b : Bool) → take (place rest) rest ≡ before_comment rest
        → take (cond (not b) (1 + place rest) 0) (byte ∷ rest) ≡ cond b [] (byte ∷ before_comment rest)
    by true e = refl
    by false e = rw (add_comm 1 (place rest), add-one) (ap (λ (more : List ℕ). byte ∷ more) e)

pub up_to_comment : (text : List ℕ) {found : Option ℕ} {end : ℕ} → found ≡ position (λ b. eqb b 35) text → end ≡ unwrap_or found (length text)
    → take end text ≡ before_comment text
unfolding place
up_to_comment text p e = rw (end_of (λ b. eqb b 35) text p e) (before_hash text)
