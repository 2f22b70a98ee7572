-- The answer of a query, at any width, is the one of which its number is told: `contains_told` promises that it can be read off the number.
-- Assumes nothing.
use Rattle.std.specs.Prelude.{◌≡◌, refl, Bool, true, false, not, cond, List, ℕ, ◌≤◌, eqb, length}
use Rattle.std.proofs.Common.{sym, ap, ◌∙◌, arith, ne_eqb}
use Rattle.answers.specs.Answers.{code_of, Answer, refuses, gives}
use Rattle.answers.specs.Checks.{Done, done, refuse_if, ◌then◌}
use Rattle.descriptor.specs.declared.Descriptor.{Descriptor}
use Rattle.descriptor.specs.Descriptor.{check_of, descriptor_size, descriptor_of}
use Rattle.fuse.specs.Query.{yes?, fingerprints_for, contains_of, contains_bytes_of, told}
use Rattle.query.specs.FirstFault.{answer_told}
use Rattle.query.specs.ByBytes.{long}

-- what checks 8 to 10, then 11, then the fingerprints say
abbrev said : (checks : Answer Done) (same listed : Bool) → Answer Bool
said checks same listed = (checks then refuse_if (not same) 11) then gives listed

read_back : (checks : Answer Done) (same listed : Bool) → let code = told (said checks same listed) in
    cond (eqb code 0) (gives false) (cond (eqb code 1) (gives true) (checks then refuses 11)) ≡ said checks same listed
read_back (refuses number) same listed = simp (ne_eqb (code_of number) 0 (λ z. omega arith), ne_eqb (code_of number) 1 (λ z. omega arith))
read_back (gives done) false listed = refl
read_back (gives done) true false = refl
read_back (gives done) true true = refl

pub told_back : (w : ℕ) (d : Descriptor) (fingerprints : List ℕ) (key : ℕ) {code : ℕ}
    → code ≡ told (contains_of w d fingerprints key) → answer_told code d ≡ contains_of w d fingerprints key
unfolding contains_of check_of
told_back w d fingerprints key e =
    ap (λ (code : ℕ). answer_told code d) e ∙ read_back (check_of d) (eqb (length fingerprints) (fingerprints_for d)) (yes? w d fingerprints key)

-- and so it is read off the number that C is told, with the record of the bytes, where there are enough of them
pub read_off : (w : ℕ) (bytes fingerprints : List ℕ) (key : ℕ) {code : ℕ} → code ≡ told (contains_bytes_of w bytes fingerprints key)
    → descriptor_size ≤ length bytes → answer_told code (descriptor_of bytes) ≡ contains_of w (descriptor_of bytes) fingerprints key
read_off w bytes fingerprints key e enough =
    told_back w (descriptor_of bytes) fingerprints key (e ∙ ap told (sym (long w bytes fingerprints key enough refl)))
