-- What a query's answer says: yes exactly where the checks pass and nothing is left over; and a query by 20 bytes is the query by the record
-- that is read from them. Assumes nothing.
use Rattle.std.specs.Prelude.{◌≡◌, refl, ◌↔◌, true, List, ℕ, ltb, length}
use Rattle.std.proofs.Common.{eq-eqb, eqb-true}
use Rattle.answers.specs.Answers.{Answer, refuses, gives}
use Rattle.answers.specs.Checks.{Done, done, refuse_if, ◌then◌}
use Rattle.answers.specs.Passed.{both_pass}
use Rattle.descriptor.specs.declared.Descriptor.{Descriptor}
use Rattle.descriptor.specs.Descriptor.{check_of, descriptor_size, descriptor_of, read_of}
use Rattle.fuse.specs.Query.{left_over, yes?, accepts, contains_of, contains_bytes_of}

pub yes_means : (w : ℕ) (d : Descriptor) (fingerprints : List ℕ) (key : ℕ)
    → (contains_of w d fingerprints key ≡ gives true) ↔ ((accepts d fingerprints ≡ gives done) × (left_over w d fingerprints key ≡ 0))
unfolding contains_of
yes_means w d fingerprints key = (
  λ e.
      let p = both_pass (accepts d fingerprints) (gives (yes? w d fingerprints key)) true e in
      let yes : yes? w d fingerprints key ≡ true = let q = p.1 in cc in
      (p.0, eqb-true (left_over w d fingerprints key) 0 yes),
  λ p. simp (p.0, eq-eqb (left_over w d fingerprints key) 0 p.1),
)

-- ---- by bytes

-- what is asked of the value, where there is one
abbrev pub asked : {A B : Type 0} → Answer A → (A → Answer B) → Answer B
asked (refuses number) ask = refuses number
asked (gives value) ask = ask value

-- asking makes the checks once more
once_more : {A B : Type 0} (first checks : Answer Done) (value : A) (ask : A → Answer B)
    → ((number : ℕ) → checks ≡ refuses number → ask value ≡ refuses number) → first then ask value ≡ asked (first then checks then gives value) ask
once_more (refuses number) checks value ask same = refl
once_more (gives done) (refuses number) value ask same = same number refl
once_more (gives done) (gives done) value ask same = refl

pub query_by_bytes : (w : ℕ) (bytes fingerprints : List ℕ) (key : ℕ)
    → contains_bytes_of w bytes fingerprints key ≡ asked (read_of bytes) (λ d. contains_of w d fingerprints key)
unfolding contains_bytes_of contains_of
query_by_bytes w bytes fingerprints key =
    once_more (refuse_if (ltb (length bytes) descriptor_size) 7) (check_of (descriptor_of bytes)) (descriptor_of bytes) (λ d. contains_of w d fingerprints key)
    (λ number e. simp e)
