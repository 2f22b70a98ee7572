-- Document 01, "What the promises say": these must not fit. Whatever program answers and leaves as a build of w bits promises does not refuse every list, and
-- does not give zero fingerprints, one descriptor or one attempt number for all. Assumes nothing.
use Rattle.std.specs.Prelude.{◌≡◌, ◌≢◌, List, [], ◌∷◌, ℕ, zero, suc, ◌^◌, ◌<◌, take, replicate, get_or}
use Rattle.std.proofs.Common.{sym, ap, ◌∙◌, arith}
use Rattle.answers.specs.Answers.{gives, Outcome}
use Rattle.descriptor.specs.declared.Descriptor.{Descriptor}
use Rattle.fuse.specs.Memory.{Memory}
use Rattle.fuse.specs.Build.{Success, success, build_of}
use Rattle.plan.specs.SmallLists.{room, described, two_of, Built}

abbrev pub Program : Type 0
Program = (keys : List ℕ) (limit : ℕ) → Memory → Outcome Success Memory

-- keys have 64 bits
abbrev pub Keys64 : List ℕ → Type 0
Keys64 keys = (j : ℕ) → get_or keys j 0 < 2 ^ 64

abbrev pub Fits : (w : ℕ) → Program → Type 0
Fits w program = (keys : List ℕ) (limit : ℕ) (m : Memory) → Keys64 keys → program keys limit m ≡ build_of w keys limit m

-- this is so of every list that the program gives
abbrev pub OfEach : Program → (Success → Memory → Type 0) → Type 0
OfEach program rule =
    (keys : List ℕ) (limit : ℕ) (m : Memory) (s : Success) → Keys64 keys → (program keys limit m).answer ≡ gives s → rule s (program keys limit m).leaves

abbrev pub Nothing : Success → Memory → Type 0
Nothing s after = ⊥

abbrev pub ZeroFingerprints : Success → Memory → Type 0
ZeroFingerprints s after = take s.slots after.fingerprints ≡ replicate s.slots 0

abbrev pub HasDescriptor : Descriptor → Success → Memory → Type 0
HasDescriptor d s after = s.descriptor ≡ d

abbrev pub HasNumber : ℕ → Success → Memory → Type 0
HasNumber i s after = s.attempt ≡ i

pub record MustNotFit (program : Program) : Type 0 where
  pub some_list_given : ¬ OfEach program Nothing
  pub not_zero_fingerprints : ¬ OfEach program ZeroFingerprints
  pub not_one_descriptor : (d : Descriptor) → ¬ OfEach program (HasDescriptor d)
  pub not_one_number : (i : ℕ) → ¬ OfEach program (HasNumber i)

none_64 : Keys64 []
none_64 j = omega arith

two_64 : Keys64 (2 ∷ 4 ∷ [])
two_64 zero = omega arith
two_64 (suc zero) = omega arith
two_64 (suc (suc j)) = omega arith

-- from the builds of two keys and of none, as the width has them
module _ {w sixth tenth : ℕ} (built : Built w sixth tenth) (some : sixth ≢ 0) (program : Program) (fits : Fits w program) where
  answered : {keys : List ℕ} {limit : ℕ} {o : Outcome Success Memory} → Keys64 keys → build_of w keys limit room ≡ o
      → (program keys limit room).answer ≡ o.answer
  answered {keys} {limit} h e = ap (λ (o : Outcome Success Memory). o.answer) (fits keys limit room h ∙ e)

  -- the same rule of both lists
  both : (rule : Success → Memory → Type 0) → OfEach program rule
      → rule (success (described 10451216379200822465) 12 1) (program [] 1 room).leaves
      × rule (success (described 13757245211066428519) 12 2) (program (2 ∷ 4 ∷ []) 2 room).leaves
  both rule each = (each [] 1 room _ none_64 (answered none_64 built.no_keys), each (2 ∷ 4 ∷ []) 2 room _ two_64 (answered two_64 built.two_keys))

  pub must_not_fit : MustNotFit program
  must_not_fit =
      record {
        some_list_given = λ none. (both Nothing none).0;
        not_zero_fingerprints = λ zeros.
            let left : take 12 (program (2 ∷ 4 ∷ []) 2 room).leaves.fingerprints ≡ two_of sixth tenth
            = ap (λ (o : Outcome Success Memory). take 12 o.leaves.fingerprints) (fits (2 ∷ 4 ∷ []) 2 room two_64 ∙ built.two_keys) in
            let none : two_of sixth tenth ≡ replicate 12 0 = sym left ∙ (both ZeroFingerprints zeros).1 in
            some (ap (λ (l : List ℕ). get_or l 6 0) none);
        not_one_descriptor = λ d one.
            let same : described 10451216379200822465 ≡ described 13757245211066428519 = (both (HasDescriptor d) one).0 ∙ sym (both (HasDescriptor d) one).1 in
            absurd (let z : ◌≡◌ {A = ℕ} 10451216379200822465 13757245211066428519 = ap (λ (x : Descriptor). x.seed) same in omega arith);
        not_one_number = λ i one. absurd (let z : ◌≡◌ {A = ℕ} 1 2 = (both (HasNumber i) one).0 ∙ sym (both (HasNumber i) one).1 in omega arith);
      }
