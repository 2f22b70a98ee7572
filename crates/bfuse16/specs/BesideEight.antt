-- Document 02, wish 2, of the code: what `bfuse16` answers and leaves beside what `bfuse8` does, for the same keys and limit or number and buffers of the same
-- lengths. It follows from the promises alone. Assumes nothing.
use Rattle.std.specs.Prelude.{◌≡◌, true, List, map, ℕ, ◌%◌, take, Result, Ok}
use Rattle.std.proofs.Common.{ap, arith}
use Rattle.words.specs.Low.{low}
use Rattle.answers.specs.declared.Refusal.{Refusal}
use Rattle.answers.specs.Answers.{gives, outcome}
use Rattle.fuse.specs.Memory.{Memory}
use Rattle.fuse.specs.Build.{build_of, attempt_of}
use Rattle.fuse.specs.Query.{contains_of}
use Rattle.fuse.specs.SameLengths.{SameLengths}
use Rattle.fuse.specs.Narrow.{NarrowerList}
use Rattle.fuse.proofs.Widths.{build_narrower, attempt_narrower}
use Rattle.plan.specs.declared.Built.{Built}
use Rattle.plan.specs.Paper.{paper}
use Rattle.plan.specs.OneAnswer.{one_reading}

pub record BesideEight (r8 r16 : Result Built Refusal) (after8 after16 : Memory) : Type 0 where
  -- the same refusal, or the same descriptor, A and attempt number
  pub same_answer : r8 ≡ r16
  -- the 16-bit fingerprints modulo 256 are the 8-bit ones
  pub modulo_256 : (built : Built) → r16 ≡ Ok built
      → map (λ (x : ℕ). x % 256) (take built.slots after16.fingerprints) ≡ take built.slots after8.fingerprints
  -- a key that the 16-bit list says yes to gets a yes of the 8-bit list: no needless flush is new
  pub no_new_yes : (built : Built) (key : ℕ) → r16 ≡ Ok built
      → contains_of 16 built.descriptor (take built.slots after16.fingerprints) key ≡ gives true
      → contains_of 8 built.descriptor (take built.slots after8.fingerprints) key ≡ gives true

beside : (r8 r16 : Result Built Refusal) (after8 after16 : Memory) → NarrowerList 8 16 (outcome (paper r8) after8) (outcome (paper r16) after16)
    → BesideEight r8 r16 after8 after16
unfolding low
beside r8 r16 after8 after16 lists =
    record {
      same_answer = one_reading r8 r16 lists.same_answer;
      modulo_256 = λ built e. lists.fingerprints_modulo _ (ap paper e);
      no_new_yes = λ built key e. lists.yes_of_both _ (ap paper e) key;
    }

module _ (keys : List ℕ) {m8 m16 : Memory} (lengths : SameLengths m8 m16) (r8 r16 : Result Built Refusal) (after8 after16 : Memory) where
  pub build_beside_eight : (limit : ℕ) → outcome (paper r8) after8 ≡ build_of 8 keys limit m8 → outcome (paper r16) after16 ≡ build_of 16 keys limit m16
      → BesideEight r8 r16 after8 after16
  build_beside_eight limit p q = beside r8 r16 after8 after16 (build_narrower (omega arith) keys lengths limit p q)

  pub attempt_beside_eight : (number : ℕ) → outcome (paper r8) after8 ≡ attempt_of 8 keys number m8
      → outcome (paper r16) after16 ≡ attempt_of 16 keys number m16 → BesideEight r8 r16 after8 after16
  attempt_beside_eight number p q = beside r8 r16 after8 after16 (attempt_narrower (omega arith) keys lengths number p q)
