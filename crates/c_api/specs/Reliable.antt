-- What a C program may rely on, with fingerprints of w bits. After a build that names an attempt: it is the first allowed one without a stuck set, and the query answers 1 for every
-- listed key, asked of the 20 bytes and of as many fingerprints as they speak of, both as the build left them. After 65,536 + 6: every allowed attempt
-- has a stuck set. Assumes nothing.
use Rattle.std.specs.Prelude.{◌≡◌, refl, Bool, true, false, cond, List, ℕ, ◌+◌, ◌-◌, ◌≤◌, ◌<◌, ltb, length, take, drop, get_or}
use Rattle.std.proofs.Common.{ap, arith}
use Rattle.answers.specs.Answers.{Answer, refuses, gives, Outcome}
use Rattle.descriptor.specs.Descriptor.{descriptor_size, descriptor_of}
use Rattle.stuck.specs.FirstFree.{First, AllStuck}
use Rattle.fuse.specs.Attempts.{max_attempts, slots_at}
use Rattle.fuse.specs.Query.{fingerprints_for, contains_bytes_of, told}
use Rattle.fuse.specs.Memory.{Memory}
use Rattle.fuse.proofs.Checked.{passed}
use Rattle.fuse.specs.Build.{Success, search_of, build_of}
use Rattle.fuse.specs.Demand.{Demand3}
use Rattle.fuse.proofs.Demanded.{demand_met}
use Rattle.fuse.proofs.ByTwentyBytes.{success_is, listed_key_yes_by_bytes}
use Rattle.c_api.specs.BuildTold.{BuildTold, build_told, refusal_code, told_built, told_build}

pub record Reliable (w : ℕ) (keys : List ℕ) (limit : ℕ) (t : BuildTold) : Type 0 where
  pub names_the_first : t.code < refusal_code 0 → First (slots_at keys) 1 limit t.code
  pub every_key_yes : t.code < refusal_code 0 → (j : ℕ) → j < length keys
      → told (contains_bytes_of w t.descriptor (take (fingerprints_for (descriptor_of t.descriptor)) t.memory.fingerprints) (get_or keys j 0)) ≡ 1
  pub all_stuck : t.code ≡ refusal_code 6 → AllStuck (slots_at keys) 1 limit

module _ (w : ℕ) (keys : List ℕ) (limit : ℕ) (before : Memory) (room : List ℕ) where
  abbrev pub built : Outcome Success Memory
  built = build_of w keys limit before

  -- so many attempts
  searched : built ≡ search_of w keys limit 1 (limit + 1 - 1) before
  searched = ap (λ (count : ℕ). search_of w keys limit 1 count before) (omega arith)

  pub demanded : Demand3 w keys 1 limit before built.answer built.leaves.fingerprints
  demanded = demand_met w keys 1 limit before (λ some. (omega arith, some)) built searched

  -- a success has a limit in range, so its number is like no refusal's
  limited : (s : Success) → built.answer ≡ gives s → limit ≤ max_attempts
  limited s e = (passed (length keys) limit _ _ _ _ _ _ _ (success_is w keys before limit 1 limit built refl s e).0).most

  reliable_built : (answer : Answer Success) → built.answer ≡ answer → Reliable w keys limit (told_built answer built.leaves room)
  reliable_built (refuses number) e =
      record {
        names_the_first = λ named. absurd (omega arith);
        every_key_yes = λ named. absurd (omega arith);
        all_stuck = λ six. let number_is : number ≡ 6 = omega arith in (demanded.six.0 (rw number_is at e)).1.1;
      }
  reliable_built (gives s) e =
      record {
        names_the_first = λ named. demanded.names_the_first s e;
        every_key_yes = λ named j listed.
            ap told (listed_key_yes_by_bytes w keys before 1 limit (λ some. (omega arith, some)) built searched s e (drop descriptor_size room) j listed);
        all_stuck = λ six. absurd (omega (arith, six, (demanded.names_the_first s e).high, limited s e));
      }

  reliable_told : (short : Bool) → Reliable w keys limit (cond short (build_told (refusal_code 7) before room) (told_built built.answer built.leaves room))
  reliable_told true =
      record {
        names_the_first = λ named. absurd (omega arith);
        every_key_yes = λ named. absurd (omega arith);
        all_stuck = λ six. absurd (omega arith);
      }
  reliable_told false = reliable_built built.answer refl

  pub reliable : (t : BuildTold) → t ≡ told_build w keys limit before room → Reliable w keys limit t
  reliable t e = rw e (reliable_told (ltb (length room) descriptor_size))
