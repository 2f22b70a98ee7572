-- What a controller may rely on, with fingerprints of w bits: a flush whose key came from `gp_flush_key` and went into a list is found at every
-- second of its hour, before zero as after it: `gp_flush_key` gives a key there, and the query answers 1 for it. Assumes nothing.
use Rattle.std.specs.Prelude.{◌≡◌, List, ℕ, ◌<◌, ℤ, length, take, get_or}
use Rattle.std.proofs.Math.Path.{sym, ap}
use Rattle.std.proofs.Common.{◌∙◌, arith}
use Rattle.answers.specs.Answers.{Answer, refuses, gives}
use Rattle.descriptor.specs.Descriptor.{descriptor_of}
use Rattle.flush.specs.Floor.{IsFloor}
use Rattle.flush.specs.FloorLaws.{only_floor}
use Rattle.flush.specs.FlushKey.{seconds_per_hour, hour_of, key_at_hour, flush_key_of}
use Rattle.fuse.specs.Query.{fingerprints_for, contains_bytes_of, told}
use Rattle.fuse.specs.Memory.{Memory}
use Rattle.c_api.specs.BuildTold.{BuildTold, refusal_code, told_build}
use Rattle.c_api.specs.KeyTold.{KeyTold, key_told, told_key}
use Rattle.c_api.specs.Reliable.{reliable}

-- what is told of a flush, and of its key, by a list as a build left it
pub record Found (w : ℕ) (list : BuildTold) (code key : ℕ) : Type 0 where
  pub has_key : code ≡ 0
  pub is_due : told (contains_bytes_of w list.descriptor (take (fingerprints_for (descriptor_of list.descriptor)) list.memory.fingerprints) key) ≡ 1

-- 0 is told of a key only
key_given : (answer : Answer ℕ) (before key : ℕ) → key_told 0 key ≡ told_key answer before → answer ≡ gives key
key_given (gives made) before key e = ap gives (sym (ap (λ (t : KeyTold). t.key) e))
key_given (refuses number) before key e = let code = ap (λ (t : KeyTold). t.code) e in absurd (omega arith)

-- `listed` and `asked` are seconds of one hour; key number j of the list is what `gp_flush_key` told for `listed`; `code` and `key` are what
-- it tells for `asked`
module _ (w : ℕ) (keys : List ℕ) (limit : ℕ) (memory : Memory) (room : List ℕ) (list : BuildTold) where
  pub found : list ≡ told_build w keys limit memory room → list.code < refusal_code 0
      → (unit valve : ℕ) (hour listed asked : ℤ) → IsFloor listed seconds_per_hour hour → IsFloor asked seconds_per_hour hour
      → (j before : ℕ) → j < length keys → key_told 0 (get_or keys j 0) ≡ told_key (flush_key_of unit valve listed) before
      → (code key old : ℕ) → key_told code key ≡ told_key (flush_key_of unit valve asked) old → Found w list code key
  unfolding flush_key_of
  found built named unit valve hour listed asked listed_in asked_in j before within made code key old e =
      let same : hour_of asked ≡ hour_of listed = sym (only_floor asked seconds_per_hour hour asked_in) ∙ only_floor listed seconds_per_hour hour listed_in in
      let given : flush_key_of unit valve asked ≡ gives (get_or keys j 0)
      = ap (key_at_hour unit valve) same ∙ key_given (flush_key_of unit valve listed) before (get_or keys j 0) made in
      let same_told : key_told code key ≡ key_told 0 (get_or keys j 0) = e ∙ ap (λ (a : Answer ℕ). told_key a old) given in
      record {
        has_key = ap (λ (t : KeyTold). t.code) same_told;
        is_due = rw (ap (λ (t : KeyTold). t.key) same_told) ((reliable w keys limit memory room list built).every_key_yes named j within);
      }
