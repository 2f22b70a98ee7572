-- What the function asks that tells C a build's answer, and what it promises, whatever the memory: the same for every width. Assumes nothing.
use Rattle.std.specs.Prelude.{◌≡◌, List, ℕ, ◌≤◌, length}
use Rattle.answers.specs.Answers.{Answer, gives}
use Rattle.answers.specs.Checks.{done}
use Rattle.descriptor.specs.Descriptor.{check_of, descriptor_size}
use Rattle.fuse.specs.Memory.{Memory}
use Rattle.fuse.specs.Build.{Success}
use Rattle.c_api.specs.BuildTold.{build_told, told_built}

pub record CanTell (answer : Answer Success) (room : List ℕ) : Type 0 where
  pub long : descriptor_size ≤ length room
  pub accepted : (s : Success) → answer ≡ gives s → check_of s.descriptor ≡ gives done

abbrev pub Tells : Answer Success → (before : List ℕ) → (code : ℕ) → (after : List ℕ) → Type 0
Tells answer before code after = (m : Memory) → build_told code m after ≡ told_built answer m before
