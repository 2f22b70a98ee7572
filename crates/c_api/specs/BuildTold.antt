-- Ours, not document 01's, which exports only the query: the build (document 01, "Answers") offered to C as well, with a room for the descriptor's
-- 20 bytes. A short room is refused with 7 before all else, so that a build that succeeds can always write its descriptor. What the C program
-- is told, and all that it lent. Assumes nothing.
use Rattle.std.specs.Prelude.{cond, List, ◌++◌, ℕ, ◌+◌, ltb, length, drop}
use Rattle.answers.specs.Answers.{Answer, refuses, gives}
use Rattle.descriptor.specs.Descriptor.{descriptor_size, encode}
use Rattle.fuse.specs.Memory.{Memory}
use Rattle.fuse.specs.Build.{Success, build_of}

pub record BuildTold : Type 0 where
  pub code : ℕ
  pub memory : Memory
  pub descriptor : List ℕ

abbrev pub build_told : ℕ → Memory → (descriptor : List ℕ) → BuildTold
build_told code memory descriptor = record { code = code; memory = memory; descriptor = descriptor }

-- attempt numbers stay below this, so that no refusal is taken for one
abbrev pub refusal_code : ℕ → ℕ
refusal_code number = 65536 + number

-- the attempt number, and the descriptor's 20 bytes written; or 65,536 plus the refusal's number, and the room unchanged
abbrev pub told_built : Answer Success → Memory → (room : List ℕ) → BuildTold
told_built (gives s) memory room = build_told s.attempt memory (encode s.descriptor ++ drop descriptor_size room)
told_built (refuses number) memory room = build_told (refusal_code number) memory room

-- a room under 20 bytes is refused with 7 before all else
abbrev pub told_build : (w : ℕ) → List ℕ → (limit : ℕ) → Memory → (room : List ℕ) → BuildTold
told_build w keys limit memory room =
    let o = build_of w keys limit memory in
    cond (ltb (length room) descriptor_size) (build_told (refusal_code 7) memory room) (told_built o.answer o.leaves room)
