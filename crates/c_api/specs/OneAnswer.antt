-- No other number fits the promise of a C call, nor another memory. Assumes nothing.
use Rattle.std.specs.Prelude.{◌≡◌, List, ℕ, ℤ}
use Rattle.std.proofs.Common.{sym, ap, ◌∙◌}
use Rattle.flush.specs.FlushKey.{flush_key_of}
use Rattle.fuse.specs.Memory.{Memory}
use Rattle.query.specs.OneAnswer.{OneTold, one_contains_told}
use Rattle.c_api.specs.BuildTold.{BuildTold, build_told, told_build}
use Rattle.c_api.specs.KeyTold.{KeyTold, key_told, told_key}

pub one_gp_fuse8_contains : OneTold 8
one_gp_fuse8_contains = one_contains_told 8

pub one_gp_fuse16_contains : OneTold 16
one_gp_fuse16_contains = one_contains_told 16

pub one_gp_flush_key : (unit valve : ℕ) (seconds : ℤ) (before r s key other : ℕ)
    → key_told r key ≡ told_key (flush_key_of unit valve seconds) before → key_told s other ≡ told_key (flush_key_of unit valve seconds) before
    → (r ≡ s) × (key ≡ other)
one_gp_flush_key unit valve seconds before r s key other p q =
    (ap (λ (t : KeyTold). t.code) (p ∙ sym q), ap (λ (t : KeyTold). t.key) (p ∙ sym q))

-- a build with fingerprints of w bits
abbrev pub OneBuild : (w : ℕ) → Type 0
OneBuild w =
    (keys : List ℕ) (limit : ℕ) (before : Memory) (room : List ℕ) (r s : ℕ) (after other : Memory) (descriptor another : List ℕ)
    → build_told r after descriptor ≡ told_build w keys limit before room → build_told s other another ≡ told_build w keys limit before room
    → (r ≡ s) × (after ≡ other) × (descriptor ≡ another)

one_build : (w : ℕ) → OneBuild w
one_build w keys limit before room r s after other descriptor another p q = (
  ap (λ (t : BuildTold). t.code) (p ∙ sym q),
  ap (λ (t : BuildTold). t.memory) (p ∙ sym q),
  ap (λ (t : BuildTold). t.descriptor) (p ∙ sym q),
)

pub one_gp_fuse8_build : OneBuild 8
one_gp_fuse8_build = one_build 8

pub one_gp_fuse16_build : OneBuild 16
one_gp_fuse16_build = one_build 16
