-- `c_api::tell` meets its contract: an accepted descriptor is written where there is room. Assumes nothing.
use Rattle.std.specs.Prelude.{Result, Ok, Err, IsOk}
use Rattle.std.proofs.Common.{◌≡◌, refl, ap, ◌∙◌, List, ◌++◌, ℕ, ◌≤◌, length, drop, le-ltb}
use Rattle.answers.specs.declared.Refusal.{Refusal}
use Rattle.answers.specs.Answers.{gives, Outcome, outcome}
use Rattle.answers.specs.Checks.{Done, done}
use Rattle.answers.specs.Paper.{passed}
use Rattle.answers.specs.Passed.{never_both}
use Rattle.descriptor.specs.declared.Descriptor.{Descriptor}
use Rattle.descriptor.specs.Descriptor.{check_of, descriptor_size, encode, write_of}
use Rattle.plan.specs.Paper.{paper}
use Rattle.c_api.proofs.tell.Goals as goal

has_passed : (result : Result (Unit {0}) Refusal) → passed result ≡ gives done → IsOk result
has_passed (Ok _) e = refl
has_passed (Err why) e = absurd (never_both e)

written : (d : Descriptor) (room after : List ℕ) (result : Result (Unit {0}) Refusal) → check_of d ≡ gives done → descriptor_size ≤ length room
    → outcome (passed result) after ≡ write_of d room → IsOk result
written d room after result good long e =
    let stored : write_of d room ≡ outcome (gives done) (encode d ++ drop descriptor_size room) = simp (le-ltb (length room) descriptor_size long, good) in
    has_passed result (ap (λ (o : Outcome Done (List ℕ)). o.answer) (e ∙ stored))

pub unwrap-requires : goal.unwrap-requires
unwrap-requires c = written _ c.args.descriptor.now _ _ (c.requires.accepted _ (ap paper c.in-Ok.is)) c.requires.long c.write.ensures
