-- Document 01's cases C10, C11 and C12 hold, for the table of all cases. Assumes nothing.
use Rattle.std.specs.Prelude.{◌≡◌, refl, List, [], ◌∷◌, suc, ◌<◌, length, replicate}
use Rattle.std.proofs.Common.{subst, lit<}
use Rattle.stuck.specs.Stuck.{Slots, every_key, NoneAlone, Stuck, pick}
use Rattle.stuck.specs.Fill.{store, fill}
use Rattle.stuck.specs.FillAnswers.{entries}
use Rattle.stuck.specs.Sets.{length-every, has-every}
use Rattle.stuck.specs.Survives.{none_stuck_iff}
use Rattle.stuck.specs.Total.{total, count}
use Rattle.stuck.specs.TouchCount.{touch_count}
use Rattle.stuck.specs.Plain.{can_go, or_else, first_below, first_to_go, after, plainly, plain}
use Rattle.stuck.specs.Cases.{two_alike, square, three_of_it, C10, C11, C12}
use Rattle.stuck.proofs.PlainComplete.{plain_complete}

-- ---- the plain search removes none of the keys, or all

stuck_if : (keys : List Slots) → 0 < length keys → (plain keys).left ≡ every_key keys → Stuck keys (every_key keys)
stuck_if keys some e =
    record {
      fits = length-every keys;
      nonempty = (0, has-every keys 0 some);
      none_alone = subst (NoneAlone keys) e (plain_complete keys).stops;
    }

pub C10_holds : C10
unfolding plain plainly after first_to_go first_below or_else can_go touch_count count total every_key
C10_holds = stuck_if two_alike (lit< tt) refl

pub C11_holds : C11
unfolding plain plainly after first_to_go first_below or_else can_go touch_count count total every_key
C11_holds = stuck_if square (lit< tt) refl

pub C12_holds : C12
unfolding plain plainly after first_to_go first_below or_else can_go touch_count count total every_key
C12_holds = (none_stuck_iff (plain_complete three_of_it)).1 refl

-- ---- C12's keys filled, with the fingerprints 1, 2, 3, over 12 slots that hold 0

-- the key removed last, key 1, is stored first: slot 0 becomes 2; then slot 4 becomes 1 xor 2; then slot 9 becomes 3 xor 2 xor 3
pub C12_filled : fill (entries three_of_it (λ i. suc i) (pick 2 2 ∷ pick 0 1 ∷ pick 1 0 ∷ [])) (replicate 12 0)
    ≡ 2 ∷ 0 ∷ 0 ∷ 0 ∷ 3 ∷ 0 ∷ 0 ∷ 0 ∷ 0 ∷ 2 ∷ 0 ∷ 0 ∷ []
unfolding fill store
C12_filled = refl
