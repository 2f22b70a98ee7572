-- No set of keys is stuck exactly when some complete run removes all of them, and exactly when every complete run does.
-- Assumes nothing.
use Rattle.std.specs.Prelude.{◌↔◌, ◌⊎◌, List}
use Rattle.stuck.specs.Stuck.{Slots, SomeStuck, NoneStuck, RemovesAll, EveryRunRemovesAll}
use Rattle.stuck.specs.Survives.{none_stuck_iff, stuck_or_none}
use Rattle.stuck.specs.Plain.{plain}
use Rattle.stuck.proofs.PlainComplete.{plain_complete}

pub none_stuck_every : (keys : List Slots) → NoneStuck keys ↔ EveryRunRemovesAll keys
none_stuck_every keys = (λ none r l c. (none_stuck_iff c).0 none, λ every. (none_stuck_iff (plain_complete keys)).1 (every _ _ (plain_complete keys)))

pub none_stuck_some : (keys : List Slots) → NoneStuck keys ↔ RemovesAll keys
none_stuck_some keys = (
  λ none.
      record {
        picks = (plain keys).picks;
        left = (plain keys).left;
        complete = plain_complete keys;
        all = (none_stuck_iff (plain_complete keys)).0 none;
      },
  λ run. (none_stuck_iff run.complete).1 run.all,
)

-- it can be told which
pub stuck? : (keys : List Slots) → SomeStuck keys ⊎ NoneStuck keys
stuck? keys = stuck_or_none (plain_complete keys)
