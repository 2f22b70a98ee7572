-- Document 01, "One attempt, and the order that fixes the bytes", in lent buffers: each slot's count and xor of positions share one number,
-- count × 4 + positions, as in the Rust but of 16 bits; the lone slots lie in a list that is stacked and popped at its end; the keys
-- taken lie in two lists, by hash and by position. Assumes nothing.
use Rattle.std.specs.Prelude.{List, [], ◌∷◌, ◌++◌, map, reverse, ℕ, zero, suc, ◌/◌, ◌%◌, get_or, take}
use Rattle.stuck.specs.Stuck.{Pick, pick}
use Rattle.machine.specs.Machine.{Sums}

-- the most keys that a slot can count: 16 bits hold count × 4 + 3 up to there
abbrev pub max_touches : ℕ
max_touches = 16383

-- the counts alone
abbrev pub counts_in : List ℕ → List ℕ
counts_in counts = map (λ packed. packed / 4) counts

-- the xors of positions alone
abbrev pub positions_in : List ℕ → List ℕ
positions_in counts = map (λ packed. packed % 4) counts

-- what each slot knows, from the packed counts and the sums of hashes
unfoldable pub sums_in : List ℕ → List ℕ → Sums
sums_in counts sums = record { counts = counts_in counts; hashes = sums; positions = positions_in counts }

-- the first `top` of the list, the last stacked first
unfoldable pub stack_of : List ℕ → ℕ → List ℕ
stack_of lone top = reverse (take top lone)

-- the first k of the two lists, as keys taken, the first taken first
unfoldable pub picks_in : ℕ → List ℕ → List ℕ → List Pick
picks_in zero order positions = []
picks_in (suc k) order positions = picks_in k order positions ++ (pick (get_or order k 0) (get_or positions k 0) ∷ [])
