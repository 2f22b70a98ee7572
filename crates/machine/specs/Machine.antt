-- Document 01, "One attempt, and the order that fixes the bytes": the attempt as a machine that knows the keys only through each
-- slot's count, xor of hashes and xor of positions. The slots of a hash are any function. Definitions only. Assumes nothing.
use Rattle.std.specs.Prelude.{Bool, true, false, cond, List, [], ◌∷◌, ℕ, zero, suc, ◌+◌, ◌-◌, length, get_or, set, eqb}
use Rattle.std.specs.Int.Bits.{bit_xor}
use Rattle.stuck.specs.Stuck.{Slots, slot_at, next, Pick, pick}
use Rattle.stuck.specs.Fill.{Entry}

-- ---- what each slot knows

-- "each slot knows how many keys touch it, the xor of their hashes, the xor of their positions": one number for each slot in each list
pub record Sums : Type 0 where
  pub counts : List ℕ
  pub hashes : List ℕ
  pub positions : List ℕ

-- what a key with the slots t gives to slot s: `g` of the position at which it touches s, and 0 if it does not
unfoldable pub share : Slots → ℕ → (ℕ → ℕ) → ℕ
share t s g = cond (eqb t.s0 s) (g 0) (cond (eqb t.s1 s) (g 1) (cond (eqb t.s2 s) (g 2) 0))

-- the total, under an operation, of what all the keys give
unfoldable pub total_all : (ℕ → ℕ → ℕ) → (ℕ → ℕ) → List ℕ → ℕ
total_all op f [] = 0
total_all op f (h ∷ hs) = op (f h) (total_all op f hs)

-- the list f at, f (at + 1), .. of n numbers
unfoldable pub table : ℕ → ℕ → (ℕ → ℕ) → List ℕ
table at zero f = []
table at (suc n) f = f at ∷ table (suc at) n f

-- for each of n slots the total, over the keys with the hashes hs that touch it, of `g` of their hash and position
abbrev pub totals : (ℕ → Slots) → ℕ → (ℕ → ℕ → ℕ) → (ℕ → ℕ → ℕ) → List ℕ → List ℕ
totals slots n op g hs = table 0 n (λ s. total_all op (λ h. share (slots h) s (g h)) hs)

-- the sums of the keys with the hashes hs, over n slots
unfoldable pub sums_of : (ℕ → Slots) → ℕ → List ℕ → Sums
sums_of slots n hs =
    record {
      counts = totals slots n ◌+◌ (λ h q. 1) hs;
      hashes = totals slots n bit_xor (λ h q. h) hs;
      positions = totals slots n bit_xor (λ h q. q) hs;
    }

-- ---- one key comes to a slot, or leaves it

unfoldable pub change : (ℕ → ℕ) → ℕ → List ℕ → List ℕ
change f s l = set l s (f (get_or l s 0))

-- slot s: its count by `f`, the hash h and the position q xored in (or out: xor undoes itself)
unfoldable pub change_at : (ℕ → ℕ) → ℕ → ℕ → ℕ → Sums → Sums
change_at f h q s a =
    record {
      counts = change f s a.counts;
      hashes = change (λ x. bit_xor x h) s a.hashes;
      positions = change (λ x. bit_xor x q) s a.positions;
    }

-- ---- the machine

-- the stack's last slot stands first
pub record State : Type 0 where
  pub sums : Sums
  pub stack : List ℕ

unfoldable pub push_if : Bool → ℕ → List ℕ → List ℕ
push_if true s stack = s ∷ stack
push_if false s stack = stack

-- "slots are scanned upward and those touched once are stacked"; the scan stands at slot `at`
unfoldable pub scan : ℕ → List ℕ → List ℕ → List ℕ
scan at [] stack = stack
scan at (c ∷ cs) stack = scan (suc at) cs (push_if (eqb c 1) at stack)

-- the key with hash h is released from slot s, its position q: "a slot whose count falls from two to one is stacked"
unfoldable pub release : ℕ → ℕ → ℕ → State → State
release h q s st = record { sums = change_at (λ c. c - 1) h q s st.sums; stack = push_if (eqb (get_or st.sums.counts s 0) 2) s st.stack }

-- the key with hash h is taken at position p: "the key's other slots are released, position p+1 then p+2, modulo 3"
unfoldable pub take_key : Slots → ℕ → ℕ → State → State
take_key t h p st = release h (next (next p)) (slot_at t (next (next p))) (release h (next p) (slot_at t (next p)) st)

-- slot s was popped: "if it is still touched once, its key is taken there"
unfoldable pub at_slot : (ℕ → Slots) → Bool → ℕ → State → (State → List Pick) → List Pick
at_slot slots true s st again =
    let h = get_or st.sums.hashes s 0 in
    let p = get_or st.sums.positions s 0 in
    pick h p ∷ again (take_key (slots h) h p st)
at_slot slots false s st again = again st

-- "the last one stacked is popped first"
unfoldable pub pop : (ℕ → Slots) → Sums → List ℕ → (State → List Pick) → List Pick
pop slots a [] again = []
pop slots a (s ∷ stack) again = at_slot slots (eqb (get_or a.counts s 0) 1) s (record { sums = a; stack = stack }) again

-- the keys that are taken, the first taken first: a `pick` holds the hash of a key here, and its position; at most `turns` slots are popped
unfoldable pub takes : (ℕ → Slots) → ℕ → State → List Pick
takes slots zero st = []
takes slots (suc turns) st = pop slots st.sums st.stack (λ st'. takes slots turns st')

-- the whole attempt, from the sums (no slot is stacked twice, so that as many turns as slots are enough)
unfoldable pub picks_from : (ℕ → Slots) → Sums → List Pick
picks_from slots a = takes slots (length a.counts) (record { sums = a; stack = scan 0 a.counts [] })

-- and from the hashes
abbrev pub picks_of : (ℕ → Slots) → ℕ → List ℕ → List Pick
picks_of slots n hs = picks_from slots (sums_of slots n hs)

-- ---- the fingerprints

-- what is stored for the keys that were taken; `stuck`'s `fill` stores the last taken first
abbrev pub stores : (ℕ → Slots) → (ℕ → ℕ) → List Pick → List Entry
stores slots fingerprint [] = []
stores slots fingerprint (pick h p ∷ r) = record { slots = slots h; position = p; fingerprint = fingerprint h } ∷ stores slots fingerprint r
