-- Touching and sticking, for any list of slot triples: what document 01 calls a stuck set, and the removals of its section "One attempt,
-- and the order that fixes the bytes", here in any order. A key is its place in the list, from 0; no layout, hash or limit comes in.
-- Definitions only. Assumes nothing.
use Rattle.std.specs.Prelude.{◌≡◌, Bool, true, false, ◌||◌, List, [], ◌∷◌, ℕ, zero, suc, ◌<◌, length, get_or, set, T, eqb}

-- ---- touching

-- the three slots of a key, at the positions 0, 1, 2
pub record Slots : Type 0 where
  pub s0 : ℕ
  pub s1 : ℕ
  pub s2 : ℕ

abbrev pub slot_at : Slots → ℕ → ℕ
slot_at t zero = t.s0
slot_at t (suc zero) = t.s1
slot_at t (suc (suc p)) = t.s2

-- the position after p, modulo 3
abbrev pub next : ℕ → ℕ
next zero = 1
next (suc zero) = 2
next (suc (suc p)) = 0

-- (for a place beyond the list)
abbrev pub nowhere : Slots
nowhere = record { s0 = 0; s1 = 0; s2 = 0 }

-- the slots of key i
abbrev pub key : List Slots → ℕ → Slots
key keys i = get_or keys i nowhere

-- one of the three slots is s
abbrev pub touches : Slots → ℕ → Bool
touches t s = eqb t.s0 s || eqb t.s1 s || eqb t.s2 s

-- ---- sets of keys

-- a mark for each key: is it in the set?
abbrev pub KeySet : Type 0
KeySet = List Bool

-- key i is in the set
abbrev pub Has : KeySet → ℕ → Type 0
Has m i = T (get_or m i false)

-- every key of the first set is in the second
abbrev pub Within : KeySet → KeySet → Type 0
Within a b = (i : ℕ) → Has a i → Has b i

-- no key is in the set
abbrev pub Nobody : KeySet → Type 0
Nobody m = (i : ℕ) → ¬ Has m i

-- how many keys are in the set
unfoldable pub size : KeySet → ℕ
size [] = 0
size (true ∷ m) = suc (size m)
size (false ∷ m) = size m

-- all the keys
unfoldable pub every_key : List Slots → KeySet
every_key [] = []
every_key (t ∷ keys) = true ∷ every_key keys

-- the set without key i
abbrev pub without : KeySet → ℕ → KeySet
without m i = set m i false

-- ---- alone and stuck

-- of the keys in the set, key i touches slot s, and no other does
pub record Alone (keys : List Slots) (m : KeySet) (i s : ℕ) : Type 0 where
  pub has : Has m i
  pub touch : T (touches (key keys i) s)
  pub only : (j : ℕ) → Has m j → T (touches (key keys j) s) → j ≡ i

-- no slot is touched by exactly one key of the set
abbrev pub NoneAlone : List Slots → KeySet → Type 0
NoneAlone keys m = (i s : ℕ) → ¬ Alone keys m i s

-- a nonempty set of keys is stuck if no slot is touched by exactly one of them
pub record Stuck (keys : List Slots) (m : KeySet) : Type 0 where
  pub fits : length m ≡ length keys
  pub nonempty : (i : ℕ) × Has m i
  pub none_alone : NoneAlone keys m

-- some set of the keys is stuck
pub record SomeStuck (keys : List Slots) : Type 0 where
  pub which : KeySet
  pub stuck : Stuck keys which

-- no set of the keys is stuck
abbrev pub NoneStuck : List Slots → Type 0
NoneStuck keys = (m : KeySet) → ¬ Stuck keys m

-- ---- removals

-- key i may be removed from the set: it alone touches the slot at its position p
pub record Removable (keys : List Slots) (m : KeySet) (i p : ℕ) : Type 0 where
  pub small : p < 3
  pub alone : Alone keys m i (slot_at (key keys i) p)

-- a removed key, and the position of the slot that it touched alone
pub data Pick : Type 0 where
  pick : ℕ → ℕ → Pick

-- `Run keys m r l`: from the set m the keys of r are removed, the first of r first, and the set l is left
pub data Run (keys : List Slots) : KeySet → List Pick → KeySet → Type 0 where
  done : {m : KeySet} → Run keys m [] m
  remove : {m l : KeySet} {r : List Pick} (i p : ℕ) → Removable keys m i p → Run keys (without m i) r l → Run keys m (pick i p ∷ r) l

-- a run that cannot go on
pub record Complete (keys : List Slots) (m : KeySet) (r : List Pick) (l : KeySet) : Type 0 where
  pub run : Run keys m r l
  pub stops : NoneAlone keys l

-- a complete run that removes every key
pub record RemovesAll (keys : List Slots) : Type 0 where
  pub picks : List Pick
  pub left : KeySet
  pub complete : Complete keys (every_key keys) picks left
  pub all : length picks ≡ length keys

-- every complete run does
abbrev pub EveryRunRemovesAll : List Slots → Type 0
EveryRunRemovesAll keys = (r : List Pick) (l : KeySet) → Complete keys (every_key keys) r l → length r ≡ length keys
