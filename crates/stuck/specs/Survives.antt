-- A stuck set survives every removal. So what a complete run leaves is the largest stuck set, or nothing, whichever keys were removed in
-- whichever order. Assumes nothing.
use Rattle.std.specs.Prelude.{◌≡◌, refl, false, ◌↔◌, ◌⊎◌, List, ℕ, ◌+◌, length}
use Rattle.std.proofs.Common.{sym, ap, ◌∙◌, subst, inl, inr, arith, length-set}
use Rattle.std.proofs.Math.Decide.{ℕ_discrete}
use Rattle.stuck.specs.Stuck.{Slots, KeySet, slot_at, key, Has, Within, Nobody, size, every_key, without, Alone, NoneAlone, Stuck, SomeStuck, NoneStuck, Pick, Run, done, remove, Complete}
use Rattle.stuck.specs.Sets.{without_within, without_other, size-without, somebody?, size_nobody, same_set, length-every, size-every, within_every}

-- ---- a stuck set survives every removal

pub survives : (keys : List Slots) (a m : KeySet) (i s : ℕ) → NoneAlone keys a → Within a m → Alone keys m i s → Within a (without m i)
survives keys a m i s none w al j h = by (ℕ_discrete j i)
  where
    by : Dec (j ≡ i) → Has (without m i) j
    by (yes e) =
        absurd (none i s (record { has = subst (λ (k : ℕ). Has a k) e h; touch = al.touch; only = λ k hk tk. al.only k (w k hk) tk }))
    by (no ne) = without_other m i j ne (w j h)

pub survives_run : {keys : List Slots} {m l : KeySet} {r : List Pick} → Run keys m r l → (a : KeySet) → NoneAlone keys a → Within a m → Within a l
survives_run done a none w = w
survives_run {keys} (remove {m = m} i p x rest) a none w =
    survives_run rest a none (survives keys a m i (slot_at (key keys i) p) none w x.alone)

-- ---- what a run leaves

pub left_within : {keys : List Slots} {m l : KeySet} {r : List Pick} → Run keys m r l → Within l m
left_within done j h = h
left_within (remove {m = m} i p x rest) j h = without_within m i j (left_within rest j h)

pub left-length : {keys : List Slots} {m l : KeySet} {r : List Pick} → Run keys m r l → length l ≡ length m
left-length done = refl
left-length (remove {m = m} i p x rest) = left-length rest ∙ length-set m i false

pub left-size : {keys : List Slots} {m l : KeySet} {r : List Pick} → Run keys m r l → size m ≡ length r + size l
left-size done = omega arith
left-size (remove {m = m} i p x rest) = omega (arith, size-without m i x.alone.has, left-size rest)

-- what remains when none can go is stuck, or nothing
pub left_stuck_or_nothing : {keys : List Slots} {l : KeySet} {r : List Pick} → Complete keys (every_key keys) r l → Stuck keys l ⊎ Nobody l
left_stuck_or_nothing {keys} {l} c = elim (somebody? l) [
  | inl w ↦ inl (record { fits = left-length c.run ∙ length-every keys; nonempty = w; none_alone = c.stops })
  | inr n ↦ inr n
]

-- it contains every stuck set
pub left_largest : {keys : List Slots} {l : KeySet} {r : List Pick} → Run keys (every_key keys) r l → (a : KeySet) → Stuck keys a → Within a l
left_largest {keys} run a s = survives_run run a s.none_alone (within_every keys a s.fits)

-- any two complete runs from the same keys leave the same set
pub same_left : {keys : List Slots} {m l l' : KeySet} {r r' : List Pick} → Complete keys m r l → Complete keys m r' l' → l ≡ l'
same_left {l = l} {l' = l'} c d =
    same_set l l' (left-length c.run ∙ sym (left-length d.run))
    (survives_run d.run l c.stops (left_within c.run))
    (survives_run c.run l' d.stops (left_within d.run))

-- and remove the same number
pub same_number : {keys : List Slots} {m l l' : KeySet} {r r' : List Pick} → Complete keys m r l → Complete keys m r' l' → length r ≡ length r'
same_number {l = l} {l' = l'} c d = omega (arith, left-size c.run, ap size (same_left c d), left-size d.run)

-- ---- nothing is left exactly when nothing is stuck

pub all_removed : {keys : List Slots} {l : KeySet} {r : List Pick} → Run keys (every_key keys) r l → Nobody l ↔ (length r ≡ length keys)
all_removed {keys} {l} run = (
  λ n. omega (arith, left-size run, size-every keys, (size_nobody l).0 n),
  λ e. (size_nobody l).1 (omega (arith, left-size run, size-every keys)),
)

pub none_stuck_nobody : {keys : List Slots} {l : KeySet} {r : List Pick} → Complete keys (every_key keys) r l → NoneStuck keys ↔ Nobody l
none_stuck_nobody {l = l} c = (
  λ n. elim (left_stuck_or_nothing c) [ inl s ↦ absurd (n l s) | inr none ↦ none ],
  λ none a s. none s.nonempty.0 (left_largest c.run a s s.nonempty.0 s.nonempty.1),
)

-- no stuck set exactly when this complete run removed every key
pub none_stuck_iff : {keys : List Slots} {l : KeySet} {r : List Pick} → Complete keys (every_key keys) r l → NoneStuck keys ↔ (length r ≡ length keys)
none_stuck_iff c = (λ n. (all_removed c.run).0 ((none_stuck_nobody c).0 n), λ e. (none_stuck_nobody c).1 ((all_removed c.run).1 e))

pub stuck_or_none : {keys : List Slots} {l : KeySet} {r : List Pick} → Complete keys (every_key keys) r l → SomeStuck keys ⊎ NoneStuck keys
stuck_or_none {l = l} c = elim (left_stuck_or_nothing c) [ inl s ↦ inl (record { which = l; stuck = s }) | inr n ↦ inr ((none_stuck_nobody c).1 n) ]

pub not_both : {keys : List Slots} → SomeStuck keys → ¬ NoneStuck keys
not_both s n = n s.which s.stuck
