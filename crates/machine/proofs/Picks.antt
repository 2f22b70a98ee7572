-- What an attempt means, for any keys whose three slots differ: it takes all of them exactly when nothing is stuck, what it leaves is the
-- largest stuck set, and after the fill every key answers yes. Assumes nothing.
use Rattle.std.specs.Prelude.{◌≡◌, refl, ◌≢◌, ◌↔◌, false, List, [], ◌∷◌, map, ℕ, suc, ◌-◌, ◌≤◌, ◌<◌, length, get_or}
use Rattle.std.proofs.Common.{sym, ap, ap₂, ◌∙◌, subst, inl, inr, arith, length-set}
use Rattle.std.proofs.lemmas.List.{length-map}
use Rattle.stuck.specs.Stuck.{Slots, KeySet, key, every_key, SomeStuck, NoneStuck, Pick, pick, Run, done, remove}
use Rattle.stuck.specs.Sets.{has-lt, length-every, size-every}
use Rattle.stuck.specs.Survives.{left-size, none_stuck_iff, stuck_or_none}
use Rattle.stuck.specs.HowMany.{Sticks, left_sticks}
use Rattle.stuck.specs.KeyMap.{key-map}
use Rattle.stuck.specs.Ring.{Apart}
use Rattle.stuck.specs.Fill.{Entry, fill, AnswersYes}
use Rattle.stuck.specs.FillAnswers.{entries}
use Rattle.stuck.proofs.FillAnswers.{every_key_yes}
use Rattle.machine.specs.Machine.{sums_of, scan, picks_from, picks_of, stores}
use Rattle.machine.specs.Work.{scan-work}
use Rattle.machine.specs.Start.{standing_start}
use Rattle.machine.specs.CompleteRun.{by_hash, IsCompleteRun}
use Rattle.machine.specs.Picks.{SmallPositions}
use Rattle.machine.proofs.CompleteRun.{takes_complete}

module _ (hs : List ℕ) where
  by_hash_length : (r : List Pick) → length (by_hash hs r) ≡ length r
  by_hash_length [] = refl
  by_hash_length (pick i p ∷ r) = ap suc (by_hash_length r)

  by_hash_small : {keys : List Slots} {m l : KeySet} {r : List Pick} → Run keys m r l → SmallPositions (by_hash hs r)
  by_hash_small done = tt
  by_hash_small (remove i p x rest) = (x.small, by_hash_small rest)

  -- the same is stored, whether a key is known by its hash or by its place
  stores_by_hash : (slots : ℕ → Slots) (fingerprint : ℕ → ℕ) {m l : KeySet} {r : List Pick} → length m ≡ length hs → Run (map slots hs) m r l
      → stores slots fingerprint (by_hash hs r) ≡ entries (map slots hs) (λ i. fingerprint (get_or hs i 0)) r
  stores_by_hash slots fingerprint marks done = refl
  stores_by_hash slots fingerprint marks (remove {m = m} i p x rest) =
      ap₂ (λ (t : Slots) (r : List Entry). record { slots = t; position = p; fingerprint = fingerprint (get_or hs i 0) } ∷ r)
      (sym (key-map slots hs i (omega (arith, has-lt m i x.alone.has)))) (stores_by_hash slots fingerprint (length-set m i false ∙ marks) rest)

module _ (slots : ℕ → Slots) (hs : List ℕ) (n : ℕ) (apart : (i : ℕ) → i < length hs → Apart n (slots (get_or hs i 0))) where
  -- an attempt is a complete run from all the keys
  pub picks-run : IsCompleteRun slots hs (every_key (map slots hs)) (picks_of slots n hs)
  unfolding picks_from
  picks-run =
      let a = sums_of slots n hs in
      takes_complete slots hs n apart (length a.counts) (every_key (map slots hs)) a (scan 0 a.counts []) (standing_start slots hs n)
      (omega (arith, scan-work 0 a.counts []))

  picks-length : length (picks_of slots n hs) ≡ length picks-run.picks
  picks-length = ap length picks-run.is ∙ by_hash_length hs picks-run.picks

  pub picks_at_most : length (picks_of slots n hs) ≤ length hs
  picks_at_most = omega (arith, picks-length, left-size picks-run.complete.run, size-every (map slots hs), length-map hs slots)

  pub picks_small : SmallPositions (picks_of slots n hs)
  picks_small = subst SmallPositions (sym picks-run.is) (by_hash_small hs picks-run.complete.run)

  -- it takes every key exactly when nothing is stuck
  pub picks_all : NoneStuck (map slots hs) ↔ (length (picks_of slots n hs) ≡ length hs)
  picks_all = (
    λ none. omega (arith, picks-length, (none_stuck_iff picks-run.complete).0 none, length-map hs slots),
    λ all. (none_stuck_iff picks-run.complete).1 (omega (arith, picks-length, length-map hs slots)),
  )

  -- and where it does not, some set is
  pub picks_not_all : length (picks_of slots n hs) ≢ length hs → SomeStuck (map slots hs)
  picks_not_all ne = elim (stuck_or_none picks-run.complete) [ inl some ↦ some | inr none ↦ absurd (ne (picks_all.0 none)) ]

  -- what it leaves is the largest stuck set
  pub picks_leave : Sticks (map slots hs) (length hs - length (picks_of slots n hs))
  picks_leave = subst (Sticks (map slots hs)) (omega (arith, picks-length, length-map hs slots)) (left_sticks picks-run.complete)

  -- when it took every key, every key answers yes after the fill
  pub picks_yes : (fingerprint : ℕ → ℕ) (values : List ℕ) → length values ≡ n → length (picks_of slots n hs) ≡ length hs
      → (i : ℕ) → i < length hs → AnswersYes (slots (get_or hs i 0)) (fingerprint (get_or hs i 0)) (fill (stores slots fingerprint (picks_of slots n hs)) values)
  picks_yes fingerprint values long all i lt =
      rw (laid, ← (key-map slots hs i lt))
      (every_key_yes keys (λ j. fingerprint (get_or hs j 0)) values fits picks-run.complete.run (omega (arith, picks-length, number)) i (omega (arith, number)))
    where
      keys : List Slots
      keys = map slots hs

      number : length keys ≡ length hs
      number = length-map hs slots

      laid : stores slots fingerprint (picks_of slots n hs) ≡ entries keys (λ j. fingerprint (get_or hs j 0)) picks-run.picks
      laid = ap (stores slots fingerprint) picks-run.is ∙ stores_by_hash hs slots fingerprint (length-every keys ∙ number) picks-run.complete.run

      fits : (j : ℕ) → j < length keys → Apart (length values) (key keys j)
      fits j low = let low-hs : j < length hs = omega (arith, number) in rw (key-map slots hs j low-hs, long) (apart j low-hs)
