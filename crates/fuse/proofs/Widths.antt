-- Document 02, wish 2: the list of w bits from a wider list of the same keys and limit. On the narrowed memory the outcome is the wider one's
-- narrowed, for every input; on any memory of the same lengths the answer is the same and the fingerprints are the wider ones modulo 2 ^ w.
-- Assumes nothing.
use Rattle.std.specs.Prelude.{◌≡◌, refl, List, [], ◌∷◌, map, ℕ, ◌≤◌, length, take}
use Rattle.std.proofs.Common.{sym, ap, ap₂, ◌∙◌, take_at}
use Rattle.words.specs.Low.{low}
use Rattle.words.specs.LowLaws.{low-length, low-append, low-drop, low_zeros}
use Rattle.answers.specs.Answers.{Answer, refuses, gives, Outcome, outcome}
use Rattle.answers.specs.Never.{never}
use Rattle.arith.specs.Fingerprint.{fingerprint_of}
use Rattle.arith.specs.FingerprintLow.{fingerprint_low}
use Rattle.layout.specs.Layout.{slot_count_of}
use Rattle.stuck.specs.Stuck.{Slots, Pick, pick}
use Rattle.stuck.specs.Fill.{Entry}
use Rattle.stuck.specs.FillLow.{low_entry, fill-low}
use Rattle.machine.specs.Machine.{stores}
use Rattle.peel.specs.Picks.{fingerprints_of}
use Rattle.fuse.specs.Attempts.{fingerprints_at}
use Rattle.fuse.specs.Memory.{Memory, begins, scratch_zeroed}
use Rattle.fuse.specs.SameLengths.{SameLengths}
use Rattle.fuse.specs.Build.{Success, built_outcome, search_of, build_of, attempt_of}
use Rattle.fuse.specs.FreeAttempts.{attempt_fingerprints_length}
use Rattle.fuse.specs.Narrow.{narrow, narrowed, NarrowerList}
use Rattle.fuse.specs.QueryWidths.{contains_narrows}
use Rattle.fuse.specs.SideBySide.{side_by_side}

-- ---- the same answer, whatever the two widths

pub same_answers : (w v : ℕ) (keys : List ℕ) {m m' : Memory} → SameLengths m m' → (limit first count : ℕ)
    → (search_of w keys limit first count m).answer ≡ (search_of v keys limit first count m').answer
same_answers w v keys =
    side_by_side (λ o o'. o.answer ≡ o'.answer) (record { refused = λ number. refl; repeated = refl; stuck = refl; built = λ i. refl })

module _ {w v : ℕ} (narrower : w ≤ v) where
  -- ---- the fingerprints of an attempt

  stores-low : (slots : ℕ → Slots) (taken : List Pick) → map (low_entry w) (stores slots (fingerprint_of v) taken) ≡ stores slots (fingerprint_of w) taken
  stores-low slots [] = refl
  stores-low slots (pick h p ∷ taken) =
      ap₂ (λ (f : ℕ) (later : List Entry). record { slots = slots h; position = p; fingerprint = f } ∷ later) (fingerprint_low narrower h)
      (stores-low slots taken)

  pub fingerprints_low : (keys : List ℕ) (i : ℕ) → low w (fingerprints_at v keys i) ≡ fingerprints_at w keys i
  unfolding fingerprints_at fingerprints_of
  fingerprints_low keys i = simp (fill-low, stores-low, low_zeros)

  -- ---- on the narrowed memory

  module _ (keys : List ℕ) (m : Memory) where
    narrow_lengths : SameLengths (narrow w m) m
    narrow_lengths =
        record {
          of_fingerprints = low-length w m.fingerprints;
          of_lone = refl;
          of_counts = refl;
          of_sums = refl;
          of_positions = refl;
          of_order = refl;
          of_starts = refl;
        }

    -- an ending that writes the first A fingerprints
    written : (answer : Answer Success) (wide : List ℕ) {slim : List ℕ} → low w wide ≡ slim
        → let n = length keys in outcome answer (scratch_zeroed n m (begins (slot_count_of n) slim (low w m.fingerprints)))
        ≡ narrowed w (outcome answer (scratch_zeroed n m (begins (slot_count_of n) wide m.fingerprints)))
    written answer wide e = simp (← e, low-append, low-drop)

    -- every answer and all the memory left, refusals included
    pub search_narrows : (limit first count : ℕ) → search_of w keys limit first count (narrow w m) ≡ narrowed w (search_of v keys limit first count m)
    search_narrows =
        side_by_side (λ o o'. o ≡ narrowed w o')
        (record {
          refused = λ number. refl;
          repeated = refl;
          stuck = written _ _ (low_zeros w (slot_count_of (length keys)));
          built = λ i. written _ _ (fingerprints_low keys i);
        })
        narrow_lengths

    pub build_narrows : (limit : ℕ) → build_of w keys limit (narrow w m) ≡ narrowed w (build_of v keys limit m)
    build_narrows limit = search_narrows limit 1 limit

    pub attempt_narrows : (number : ℕ) → attempt_of w keys number (narrow w m) ≡ narrowed w (attempt_of v keys number m)
    attempt_narrows number = search_narrows number number 1

  -- ---- on any memory of the same lengths, for any outcomes that are as promised

  both_refuse : (number : ℕ) (m m' : Memory) → NarrowerList w v (outcome (refuses number) m) (outcome (refuses number) m')
  both_refuse number m m' = record { same_answer = refl; fingerprints_modulo = λ s e. never (cc); yes_of_both = λ s e. never (cc) }

  both_build : (keys : List ℕ) (i : ℕ) (m m' : Memory) → NarrowerList w v (built_outcome w keys i m) (built_outcome v keys i m')
  both_build keys i m m' =
      record {
        same_answer = refl;
        fingerprints_modulo = modulo;
        yes_of_both = λ s e key h. rw (← (modulo s e)) ((contains_narrows narrower s.descriptor _ key).yes_kept h);
      }
    where
      modulo : (s : Success) → (built_outcome v keys i m').answer ≡ gives s
          → low w (take s.slots (built_outcome v keys i m').leaves.fingerprints) ≡ take s.slots (built_outcome w keys i m).leaves.fingerprints
      modulo s e =
          let same : slot_count_of (length keys) ≡ s.slots = cc in
          ap (low w) (take_at (fingerprints_at v keys i) _ s.slots (attempt_fingerprints_length v keys i ∙ same))
          ∙ fingerprints_low keys i
          ∙ sym (take_at (fingerprints_at w keys i) _ s.slots (attempt_fingerprints_length w keys i ∙ same))

  module _ (keys : List ℕ) {m m' : Memory} (lengths : SameLengths m m') {slim wide : Outcome Success Memory} where
    pub search_narrower : (limit first count : ℕ) → slim ≡ search_of w keys limit first count m → wide ≡ search_of v keys limit first count m'
        → NarrowerList w v slim wide
    search_narrower limit first count e f =
        rw (e, f)
        (side_by_side (NarrowerList w v)
        (record { refused = λ number. both_refuse number m m'; repeated = both_refuse 5 _ _; stuck = both_refuse 6 _ _; built = λ i. both_build keys i m m' })
        lengths limit first count)

    pub build_narrower : (limit : ℕ) → slim ≡ build_of w keys limit m → wide ≡ build_of v keys limit m' → NarrowerList w v slim wide
    build_narrower limit = search_narrower limit 1 limit

    pub attempt_narrower : (number : ℕ) → slim ≡ attempt_of w keys number m → wide ≡ attempt_of v keys number m' → NarrowerList w v slim wide
    attempt_narrower number = search_narrower number number 1
