-- Document 01, "Cases": C1 to C13, and what document 02, wish 3, says of hours below zero, proved of the definitions, in one table under
-- one statement. Assumes nothing.
use Rattle.std.specs.Prelude.{◌≡◌, refl, List, [], ◌∷◌, ℕ, ◌+◌, ◌-◌, ◌*◌, ◌^◌, ℤ, pos, neg_ℤ}
use Rattle.arith.specs.Steps.{xorshift, times}
use Rattle.arith.specs.Murmur3.{mix64_of}
use Rattle.arith.specs.Fingerprint.{fingerprint_of}
use Rattle.arith.specs.Slots.{slot0, slot1, slot2, slots_of}
use Rattle.layout.specs.declared.Layout.{Layout}
use Rattle.layout.specs.Rows.{Row, laid, rows}
use Rattle.answers.specs.Answers.{Answer, refuses, gives}
use Rattle.flush.specs.FlushKey.{hour_of, key_at_hour, flush_key_of}
use Rattle.stuck.specs.Stuck.{Slots, every_key, Stuck, NoneStuck}
use Rattle.stuck.specs.Cases.{at}
use Rattle.stuck.proofs.Cases.{C10_holds, C11_holds, C12_holds}

-- what is asked of the definitions, and the paper's answer
pub data Case : Type 0 where
  slots : (hash : ℕ) → List ℕ → Case  -- with L 4, count length 4
  fingerprint : (hash : ℕ) → ℕ → Case
  mix64 : (key : ℕ) → ℕ → Case
  row : (n c : ℕ) → (plain second : Layout) → Case
  stuck : List Slots → Case
  not_stuck : List Slots → Case
  hour : (seconds : ℤ) → ℤ → Case
  flush : (unit valve : ℕ) → (seconds : ℤ) → Answer ℕ → Case

abbrev pub Holds : Case → Type 0
Holds (slots hash three) = slots_of hash 4 3 4 ≡ three
Holds (fingerprint hash f) = fingerprint_of 8 hash ≡ f
Holds (mix64 key mixed) = mix64_of key ≡ mixed
Holds (row n c plain second) = Row n c plain second
Holds (stuck keys) = Stuck keys (every_key keys)
Holds (not_stuck keys) = NoneStuck keys
Holds (hour seconds h) = hour_of seconds ≡ h
Holds (flush unit valve seconds answer) = flush_key_of unit valve seconds ≡ answer

-- every case of a list holds
infixr 20 ◌and◌
pub data All : List Case → Type 0 where
  no_more : All []
  ◌and◌ : {c : Case} {cs : List Case} → Holds c → All cs → All (c ∷ cs)

abbrev minus : ℕ → ℤ
minus n = neg_ℤ (pos n)

abbrev pub table : List Case
table =
    slots 0 (0 ∷ 4 ∷ 8 ∷ [])  -- C1
    ∷ slots 1 (0 ∷ 4 ∷ 9 ∷ [])  -- C2
    ∷ slots (2 ^ 18) (0 ∷ 5 ∷ 8 ∷ [])  -- C3
    ∷ slots (2 ^ 63) (2 ∷ 6 ∷ 10 ∷ [])  -- C4
    ∷ slots (2 ^ 64 - 1) (3 ∷ 4 ∷ 8 ∷ [])  -- C5
    ∷ fingerprint (2 ^ 32) 1  -- C6
    ∷ fingerprint (2 ^ 32 + 1) 0  -- C7
    ∷ mix64 0 0  -- C8
    ∷ row 0 0 (laid 4 1 4 12) (laid 4 1 4 12)  -- C9, size 0
    ∷ row 2 12 (laid 4 1 4 12) (laid 4 1 4 12)  -- C9, size 2
    ∷ row 5 15 (laid 8 1 8 24) (laid 4 4 16 24)  -- C9, size 5
    ∷ stuck (at 0 4 8 ∷ at 0 4 8 ∷ [])  -- C10
    ∷ stuck (at 0 4 8 ∷ at 0 5 8 ∷ at 0 4 9 ∷ at 0 5 9 ∷ [])  -- C11
    ∷ not_stuck (at 0 4 8 ∷ at 0 5 8 ∷ at 0 4 9 ∷ [])  -- C12
    ∷ flush 1 2 (pos 7199) (gives (2 ^ 48 + 2 ^ 41 + 1))  -- C13
    ∷ hour (minus 1) (minus 1)  -- wish 3, its three seconds
    ∷ hour (minus 3600) (minus 1)
    ∷ hour (minus 3601) (minus 2)
    ∷ flush 0 0 (minus 1) (gives (2 ^ 40 - 1))  -- wish 3, its key
    ∷ flush 0 0 (minus (2 ^ 39 * 3600)) (gives (2 ^ 39))  -- wish 3, the first second of hour -2^39, and the one before
    ∷ flush 0 0 (minus (2 ^ 39 * 3600 + 1)) (refuses 12)
    ∷ flush 0 0 (pos (2 ^ 39 * 3600 - 1)) (gives (2 ^ 39 - 1))  -- wish 3, the last second of hour 2^39 - 1, and the one after
    ∷ flush 0 0 (pos (2 ^ 39 * 3600)) (refuses 12)
    ∷ []

pub cases : All table
unfolding slot0 slot1 slot2 mix64_of fingerprint_of xorshift times flush_key_of key_at_hour
cases =
    refl and refl and refl and refl and refl and refl and refl and refl
    and rows.at_0 and rows.at_2 and rows.at_5 and C10_holds and C11_holds and C12_holds
    and refl and refl and refl and refl and refl and refl and refl and refl and refl and no_more
