-- The sums of the first hashes, from none on, one more at a time. Assumes nothing.
use Rattle.std.proofs.Common.{◌≡◌, sym, ap, ap₂, ◌∙◌, List, [], ◌∷◌, ◌++◌, ℕ, ◌+◌, ◌/◌, ◌%◌, ◌≤◌, ◌<◌, length, get_or, take, replicate, arith}
use Rattle.std.proofs.lemmas.List.{length-take-le, take_all, take_more}
use Rattle.arith.specs.Numbers.{map_replicate}
use Rattle.stuck.specs.Stuck.{Slots}
use Rattle.stuck.specs.Ring.{Apart}
use Rattle.machine.specs.Machine.{sums_of}
use Rattle.machine.specs.Known.{Long}
use Rattle.machine.specs.Start as Start
use Rattle.machine.specs.SumsByKey.{add_key, sums_none, sums_snoc}
use Rattle.peel.specs.declared.sums.Sums.{Sums}
use Rattle.peel.specs.Buffers.{sums_in}
use Rattle.peel.specs.CountsExact.{counts_at_most}
use Rattle.peel.specs.Held.{sums_at, SameSums}
use Rattle.peel.proofs.Same.{sums_stay, sums_then}

-- how many slots there are
abbrev size : Sums → ℕ
size sums = length sums.counts.now

-- the buffers hold the sums of the first i hashes
pub record Counting (slots : ℕ → Slots) (hashes : List ℕ) (start sums : Sums) (i : ℕ) : Type 0 where
  pub within : i ≤ length hashes
  pub same : SameSums start sums
  pub sums_are : sums_at sums ≡ sums_of slots (size start) (take i hashes)

module _ {slots : ℕ → Slots} {hashes : List ℕ} {start : Sums} where
  pub count_start : start.counts.now ≡ replicate (size start) 0 → start.hashes.now ≡ replicate (size start) 0 → Counting slots hashes start start 0
  unfolding sums_in
  count_start ec eh =
      record {
        within = omega arith;
        same = sums_stay;
        sums_are = ap₂ sums_in ec eh ∙ (λ i. record {
          counts = map_replicate (λ (packed : ℕ). packed / 4) (size start) 0 i;
          hashes = replicate (size start) 0;
          positions = map_replicate (λ (packed : ℕ). packed % 4) (size start) 0 i;
        }) ∙ sym (sums_none slots (size start));
      }

  module _ {sums : Sums} {i : ℕ} (k : Counting slots hashes start sums i) where
    long : Long (size start) (sums_at sums)
    long = rw k.sums_are (Start.sums_long slots (take i hashes) (size start))

    pub hashes_long : length sums.hashes.now ≡ size start
    unfolding sums_in
    hashes_long = long.in_hashes

    pub counts_few : (slot : ℕ) → get_or sums.counts.now slot 0 / 4 ≤ i
    counts_few slot =
        omega (arith, counts_at_most slots (size start) (take i hashes) sums.counts.now sums.hashes.now k.sums_are slot, length-take-le i hashes k.within)

    pub count_step : {new : Sums} {hash : ℕ} → i < length hashes → hash ≡ get_or hashes i 0 → Apart (size start) (slots hash) → SameSums sums new
        → sums_at new ≡ add_key (slots hash) hash (sums_at sums) → Counting slots hashes start new (i + 1)
    count_step {new} {hash} lt is apart same e =
        record {
          within = omega arith;
          same = sums_then k.same same;
          sums_are = e ∙ ap (add_key (slots hash) hash) k.sums_are ∙ sums_snoc slots (size start) (take i hashes) hash apart
              ∙ ap (sums_of slots (size start)) (ap (λ (h : ℕ). take i hashes ++ (h ∷ [])) is ∙ sym (take_more hashes i 0 lt));
        }

    pub count_end : length hashes ≤ i → sums_at sums ≡ sums_of slots (size start) hashes
    count_end le = k.sums_are ∙ ap (sums_of slots (size start)) (take_all i hashes le)
