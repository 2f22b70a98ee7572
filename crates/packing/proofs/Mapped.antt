-- The numbers of a list of fingerprints where a part of it was cleared or written, and what the keys taken fill in. Assumes nothing.
use Rattle.std.proofs.Common.{◌≡◌, refl, ap₂, ◌∙◌, List, [], ◌∷◌, ◌++◌, map, ℕ, zero, suc, ◌≤◌, arith, length, length-take-le, take, drop, replicate, get_or}
use Rattle.std.proofs.lemmas.List.{map-append, drop-map, take-map, length-map, get_or-take}
use Rattle.arith.specs.Fingerprint.{fingerprint_of}
use Rattle.descriptor.specs.declared.Descriptor.{Descriptor}
use Rattle.stuck.specs.Stuck.{Pick, pick}
use Rattle.stuck.specs.Fill.{fill}
use Rattle.machine.specs.Machine.{stores}
use Rattle.peel.specs.Segments.{slots_in}
use Rattle.peel.specs.Buffers.{picks_in}
use Rattle.plan.specs.Plans.{zeros, fill_from}

module _ {X : Type 0} (bits : X → ℕ) where
  pub put_back_bits : (n : ℕ) (part all : List X) → map bits (part ++ drop n all) ≡ map bits part ++ drop n (map bits all)
  put_back_bits n part all = simp (map-append, drop-map)

  pub zero_bits : (all part : List X) → map bits part ≡ replicate (length all) 0 → map bits part ≡ zeros (map bits all)
  zero_bits all part e = e ∙ simp length-map

  pub zero_bits_in_part : (n : ℕ) (all part : List X) → map bits part ≡ replicate (length (take n all)) 0
      → map bits part ≡ zeros (take n (map bits all))
  zero_bits_in_part n all part e = zero_bits (take n all) part e ∙ simp take-map

-- the keys taken in as many places
picks_in_front : (k n : ℕ) (order positions : List ℕ) → k ≤ n → picks_in k (take n order) positions ≡ picks_in k order positions
unfolding picks_in
picks_in_front zero n order positions within = refl
picks_in_front (suc k) n order positions within =
    ap₂ (λ (before : List Pick) (hash : ℕ). before ++ (pick hash (get_or positions k 0) ∷ [])) (picks_in_front k n order positions (omega arith))
    (get_or-take n order k 0 (omega arith))

-- what they fill in where the room was cleared, by the numbers of a descriptor
pub filled_from : (w : ℕ) (d : Descriptor) (n : ℕ) (order positions : List ℕ) → n ≤ length order → {segment mask span : ℕ} (all : List ℕ) → segment ≡ d.segment_length
    → mask ≡ d.segment_length_mask → span ≡ d.segment_count_length → {cleared filled : List ℕ} → cleared ≡ zeros all
    → filled ≡ fill (stores (slots_in segment mask span) (fingerprint_of w) (picks_in (length (take n order)) (take n order) positions)) cleared
    → filled ≡ fill_from w d n order positions (zeros all)
filled_from w d n order positions room all of_segment of_mask of_span clear e =
    rw (of_segment, of_mask, of_span, length-take-le n order room, picks_in_front n n order positions (omega arith), clear) at e
