-- A text cut at a byte that ends a piece has the pieces that `split` gives, but for an empty one at its end. Assumes nothing.
use Rattle.std.proofs.Common.{◌≡◌, refl, ap, ℕ, Bool, true, false, cond, List, [], ◌∷◌, ◌++◌, inl, inr, ◌⊎◌}
use Rattle.std.specs.List.{slice_split, onto_first}
use Rattle.due_text.specs.Cut.{cut, in_front}

pub cut_as_split : (ends : ℕ → Bool) (text : List ℕ)
    → (slice_split ends text ≡ cut ends text) ⊎ (slice_split ends text ≡ cut ends text ++ [] ∷ [])
unfolding cut
cut_as_split ends [] = inr refl
cut_as_split ends (byte ∷ rest) = by (ends byte) (cut_as_split ends rest)
  where
    front : (pieces : List (List ℕ))
        → (onto_first byte (pieces ++ [] ∷ []) ≡ in_front byte pieces) ⊎ (onto_first byte (pieces ++ [] ∷ []) ≡ in_front byte pieces ++ [] ∷ [])
    front [] = inl refl
    front (piece ∷ more) = inr refl

    same : (pieces : List (List ℕ)) → onto_first byte pieces ≡ in_front byte pieces
    same [] = refl
    same (piece ∷ more) = refl

    by : (b : Bool) → (slice_split ends rest ≡ cut ends rest) ⊎ (slice_split ends rest ≡ cut ends rest ++ [] ∷ [])
        → let split = cond b ([] ∷ slice_split ends rest) (onto_first byte (slice_split ends rest)) in
        let pieces = cond b ([] ∷ cut ends rest) (in_front byte (cut ends rest)) in
        (split ≡ pieces) ⊎ (split ≡ pieces ++ [] ∷ [])
    by true (inl e) = inl (ap (λ (more : List (List ℕ)). [] ∷ more) e)
    by true (inr e) = inr (ap (λ (more : List (List ℕ)). [] ∷ more) e)
    by false (inl e) = inl (rw e (same (cut ends rest)))
    by false (inr e) = rw e (front (cut ends rest))
