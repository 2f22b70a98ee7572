-- Document 01, "Cases": the twenty bytes of seed 1, L 4 and count length 4. Assumes nothing.
use Rattle.std.specs.Prelude.{◌≡◌, refl, [], ◌∷◌}
use Rattle.descriptor.specs.Descriptor.{encode}

pub twenty_bytes : encode (record { seed = 1; segment_length = 4; segment_length_mask = 3; segment_count_length = 4 })
    ≡ 1 ∷ 0 ∷ 0 ∷ 0 ∷ 0 ∷ 0 ∷ 0 ∷ 0 ∷ 4 ∷ 0 ∷ 0 ∷ 0 ∷ 3 ∷ 0 ∷ 0 ∷ 0 ∷ 4 ∷ 0 ∷ 0 ∷ 0 ∷ []
twenty_bytes = refl
