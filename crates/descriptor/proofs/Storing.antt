-- What stands in the room after four writes side by side. Assumes nothing.
use Rattle.std.proofs.Common.{◌≡◌, ℕ, List, ◌++◌, drop, drop-drop, ap, ◌∙◌}
use borrow.Rule.Slice.PartMut.{put_mid}
use Rattle.words.specs.Bytes.{bytes_of}
use Rattle.descriptor.specs.declared.Descriptor.{Descriptor}
use Rattle.descriptor.specs.Descriptor.{descriptor_size, encode}

pub stored : (d : Descriptor) (room : List ℕ) {seed size mask count : List ℕ}
    → seed ≡ bytes_of 8 d.seed → size ≡ bytes_of 4 d.segment_length → mask ≡ bytes_of 4 d.segment_length_mask → count ≡ bytes_of 4 d.segment_count_length
    → put_mid 16 4 (put_mid 12 4 (put_mid 8 4 (seed ++ drop 8 room) size) mask) count ≡ encode d ++ drop descriptor_size room
stored d room p q r s =
    (λ i. put_mid 16 4 (put_mid 12 4 (put_mid 8 4 (p i ++ drop 8 room) (q i)) (r i)) (s i))
    ∙ ap (λ (l : List ℕ). encode d ++ l) rest
  where
    rest : drop 4 (drop 4 (drop 4 (drop 8 room))) ≡ drop descriptor_size room
    rest = simp drop-drop
