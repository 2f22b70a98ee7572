-- Two descriptors with the same fields are equal. Assumes nothing.
use Rattle.std.specs.Prelude.{◌≡◌}
use Rattle.descriptor.specs.declared.Descriptor.{Descriptor}

pub same_fields : {d e : Descriptor} → d.seed ≡ e.seed → d.segment_length ≡ e.segment_length
    → d.segment_length_mask ≡ e.segment_length_mask → d.segment_count_length ≡ e.segment_count_length → d ≡ e
same_fields p q r s = λ i. record { seed = p i; segment_length = q i; segment_length_mask = r i; segment_count_length = s i }
