-- `descriptor::store` meets its contract: each field's bytes stand after those of the fields before it. Assumes nothing.
use Rattle.std.proofs.Common.{◌∙◌}
use Rattle.descriptor.proofs.LittleEndian.{le_bytes}
use Rattle.descriptor.proofs.Storing.{stored}
use Rattle.descriptor.proofs.store.Goals as goal

pub returns : goal.returns
returns c =
    let d = c.args.d in
    stored d c.args.room.now
    (c.copy_from_slice.ensures.after ∙ c.to_le_bytes.ensures ∙ le_bytes 8 d.seed)
    (c.copy_from_slice-2.ensures.after ∙ c.to_le_bytes-2.ensures ∙ le_bytes 4 d.segment_length)
    (c.copy_from_slice-3.ensures.after ∙ c.to_le_bytes-3.ensures ∙ le_bytes 4 d.segment_length_mask)
    (c.copy_from_slice-4.ensures.after ∙ c.to_le_bytes-4.ensures ∙ le_bytes 4 d.segment_count_length)
