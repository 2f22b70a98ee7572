-- `descriptor::parse` meets its contract: each field is the number in its bytes. Assumes nothing.
use Rattle.std.proofs.Common.{rules, arith}
use Rattle.descriptor.specs.Descriptor.{descriptor_of}
use Rattle.descriptor.specs.SameFields.{same_fields}
use Rattle.descriptor.proofs.LittleEndian.{number_in}
use Rattle.descriptor.proofs.parse.Goals as goal

pub returns : goal.returns
unfolding descriptor_of
returns c =
    let bytes = c.args.bytes.now in
    same_fields (number_in 8 0 bytes c.unwrap.result (omega (arith, c.from_le_bytes.ensures)) (search rules))
    (number_in 4 8 bytes c.unwrap-2.result (omega (arith, c.from_le_bytes-2.ensures)) (search rules))
    (number_in 4 12 bytes c.unwrap-3.result (omega (arith, c.from_le_bytes-3.ensures)) (search rules))
    (number_in 4 16 bytes c.unwrap-4.result (omega (arith, c.from_le_bytes-4.ensures)) (search rules))
