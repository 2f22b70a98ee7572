-- `query::contains_bytes` meets its contract: check 7 by the length, all else by the query of the record. Assumes nothing.
use Rattle.std.proofs.Common.{◌∙◌}
use Rattle.query.specs.ByBytes.{short, long}
use Rattle.query.proofs.contains_bytes.Goals as goal

pub returns-then-descriptor-lt-DESCRIPTOR_SIZE : goal.returns-then-descriptor-lt-DESCRIPTOR_SIZE
returns-then-descriptor-lt-DESCRIPTOR_SIZE g c = short (g.F.Fingerprint.width) _ _ _ c.if-descriptor-lt-DESCRIPTOR_SIZE.true

pub returns : goal.returns
returns g c = c.contains.ensures ∙ long (g.F.Fingerprint.width) _ _ _ c.if-descriptor-lt-DESCRIPTOR_SIZE.false c.parse.ensures
