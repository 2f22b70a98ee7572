-- `fuse::attempts::descriptor_at` meets its contract: L is at least 4. Assumes nothing.
use Rattle.std.proofs.Common.{ap, arith}
use Rattle.layout.specs.declared.Layout.{Layout}
use Rattle.layout.proofs.Fits.{layout_fits, length_from_four}
use Rattle.fuse.proofs.attempts.descriptor_at.Goals as goal

pub overflow_sub-result : goal.overflow_sub-result
overflow_sub-result c =
    let four = length_from_four (layout_fits c.args.attempt c.requires).power in
    omega (arith, ap (λ (layout : Layout). layout.segment_length) c.layout_at-layout.ensures)
