-- Document 01, "What the promises say": these must not fit. Whatever program answers and leaves as `build` promises does not refuse every list, and does
-- not give zero fingerprints, one descriptor or one attempt number for all. Assumes nothing.
use Rattle.std.proofs.Common.{arith}
use Rattle.plan.specs.MustNotFit as plan
use Rattle.plan.specs.SmallLists.{built}

pub must_not_fit : (program : plan.Program) → plan.Fits 8 program → plan.MustNotFit program
must_not_fit = plan.must_not_fit built.0 (λ none. omega arith)
