-- Document 01, "What the promises say": these must not fit. Whatever program answers and leaves as `build` promises does not refuse every list, and does
-- not give zero fingerprints, one descriptor or one attempt number for all; whatever answers as `contains` promises does not refuse every question, and
-- where it answers it does not always say yes, nor always no. Assumes nothing.
use Rattle.std.proofs.Common.{arith}
use Rattle.plan.specs.MustNotFit as plan
use Rattle.plan.specs.SmallLists.{built}
use Rattle.query.specs.MustNotFit as query

pub build_must_not_fit : (program : plan.Program) → plan.Fits 16 program → plan.MustNotFit program
build_must_not_fit = plan.must_not_fit built.1 (λ none. omega arith)

pub query_must_not_fit : (program : query.Program) → query.Fits 16 program → query.MustNotFit program
query_must_not_fit = query.must_not_fit (query.asked).1
