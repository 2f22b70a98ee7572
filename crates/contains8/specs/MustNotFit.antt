-- Document 01, "What the promises say": these must not fit. Whatever program answers as `contains` promises does not refuse every question, and where it
-- answers it does not always say yes, nor always no. Assumes nothing.
use Rattle.query.specs.MustNotFit as query

pub must_not_fit : (program : query.Program) → query.Fits 8 program → query.MustNotFit program
must_not_fit = query.must_not_fit (query.asked).0
