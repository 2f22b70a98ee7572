-- No other answer of a public call fits its promise, and of `build` and `attempt` no other memory. Assumes nothing.
use Rattle.fuse.specs.Build.{build_of, attempt_of}
use Rattle.fuse.specs.Query.{contains_of, contains_bytes_of}
use Rattle.plan.specs.OneAnswer as plan
use Rattle.query.specs.OneAnswer as query

pub one_build : plan.OneAnswer (build_of 16)
one_build = plan.one_build 16

pub one_attempt : plan.OneAnswer (attempt_of 16)
one_attempt = plan.one_attempt 16

pub one_contains : query.OneAnswer (contains_of 16)
one_contains = query.one_contains 16

pub one_contains_bytes : query.OneAnswer (contains_bytes_of 16)
one_contains_bytes = query.one_contains_bytes 16

pub one_contains_told : query.OneTold 16
one_contains_told = query.one_contains_told 16
