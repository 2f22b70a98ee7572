-- No other answer of `build` or `attempt` fits its promise, and no other memory. Assumes nothing.
use Rattle.fuse.specs.Build.{build_of, attempt_of}
use Rattle.plan.specs.OneAnswer as plan

pub one_build : plan.OneAnswer (build_of 8)
one_build = plan.one_build 8

pub one_attempt : plan.OneAnswer (attempt_of 8)
one_attempt = plan.one_attempt 8
