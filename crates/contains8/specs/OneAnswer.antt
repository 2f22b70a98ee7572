-- No other answer of `contains`, `contains_bytes` or `contains_told` fits its promise. Assumes nothing.
use Rattle.fuse.specs.Query.{contains_of, contains_bytes_of}
use Rattle.query.specs.OneAnswer as query

pub one_contains : query.OneAnswer (contains_of 8)
one_contains = query.one_contains 8

pub one_contains_bytes : query.OneAnswer (contains_bytes_of 8)
one_contains_bytes = query.one_contains_bytes 8

pub one_contains_told : query.OneTold 8
one_contains_told = query.one_contains_told 8
