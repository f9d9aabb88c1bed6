use Rattle.std.proofs.Common.{◌≡◌, ◌+◌, sum_by, take}
use Rattle.chain_rules.specs.Decision.{header_bytes}
use Rattle.chain_rules.proofs.begin.is_long_begin.Given as goal

-- what is left of the limit after the streams so far
abbrev pub invariant-loop-stream : goal.invariant-loop-stream
invariant-loop-stream l = l.left + sum_by header_bytes (take l.stream-index l.streams) ≡ 16777216
