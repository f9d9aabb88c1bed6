use Rattle.std.proofs.Common.{◌≡◌, length}
use Rattle.serve_sending.specs.Answering.{bytes_with}
use Rattle.serve_sending.proofs.finding.bytes_with.Given as goal

-- the rest decides
abbrev pub invariant-loop-stream : goal.invariant-loop-stream
invariant-loop-stream l = bytes_with l.serial l.fn.streams ≡ bytes_with l.serial l.rest

abbrev pub decreases-loop-stream : goal.decreases-loop-stream
decreases-loop-stream l = length l.rest
