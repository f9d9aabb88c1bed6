use Rattle.std.proofs.Common.{◌≡◌, length}
use Rattle.serve_live.specs.Names.{name_in}
use Rattle.serve_live.proofs.names.name_in.Given as goal

-- the streams that are left decide
abbrev pub invariant-loop-stream : goal.invariant-loop-stream
invariant-loop-stream l = name_in l.fn.names l.serial ≡ name_in l.rest l.serial

abbrev pub decreases-loop-stream : goal.decreases-loop-stream
decreases-loop-stream l = length l.rest
