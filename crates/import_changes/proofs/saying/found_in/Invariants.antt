use Rattle.std.proofs.Common.{take}
use Rattle.std.specs.List.{AllByRecursion}
use Rattle.import_changes.specs.Said.{IsSilent}
use Rattle.import_changes.proofs.saying.found_in.Given as goal

-- the packets so far say nothing of the stream
abbrev pub invariant-loop-packet : goal.invariant-loop-packet
invariant-loop-packet l = AllByRecursion (IsSilent l.serial) (take l.packet-index l.said)
