use Rattle.std.specs.List.{AllZip}
use Rattle.import_changes.specs.Steps.{IsDescribedUnder}
use Rattle.import_changes.proofs.describing.all_described.Given as goal

-- the streams so far are described
abbrev pub invariant-loop-stream : goal.invariant-loop-stream
invariant-loop-stream l = AllZip (IsDescribedUnder l.names l.said) l.yielded l.now.items
