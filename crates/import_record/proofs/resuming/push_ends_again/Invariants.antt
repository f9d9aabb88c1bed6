use Rattle.std.proofs.Common.{◌≡◌, ◌++◌, map, take}
use Rattle.std.specs.List.{filter}
use Rattle.import_record.specs.Resuming.{end_again, is_over}
use Rattle.import_record.proofs.resuming.push_ends_again.Given as goal

-- of the streams so far those are ended that had no packet but their headers
abbrev pub invariant-loop-begun : goal.invariant-loop-begun
invariant-loop-begun l = l.commands.items ≡ l.initial.commands.items ++ map end_again (filter is_over (take l.begun-index l.streams))
