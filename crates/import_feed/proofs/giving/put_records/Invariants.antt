use Rattle.std.proofs.Common.{◌≡◌, ◌++◌, take}
use Rattle.std.specs.List.{AllByRecursion}
use Rattle.import_feed.specs.Feed.{Fits, records_of}
use Rattle.import_feed.proofs.giving.put_records.Given as goal

-- the records so far stand there, and each command so far fits
abbrev pub invariant-loop-command : goal.invariant-loop-command
invariant-loop-command l =
    (l.bytes.items ≡ l.initial.bytes.items ++ records_of (take l.command-index l.commands)) × AllByRecursion Fits (take l.command-index l.commands)
