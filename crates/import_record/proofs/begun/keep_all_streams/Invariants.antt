use Rattle.std.proofs.Common.{◌≡◌, take}
use Rattle.import_record.specs.Begun.{streams_after}
use Rattle.import_record.proofs.begun.keep_all_streams.Given as goal

-- the commands so far count
abbrev pub invariant-loop-command : goal.invariant-loop-command
invariant-loop-command l = l.streams.items ≡ streams_after l.initial.streams.items (take l.command-index l.commands)
