use Rattle.std.proofs.Common.{◌≡◌, take}
use Rattle.import_record.specs.Begun.{open_after}
use Rattle.import_record.proofs.begun.keep_all_open.Given as goal

-- the commands so far count
abbrev pub invariant-loop-command : goal.invariant-loop-command
invariant-loop-command l = l.serials.items ≡ open_after l.initial.serials.items (take l.command-index l.commands)
