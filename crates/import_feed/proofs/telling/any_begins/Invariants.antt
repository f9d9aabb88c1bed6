use Rattle.std.proofs.Common.{◌≡◌, drop}
use Rattle.std.specs.List.{list_any}
use Rattle.import_feed.specs.Mending.{begins}
use Rattle.import_feed.proofs.telling.any_begins.Given as goal

-- none of the commands so far begins a link
abbrev pub invariant-loop-command : goal.invariant-loop-command
invariant-loop-command l = list_any begins (drop l.command-index l.commands) ≡ list_any begins l.commands
