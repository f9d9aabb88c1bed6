use Rattle.std.proofs.Common.{take}
use Rattle.import_record.specs.Running.{HasRun}
use Rattle.import_record.proofs.answering.run_all.Given as goal

-- the commands so far were run
abbrev pub invariant-loop-command : goal.invariant-loop-command
invariant-loop-command g l =
    (before : g.T.Runner.State) → g.T.Runner.is_in before l.initial.runner → (after : g.T.Runner.State) × g.T.Runner.is_in after l.runner
    × HasRun g.T.Runner.answers (take l.command-index l.commands) l.answered before after (g.P.Write.contents l.initial.pages) (g.P.Write.contents l.pages)
