use Rattle.std.proofs.Common.{◌≤◌, ◌+◌, ◌-◌}
use Rattle.feed_run.specs.Run.{most_records, steps_of, streams_to}
use Rattle.feed_run.proofs.Ending.{HasCome}
use Rattle.feed_run.proofs.whole.run_feed_for.Given as goal

-- each step counts one command at most, and records were run
abbrev pub invariant-loop-run : goal.invariant-loop-run
invariant-loop-run g l =
    (steps_of l.run ≤ most_records + 1)
    × (g.T.Runner.counted l.runner ≤ g.T.Runner.counted l.fn.runner + steps_of l.run)
    × ((before : g.T.Runner.State) → g.T.Runner.is_in before l.fn.runner → (after : g.T.Runner.State) × g.T.Runner.is_in after l.runner
    × HasCome g.T.Runner.answers g.T.Runner.held_in
    (streams_to (g.R.Read.remaining l.fn.reader) (g.P.Write.contents l.fn.pages) (g.S.Replies.lines l.fn.replies) g.S.Replies.waits (g.S.Replies.enough l.fn.replies))
    (streams_to (g.R.Read.remaining l.reader) (g.P.Write.contents l.pages) (g.S.Replies.lines l.replies) g.S.Replies.waits (g.S.Replies.enough l.replies)) l.run before after)

abbrev pub decreases-loop-run : goal.decreases-loop-run
decreases-loop-run g l = most_records + 1 - steps_of l.run
