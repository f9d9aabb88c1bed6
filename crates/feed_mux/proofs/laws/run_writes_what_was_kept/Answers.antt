use Rattle.std.proofs.Common.{[], arith, sym, subst, inl, inr}
use Rattle.ogg_command.specs.Command.{IsCommand}
use Rattle.chain_rules.specs.Recording.{Holds, after}
use Rattle.feed_runner.specs.Counting.{kept_of}
use Rattle.feed_mux.specs.Progress.{at_start}
use Rattle.feed_runner.specs.CountingLaws.{each_kept}
use Rattle.feed_mux.proofs.KeptCommands.{came_to}
use Rattle.feed_mux.proofs.laws.run_writes_what_was_kept.Goals as goal

pub returns-clause-pages : goal.returns-clause-pages
returns-clause-pages c = λ records replies bytes behind all.
    let came = came_to at_start records replies bytes behind all in
    (came.are_kept, came.bytes_are, came.links_are, omega (arith, came.count_is))

pub returns-clause-holds : goal.returns-clause-holds
returns-clause-holds c = λ records replies bytes behind each all.
    let came = came_to at_start records replies bytes behind all in
    subst (λ l. Holds l (after [] (kept_of records replies))) (sym came.bytes_are)
    (c.commands_add_their_packets.ensures.holds (kept_of records replies) (each_kept IsCommand records replies each) came.are_kept)

pub returns-clause-closing : goal.returns-clause-closing
returns-clause-closing c = λ at now before behind closing last closed.
    elim closed [
      | inl still ↦ (still.1, still.2, still.3, still.4)
      | inr flushed ↦ absurd (omega (arith, flushed.0))
    ]
