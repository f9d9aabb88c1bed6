use Rattle.std.proofs.Common.{[]}
use Rattle.std.proofs.KnownBytes.{Appends-nil}
use Rattle.station_hub.proofs.live_hub.LiveHubRunner.run_command.Goals as goal

pub returns-clause-ok : goal.returns-clause-ok
returns-clause-ok g c before is_in =
    let (after, answers, there) = c.answer.ensures.answers before is_in in
    ([], after, answers, there, Appends-nil _)
