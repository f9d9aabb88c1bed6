use Rattle.std.proofs.Common.{refl}
use Rattle.station_hub.specs.LiveLaws.{is_live_in}
use Rattle.station_hub.specs.LiveRunning.{live_in}
use Rattle.station_laws.specs.Recorded.{file_of}
use Rattle.station_laws.proofs.sources.FileHubRunner.run_flush.Goals as goal

pub returns-clause-answers : goal.returns-clause-answers
returns-clause-answers g c file (before, is_in, same) =
    let live = c.args.self.now.live in
    let (after, answered, is_after) = c.run_flush.ensures.answers (live_in before live) (is_live_in g.D.Disk before live is_in) in
    (file_of after.hub.machine, (before, after.hub, same, refl, answered.hub), (after.hub, is_after.hub, refl))
