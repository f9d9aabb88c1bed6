use Rattle.std.proofs.Common.{refl}
use Rattle.std.proofs.lemmas.Result.{IfOk-weaker, on_err_weaker}
use Rattle.station_hub.specs.LiveLaws.{is_live_in}
use Rattle.station_hub.specs.LiveRunning.{live_in}
use Rattle.station_laws.specs.Recorded.{file_of}
use Rattle.station_laws.proofs.sources.FileHubRunner.run_command.Goals as goal

pub returns-clause-ok : goal.returns-clause-ok
returns-clause-ok g c file (before, is_in, same) =
    let live = c.args.self.now.live in
    IfOk-weaker c.run_command.result _ _
    (λ reply (own, after, answered, is_after, appended).
    (own, file_of after.hub.machine, (before, after.hub, same, refl, answered.hub), (after.hub, is_after.hub, refl), appended))
    (c.run_command.ensures.ok (live_in before live) (is_live_in g.D.Disk before live is_in))

pub returns-clause-err : goal.returns-clause-err
returns-clause-err g c file (before, is_in, same) =
    let live = c.args.self.now.live in
    on_err_weaker c.run_command.result
    (λ (reply, own, after, answered, is_before, written).
    (reply, own, file_of after.hub.machine, (before, after.hub, same, refl, answered.hub), (before, is_before.hub, same), written))
    (c.run_command.ensures.err (live_in before live) (is_live_in g.D.Disk before live is_in))
