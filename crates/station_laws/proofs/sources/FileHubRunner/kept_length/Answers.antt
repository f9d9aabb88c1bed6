use Rattle.std.proofs.Common.{length, ◌∙◌, ap}
use Rattle.serve_machine.specs.Hub.{HubState}
use Rattle.station_hub.specs.LiveLaws.{is_live_in}
use Rattle.station_hub.specs.LiveRunning.{live_in}
use Rattle.station_laws.proofs.sources.FileHubRunner.kept_length.Goals as goal

pub returns : goal.returns
returns g c file (before, is_in, same) =
    let live = c.args.self.now.live in
    c.kept_length.ensures (live_in before live) (is_live_in g.D.Disk before live is_in) ∙ ap (λ (machine : HubState). length machine.committed) same
