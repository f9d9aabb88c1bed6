use Rattle.std.proofs.Common.{refl, sym, ap, ◌∙◌, inr}
use Rattle.serve_clients.specs.Client.{ClientState, with_stage}
use Rattle.serve_clients.specs.declared.client.Stage.{Stage}
use Rattle.serve_machine.specs.Hub.{Receive}
use Rattle.station_hub.proofs.Keeping.{by_session}
use Rattle.station_hub.proofs.Losing.{cannot_receive}
use Rattle.station_hub.proofs.live_hub.LiveHub.read.Goals as goal

pub returns-clause-read : goal.returns-clause-read
returns-clause-read g c = (c.receive-progress.result, c.receive-progress.ensures.step, c.go_to.ensures ∙ ap (λ (stage : Stage). with_stage stage c.args.client.now) c.stage_after.ensures)

pub returns-clause-disk : goal.returns-clause-disk
returns-clause-disk g c = inr c.receive-progress.ensures.disk

pub returns-clause-recorded : goal.returns-clause-recorded
returns-clause-recorded g c =
    by_session g.D.Disk c.calls_move_their_session.ensures.file c.args.self.now.hub c.receive-progress.new.self
    (Receive c.args.id c.args.bytes.now c.receive-progress.result) c.args.id refl c.receive-progress.ensures.step

pub returns-clause-cause : goal.returns-clause-cause
returns-clause-cause g c machine shows cuts =
    let received = c.receive-progress.ensures in
    cannot_receive g.D.Disk c.args.id c.args.bytes.now c.receive-progress.result machine c.args.self.now.hub c.receive-progress.new.self received.step shows
    received.memory received.not_full (λ e. (received.no_file.0 e).1) (λ e. received.cause e machine shows)
    (sym (ap (λ (client : ClientState). client.stage) c.go_to.ensures ∙ c.stage_after.ensures) ∙ cuts)
