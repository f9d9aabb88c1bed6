use Rattle.std.proofs.Common.{inl, inr, refl, sym, ap, ◌∙◌, subst, ℕ, List, Some, Ok, Err, []}
use Rattle.serve_machine.specs.Calls.{Steps}
use Rattle.serve_machine.specs.Hub.{Connect, Receive}
use Rattle.serve_hub.specs.Images.{IfFile, Reads}
use Rattle.serve_hub.specs.Parts.{HubParts}
use Rattle.serve_hub.specs.Showing.{Shows}
use Rattle.serve_clients.specs.Client.{ClientState}
use Rattle.serve_clients.specs.declared.client.Stage.{Stage}
use Rattle.station_hub.specs.Asking.{CannotConnect}
use Rattle.station_hub.proofs.Losing.{cannot_connect, cannot_receive}
use Rattle.station_hub.proofs.Keeping.{both, by_session, unchanged}
use Rattle.station_hub.proofs.live_hub.LiveHub.connect.Goals as goal

pub returns-in-Ok-clause-connects : goal.returns-in-Ok-clause-connects
returns-in-Ok-clause-connects g c = inl (record {
  id = c.in-Ok.id;
  progress = c.receive-progress.result;
  between = c.connect.new.self;
  connects = c.in-Ok.ensures.step;
  receives = subst (λ (bytes : List ℕ). Steps (Shows g.D.Disk) c.connect.new.self c.receive-progress.new.self (λ machine. Receive c.in-Ok.id bytes c.receive-progress.result)) (c.as_slice.ensures.value ∙ ap (λ (client : ClientState). client.head) c.client.view_is) c.receive-progress.ensures.step;
  client = c.connected.ensures ∙ ap (λ (stage : Stage). record c.args.client.now { stage = stage; session = Some c.in-Ok.id; head = [] }) c.stage_after.ensures;
})

pub returns-in-Err-clause-connects : goal.returns-in-Err-clause-connects
returns-in-Err-clause-connects g c = inr (c.connect.ensures.full.0 (c.in-Err.is ∙ ap Err c.in-Err.ensures.refused.0), c.in-Err.ensures.refused.1, c.go_to.ensures)

pub returns-in-Ok-clause-recorded : goal.returns-in-Ok-clause-recorded
returns-in-Ok-clause-recorded g c =
    let moves = c.calls_move_their_session.ensures.file in
    both g.D.Disk c.args.self.now.hub c.connect.new.self c.receive-progress.new.self
    (by_session g.D.Disk moves c.args.self.now.hub c.connect.new.self (Connect (Ok c.in-Ok.id)) c.in-Ok.id refl c.in-Ok.ensures.step)
    (by_session g.D.Disk moves c.connect.new.self c.receive-progress.new.self (Receive c.in-Ok.id c.as_slice.result.now c.receive-progress.result) c.in-Ok.id refl
    c.receive-progress.ensures.step)

pub returns-in-Err-clause-recorded : goal.returns-in-Err-clause-recorded
returns-in-Err-clause-recorded g c = unchanged g.D.Disk c.args.self.now.hub c.connect.new.self c.in-Err.ensures.refused.1

pub returns-in-Err-clause-disk : goal.returns-in-Err-clause-disk
returns-in-Err-clause-disk g c = inl (ap (λ (hub : HubParts _). hub.file) c.in-Err.ensures.refused.1)

pub returns-in-Ok-clause-disk : goal.returns-in-Ok-clause-disk
returns-in-Ok-clause-disk g c =
    inr (subst (λ file. IfFile (Reads g.D.Disk) file c.receive-progress.new.self.file) (ap (λ (hub : HubParts _). hub.file) c.connect.ensures.parts) c.receive-progress.ensures.disk)

pub returns-in-Ok-clause-cause : goal.returns-in-Ok-clause-cause
returns-in-Ok-clause-cause g c machine shows cuts =
    let (mid, shown, step) = c.in-Ok.ensures.step machine shows in
    let received = c.receive-progress.ensures in
    let between = c.connect.new.self in
    let new = c.receive-progress.new.self in
    subst (λ (head : List ℕ). CannotConnect g.D.Disk head c.args.self.now.hub new) (c.as_slice.ensures.value ∙ ap (λ (client : ClientState). client.head) c.client.view_is)
    (cannot_connect g.D.Disk c.in-Ok.id c.as_slice.result.now machine mid c.args.self.now.hub between new c.in-Ok.ensures.step step
    (ap (λ (hub : HubParts _). hub.file) c.connect.ensures.parts)
    (cannot_receive g.D.Disk c.in-Ok.id c.as_slice.result.now c.receive-progress.result mid between new received.step shown
    received.memory received.not_full (λ e. (received.no_file.0 e).1) (λ e. received.cause e mid shown)
    (sym (ap (λ (client : ClientState). client.stage) c.connected.ensures ∙ c.stage_after.ensures) ∙ cuts)))

pub returns-in-Err-clause-cause : goal.returns-in-Err-clause-cause
returns-in-Err-clause-cause g c machine shows cuts = inl (c.connect.ensures.full.0 (c.in-Err.is ∙ ap Err c.in-Err.ensures.refused.0))
