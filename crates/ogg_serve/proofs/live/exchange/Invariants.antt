use Rattle.std.proofs.Common.{◌≡◌, ◌≤◌, Some, [], false}
use Rattle.serve_hub.specs.Images.{failures_in}
use Rattle.serve_machine.specs.Hub.{HubState, Reading, phase_of}
use Rattle.serve_hub.specs.Showing.{Shows}
use Rattle.ogg_serve.specs.Keeping.{KeepsOthers}
use Rattle.ogg_serve.specs.FileHistory.{ContinuesHistory}
use Rattle.ogg_serve.specs.Steps.{TakesSteps}
use Rattle.ogg_serve.proofs.Sent.{IsSendingIn}
use Rattle.ogg_serve.proofs.live.exchange.Given as goal

abbrev pub invariant-loop : goal.invariant-loop
invariant-loop g l = record {
  sending : (before : HubState) → Shows g.D.Disk l.fn.hub before → phase_of before l.fn.id ≡ Some (Reading [])
      → (now : HubState) × Shows g.D.Disk l.hub now
      × KeepsOthers l.fn.id before now
      × TakesSteps g.D.Disk
      g.F.Read.remaining g.L.Write.contents l.counter l.fn.feed l.feed before now
      × IsSendingIn l.counter l.fn.id (g.R.Read.remaining l.fn.reader) (g.R.Read.remaining l.reader)
      (g.W.Write.contents l.fn.writer) (g.W.Write.contents l.writer) before now;
  tries : (before : HubState) → Shows g.D.Disk l.fn.hub before → phase_of before l.fn.id ≡ Some (Reading [])
      → l.fn.tries ≡ false → l.tries ≡ false;
  history : (before : HubState) → Shows g.D.Disk l.fn.hub before → phase_of before l.fn.id ≡ Some (Reading [])
      → ContinuesHistory g.D.Disk l.fn.hub l.hub;
  later : (before : HubState) → Shows g.D.Disk l.fn.hub before → phase_of before l.fn.id ≡ Some (Reading [])
      → failures_in g.D.Disk.failures l.fn.hub ≤ failures_in g.D.Disk.failures l.hub;
}
