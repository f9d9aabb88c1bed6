use Rattle.std.proofs.Common.{◌≡◌, Some, [], false}
use Rattle.serve_machine.specs.Hub.{HubState, Reading, phase_of}
use Rattle.serve_hub.specs.Images.{IfFile, Reads}
use Rattle.serve_hub.specs.Showing.{Shows}
use Rattle.ogg_serve.specs.Keeping.{OnlyServes}
use Rattle.ogg_serve.proofs.Sent.{IsSendingIn}
use Rattle.ogg_serve.proofs.serve.exchange.Given as goal

abbrev pub invariant-loop : goal.invariant-loop
invariant-loop g l = record {
  sending : (before : HubState) → Shows g.D.Disk l.fn.hub before → phase_of before l.fn.id ≡ Some (Reading [])
      → (now : HubState) × Shows g.D.Disk l.hub now
      × OnlyServes l.fn.id before now
      × IsSendingIn l.counter l.fn.id (g.R.Read.remaining l.fn.reader) (g.R.Read.remaining l.reader) (g.W.Write.contents l.fn.writer) (g.W.Write.contents l.writer) before now;
  disk : IfFile (Reads g.D.Disk) l.fn.hub.file l.hub.file;
  tries : (before : HubState) → Shows g.D.Disk l.fn.hub before → phase_of before l.fn.id ≡ Some (Reading [])
      → l.fn.tries ≡ false → l.tries ≡ false;
}
