use Rattle.std.proofs.Common.{◌≡◌, ◌≤◌, Some, [], false, length}
use Rattle.serve_machine.specs.Hub.{HubState, Reading, phase_of}
use Rattle.serve_hub.specs.Images.{IfFile, Reads}
use Rattle.serve_hub.specs.Showing.{Shows}
use Rattle.ogg_serve.proofs.Received.{IsReading}
use Rattle.ogg_serve.proofs.pieces.read_head.Given as goal

-- each turn but the last has added a byte
abbrev pub invariant-loop : goal.invariant-loop
invariant-loop g l = record {
  reading : (before : HubState) → Shows g.D.Disk l.fn.hub before → phase_of before l.fn.id ≡ Some (Reading [])
      → (now : HubState) × Shows g.D.Disk l.hub now
      × (r : IsReading l.fn.id (g.R.Read.remaining l.fn.reader) (g.R.Read.remaining l.reader) before now) × (l.counter ≤ length r.received);
  disk : IfFile (Reads g.D.Disk) l.fn.hub.file l.hub.file;
  tries : l.tries ≡ l.fn.tries;
  lost : l.hub.lost ≡ l.fn.hub.lost;
}
