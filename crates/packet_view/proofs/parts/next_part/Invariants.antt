use Rattle.std.proofs.Common.{◌≡◌, length}
use Rattle.packet_view.specs.Packet.{ArePages, slices_in}
use Rattle.packet_view.proofs.parts.next_part.Given as goal

-- the pages so far have no part
abbrev pub invariant-loop-rest : goal.invariant-loop-rest
invariant-loop-rest l = record {
  pages : ArePages l.rest;
  same : slices_in l.serial l.pages ≡ slices_in l.serial l.rest;
}

abbrev pub decreases-loop-rest : goal.decreases-loop-rest
decreases-loop-rest l = length l.rest
