use Rattle.std.proofs.Common.{◌≡◌, ◌+◌, ◌^◌, ◌<◌, List, length}
use Rattle.ogg_page.specs.Pages.{found_in}
use Rattle.packet_view.specs.Packets.{Part, packets_from}
use Rattle.packet_view.proofs.Walks.{Skips}
use Rattle.packet_view.proofs.walking.next_page.Given as goal

-- only pages of other streams were passed, so the packets are as they were
abbrev pub invariant-loop-rest : goal.invariant-loop-rest
invariant-loop-rest l = record {
  inside : l.offset + length l.rest < 2 ^ 64;
  same : (parts : List Part) → packets_from l.serial l.behind parts (found_in l.start l.source) ≡ packets_from l.serial l.behind parts (found_in l.offset l.rest);
  skips : Skips l.serial l.start l.source l.offset l.rest;
}

abbrev pub decreases-loop-rest : goal.decreases-loop-rest
decreases-loop-rest l = length l.rest
