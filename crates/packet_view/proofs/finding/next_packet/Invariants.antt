use Rattle.std.proofs.Common.{◌≡◌, [], length}
use Rattle.packet_view.specs.Walking.{packets_at}
use Rattle.packet_view.proofs.finding.next_packet.Given as goal

-- no packet began in the pages so far
abbrev pub invariant-pages : goal.invariant-pages
invariant-pages l = packets_at l.serial l.fn.from [] ≡ packets_at l.serial l.place []

abbrev pub decreases-pages : goal.decreases-pages
decreases-pages l = length l.place.rest.now
