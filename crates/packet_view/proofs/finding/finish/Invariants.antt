use Rattle.std.proofs.Common.{length}
use Rattle.packet_view.proofs.Opened.{Opened}
use Rattle.packet_view.proofs.finding.finish.Given as goal

-- the packet goes on after all pages so far
abbrev pub invariant-pages : goal.invariant-pages
invariant-pages l = Opened l.serial l.from l.place l.first l.len

abbrev pub decreases-pages : goal.decreases-pages
decreases-pages l = length l.place.rest.now
