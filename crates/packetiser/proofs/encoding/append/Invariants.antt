use Rattle.std.proofs.Common.{length}
use Rattle.packetiser.specs.Laws.Appending.{Appends}
use Rattle.packetiser.proofs.encoding.append.Given as goal

-- the pages so far are appended, and there is room for the others
abbrev pub invariant-loop-pages : goal.invariant-loop-pages
invariant-loop-pages g l = record { pages : Appends l.initial.out l.initial.pages l.out l.pages }

-- each step leaves one page fewer
abbrev pub decreases-loop-pages : goal.decreases-loop-pages
decreases-loop-pages g l = length l.pages
