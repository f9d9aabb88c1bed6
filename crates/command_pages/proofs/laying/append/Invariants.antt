use Rattle.std.proofs.Common.{length}
use Rattle.packetiser.specs.Laws.Appending.{Appends}
use Rattle.command_pages.specs.CommandPages.{BeginGoesOn, pages_to_begin}
use Rattle.command_pages.proofs.laying.append.Given as goal

-- the pages so far are appended, and there is room for the others
abbrev pub invariant-loop-pages : goal.invariant-loop-pages
invariant-loop-pages l = record {
  on : BeginGoesOn l.pages;
  pages : Appends l.initial.out (pages_to_begin l.initial.pages) l.out (pages_to_begin l.pages);
}

-- each step leaves one page fewer
abbrev pub decreases-loop-pages : goal.decreases-loop-pages
decreases-loop-pages l = length (pages_to_begin l.pages)
