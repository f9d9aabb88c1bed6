use Rattle.std.proofs.Common.{◌≡◌, ◌≤◌, ◌++◌, length}
use Rattle.file_actions.specs.Salvage.{page_lines, pages_before, searched_with}
use Rattle.file_actions.proofs.salvaging.lines_of.Given as goal

-- the pages so far have their lines
abbrev pub invariant-loop-page : goal.invariant-loop-page
invariant-loop-page l = record {
  goes_on : l.sure ≤ l.searched;
  lines : l.lines.items ++ page_lines (pages_before l.at l.sure l.rest) ≡ page_lines (pages_before l.at l.sure l.pages);
  searched : searched_with l.searched l.sure l.rest ≡ searched_with l.sure l.sure l.pages;
}

abbrev pub decreases-loop-page : goal.decreases-loop-page
decreases-loop-page l = length l.rest
