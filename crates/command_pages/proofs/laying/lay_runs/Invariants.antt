use Rattle.std.proofs.Common.{◌≡◌, ◌≤◌, ◌+◌, ◌++◌, ℕ, List, length, vec_len}
use Rattle.std.specs.Prelude.{vec_capacity}
use Rattle.ogg_page.specs.Page.{bytes_of_pages}
use Rattle.command_pages.specs.CommandPages.{RunsGoOn}
use Rattle.command_pages.specs.Encoding.{runs_of, pages_of_runs}
use Rattle.link_chain.specs.Size.{size_of_pages}
use Rattle.command_pages.proofs.laying.lay_runs.Given as goal

-- the pages so far and those that are left are all pages, and these can be made; what stood in the vector stays
abbrev pub invariant-loop-rest : goal.invariant-loop-rest
invariant-loop-rest l = record {
  items : l.out.items ++ bytes_of_pages (pages_of_runs l.streams (runs_of l.rest)) ≡ l.fn.out.items ++ bytes_of_pages (pages_of_runs l.initial.streams (runs_of l.entries));
  counted : vec_len l.out + size_of_pages (pages_of_runs l.streams (runs_of l.rest))
      ≡ vec_len l.fn.out + size_of_pages (pages_of_runs l.initial.streams (runs_of l.entries));
  capacity : vec_capacity l.fn.out ≤ vec_capacity l.out;
  kept : (added : List ℕ) × (l.out.items ≡ l.fn.out.items ++ added);
  on : RunsGoOn l.streams l.rest;
}

abbrev pub decreases-loop-rest : goal.decreases-loop-rest
decreases-loop-rest l = length l.rest
