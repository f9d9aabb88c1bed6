use Rattle.std.proofs.Common.{◌≡◌, ◌≤◌, ◌+◌, length}
use Rattle.command_pages.specs.Encoding.{runs_of}
use Rattle.command_pages.proofs.RunPages.{entry_bytes}
use Rattle.command_pages.proofs.MadePages.{count_of_runs}
use Rattle.command_pages.proofs.putting.count_put.Given as goal

-- the runs so far are counted
abbrev pub invariant-loop-rest : goal.invariant-loop-rest
invariant-loop-rest l = record {
  counted : l.count + count_of_runs (runs_of l.rest) ≡ count_of_runs (runs_of l.entries);
  few : l.count + (entry_bytes l.rest + length l.rest) ≤ entry_bytes l.entries + length l.entries;
}

abbrev pub decreases-loop-rest : goal.decreases-loop-rest
decreases-loop-rest l = length l.rest
