use Rattle.std.proofs.Common.{◌≡◌, ◌≤◌, ◌+◌, ◌*◌, length, sum_by}
use Rattle.std.specs.List.{list_any, fold}
use Rattle.ogg_command.specs.declared.command.Entry.{Entry}
use Rattle.command_pages.specs.Encoding.{runs_of, pages_of_runs, with_run}
use Rattle.link_chain.specs.Size.{has_no_number, size_of_pages}
use Rattle.link_chain.specs.Places.{HaveOwnSerials}
use Rattle.command_pages.proofs.runs.size_of_runs.Given as goal

-- the streams have distinct serials, and the runs so far have their numbers and are counted
abbrev pub invariant-loop-rest : goal.invariant-loop-rest
invariant-loop-rest l = record {
  own : HaveOwnSerials l.streams;
  numbered : list_any has_no_number (pages_of_runs l.initial.streams (runs_of l.entries)) ≡ list_any has_no_number (pages_of_runs l.streams (runs_of l.rest));
  counted : size_of_pages (pages_of_runs l.initial.streams (runs_of l.entries)) ≡ l.size + size_of_pages (pages_of_runs l.streams (runs_of l.rest));
  after : fold with_run l.initial.streams (runs_of l.entries) ≡ fold with_run l.streams (runs_of l.rest);
  small : l.size + 29 * (sum_by (λ (entry : Entry). length entry.packet) l.rest + length l.rest) ≤ 29 * (16777216 + 4096);
}

abbrev pub decreases-loop-rest : goal.decreases-loop-rest
decreases-loop-rest l = length l.rest
