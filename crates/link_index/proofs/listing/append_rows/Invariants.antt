use Rattle.std.proofs.Common.{◌≡◌, ◌≤◌, ◌+◌, ◌++◌, ℕ, List, length, vec_len}
use Rattle.std.specs.Prelude.{vec_capacity}
use Rattle.std.specs.List.{AllByRecursion}
use Rattle.link_index.specs.declared.rows.Row.{Row}
use Rattle.link_index.specs.Listing.{lines_from}
use Rattle.link_index.specs.Rows.{entries_of}
use Rattle.link_index.proofs.listing.append_rows.Given as goal

-- the lines so far are appended, and those of the rest are left
abbrev pub invariant-loop-row : goal.invariant-loop-row
invariant-loop-row l = record {
  items : l.out.items ++ lines_from l.number (entries_of l.streams l.rest) ≡ l.initial.out.items ++ lines_from 0 (entries_of l.streams l.rows);
  kept : (added : List ℕ) × (l.out.items ≡ l.initial.out.items ++ added);
  counted : vec_len l.out + length (lines_from l.number (entries_of l.streams l.rest)) ≡ vec_len l.initial.out + length (lines_from 0 (entries_of l.streams l.rows));
  capacity : vec_capacity l.initial.out ≤ vec_capacity l.out;
  inside : AllByRecursion (λ (row : Row). row.first + row.count ≤ length l.streams) l.rest;
  number : l.number + length l.rest ≡ length l.rows;
}

abbrev pub decreases-loop-row : goal.decreases-loop-row
decreases-loop-row l = length l.rest
