use Rattle.std.proofs.Common.{◌≡◌, ◌++◌, ◌≤◌, length, true}
use Rattle.std.specs.List.{list_all}
use Rattle.skeleton3.specs.Fields.{is_field}
use Rattle.import_changes.specs.Said.{further}
use Rattle.import_changes.proofs.saying.kept_fields.Given as goal

-- the fields so far are kept
abbrev pub invariant-loop-name : goal.invariant-loop-name
invariant-loop-name l = record {
  can : (goal.iterator-loop-name).can_next l.name-iterator;
  finite : (goal.iterator-loop-name).is_finite l.name-iterator;
  fields : further l.fn.message ≡ l.now.items ++ further l.name-iterator;
  kept : list_all is_field l.now.items ≡ true;
  few : length l.now.items ≤ 16;
}
