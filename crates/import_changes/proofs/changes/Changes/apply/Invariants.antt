use Rattle.std.specs.Prelude.{◌≤◌}
use Rattle.std.proofs.Common.{◌≡◌, false, ℕ, ◌++◌, List, take}
use Rattle.std.specs.List.{AllByRecursion, list_any}
use Rattle.ogg_command.specs.declared.command.Command.{Command}
use Rattle.import_changes.specs.Changed.{HasChangedBeside, IsPlain, begins}
use Rattle.import_changes.specs.Steps.{BeginAt}
use Rattle.import_changes.proofs.Moved.{Moved}
use Rattle.import_changes.proofs.changes.Changes.apply.Given as goal

-- the commands so far are changed, and the options stay
abbrev pub invariant-loop-place : goal.invariant-loop-place
invariant-loop-place l = record {
  changed : (taken : List ℕ) (before given : List Command) → HasChangedBeside taken l.fn.self before given → AllByRecursion IsPlain (take l.place l.fn.commands.items)
      → HasChangedBeside taken l.self (before ++ take l.place l.fn.commands.items) (given ++ take l.kept l.commands.items);
  moved : Moved l.fn.commands.items l.commands.items (take l.kept l.commands.items) l.place l.kept;
  options : l.self.options ≡ l.fn.self.options;
  name_room : l.fn.self.name_room ≤ l.self.name_room;
  same : list_any begins (take l.place l.fn.commands.items) ≡ false → l.self ≡ l.fn.self;
  times : BeginAt l.fn.utc l.fn.self.options (take l.place l.fn.commands.items) (take l.kept l.commands.items);
}
