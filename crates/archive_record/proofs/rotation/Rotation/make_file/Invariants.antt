use Rattle.std.proofs.Common.{◌≡◌, ℕ, None, true}
use Rattle.std.specs.Prelude.{◌↔◌}
use Rattle.archive_history.specs.Archive.{Archive, names}
use Rattle.ogg_command.specs.declared.command.Command.{Command}
use Rattle.archive_record.specs.Account.{WritesNone}
use Rattle.archive_record.proofs.rotation.Rotation.make_file.Given as goal

abbrev pub invariant-loop : goal.invariant-loop
invariant-loop g l =
    let f = g.F.Folder in
    record {
      rules : l.self.rules ≡ l.initial.self.rules;
      leads : f.is_honest l.initial.self.files.folder → (a : Archive Command) (disks : ℕ → g.row.D.Denot) → a.newest ≡ None
          → f.names l.initial.self.files.folder ≡ names a
          → WritesNone f.names f.moment f.left_since g.D.Disk a l.initial.self.files.folder disks l.self.files.folder;
      named : l.is_next ≡ true → l.initial.goes_on ≡ true;
      honest : f.is_honest l.initial.self.files.folder ↔ f.is_honest l.self.files.folder;
    }
