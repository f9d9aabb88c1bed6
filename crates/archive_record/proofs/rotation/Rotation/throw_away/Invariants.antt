use Rattle.std.proofs.Common.{◌≡◌, ℕ, length}
use Rattle.std.specs.Prelude.{◌↔◌}
use Rattle.archive_history.specs.Archive.{Archive, names}
use Rattle.ogg_command.specs.declared.command.Command.{Command}
use Rattle.archive_record.specs.Account.{NewestIsLast, StaysWritten}
use Rattle.archive_record.specs.Retention.{IsLeftOf}
use Rattle.archive_record.proofs.rotation.Rotation.throw_away.Given as goal

abbrev pub invariant-loop : goal.invariant-loop
invariant-loop g l =
    let f = g.F.Folder in
    record {
      left : IsLeftOf l.initial.self.files.files l.self.files.files;
      paired : length l.initial.self.held.items ≡ length l.initial.self.files.files → length l.self.held.items ≡ length l.self.files.files;
      out : l.self.files.out ≡ l.initial.self.files.out;
      rules : l.self.rules ≡ l.initial.self.rules;
      leads : f.is_honest l.initial.self.files.folder → (a : Archive Command) (disks : ℕ → g.row.D.Denot) → NewestIsLast l.initial.self.files.files a
          → f.names l.initial.self.files.folder ≡ names a
          → StaysWritten f.names f.moment f.left_since g.D.Disk a l.initial.self.files.folder disks l.self.files.folder;
      honest : f.is_honest l.initial.self.files.folder ↔ f.is_honest l.self.files.folder;
    }
