use Rattle.std.proofs.Common.{◌≡◌, ℕ, length}
use Rattle.std.specs.Prelude.{◌↔◌}
use Rattle.archive_history.specs.Archive.{Archive, names}
use Rattle.ogg_command.specs.declared.command.Command.{Command}
use Rattle.archive_record.specs.Reaching.{Reaches}
use Rattle.archive_record.proofs.rotation.Rotation.look_at_all.Given as goal

abbrev pub invariant-loop-at : goal.invariant-loop-at
invariant-loop-at g l =
    let f = g.F.Folder in
    record {
      out : l.self.files.out ≡ l.initial.self.files.out;
      rules : l.self.rules ≡ l.initial.self.rules;
      files : l.self.files.files ≡ l.initial.self.files.files;
      count : length l.self.held.items ≡ l.at;
      leads : f.is_honest l.initial.self.files.folder → (a : Archive Command) (disks : ℕ → g.row.D.Denot) → f.names l.initial.self.files.folder ≡ names a
          → Reaches f.names f.moment f.left_since g.D.Disk a l.initial.self.files.folder disks a l.self.files.folder disks;
      places : f.is_honest l.initial.self.files.folder → f.file l.self.files.folder ≡ f.file l.initial.self.files.folder;
      honest : f.is_honest l.initial.self.files.folder ↔ f.is_honest l.self.files.folder;
    }
