use Rattle.std.proofs.Common.{◌≡◌, [], ℕ}
use Rattle.std.specs.Prelude.{◌↔◌}
use Rattle.archive_history.specs.Archive.{Archive, Newest}
use Rattle.ogg_command.specs.declared.command.Command.{Command}
use Rattle.archive_record.specs.Reaching.{AreAt, ComesBack, IsAtHand}
use Rattle.archive_record.proofs.rotation.Rotation.open_newest.Given as goal

-- the newest may be opened again
abbrev pub invariant-loop : goal.invariant-loop
invariant-loop g l =
    let f = g.F.Folder in
    record {
      rules : l.self.rules ≡ l.initial.self.rules;
      empty : l.initial.self.files.files ≡ [] → l.self.files ≡ l.initial.self.files;
      leads : f.is_honest l.initial.self.files.folder → (a : Archive Command) (newest : Newest Command) (disks : ℕ → g.row.D.Denot)
          → AreAt f.names g.D.Disk l.initial.self.files a disks → IsAtHand f.file g.D.Disk l.initial.self.files.folder a newest disks
          → ComesBack f.names f.moment f.left_since g.D.Disk f.file l.initial.self.files a disks newest.name.number l.self.files;
      honest : f.is_honest l.initial.self.files.folder ↔ f.is_honest l.self.files.folder;
    }
