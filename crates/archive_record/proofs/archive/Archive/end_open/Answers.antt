use Rattle.std.proofs.Common.{ap}
use Rattle.archive_record.specs.declared.archive.Archive.{Archive}
use Rattle.archive_record.specs.declared.rotation.Rotation.{Rotation}
use Rattle.archive_record.proofs.Going.{by_same_files}
use Rattle.archive_record.proofs.archive.Archive.end_open.Goals as goal

pub returns-then-is_ok-clause-goes : goal.returns-then-is_ok-clause-goes
returns-then-is_ok-clause-goes g c =
    by_same_files g.F.Folder.names g.F.Folder.moment g.F.Folder.left_since g.F.Folder.is_honest g.D.Disk c.args.self.now.rotation.files c.end_open_newest-ended.new.self.rotation.files c.tell_time.new.self.rotation.files c.args.self.now.newest
    c.end_open_newest-ended.new.self.newest c.tell_time.new.self.newest (ap (λ (r : Rotation _ _). r.files) c.tell_time.ensures.times)
    (ap (λ (a : Archive _ _). a.newest) c.tell_time.ensures.rest) c.end_open_newest-ended.ensures.goes
