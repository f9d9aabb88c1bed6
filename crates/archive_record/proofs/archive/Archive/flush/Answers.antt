use Rattle.std.proofs.Common.{ap}
use Rattle.archive_record.specs.declared.archive.Archive.{Archive}
use Rattle.archive_record.specs.declared.rotation.Rotation.{Rotation}
use Rattle.archive_record.proofs.Going.{by_same_files}
use Rattle.archive_record.proofs.archive.Archive.flush.Goals as goal

pub returns-clause-goes : goal.returns-clause-goes
returns-clause-goes g c =
    by_same_files g.F.Folder.names g.F.Folder.moment g.F.Folder.left_since g.F.Folder.is_honest g.D.Disk c.args.self.now.rotation.files c.flush_newest.new.self.rotation.files c.committed.new.self.rotation.files c.args.self.now.newest
    c.flush_newest.new.self.newest c.committed.new.self.newest (ap (λ (r : Rotation _ _). r.files) c.committed.ensures.times)
    (ap (λ (a : Archive _ _). a.newest) c.committed.ensures.rest) c.flush_newest.ensures.goes
