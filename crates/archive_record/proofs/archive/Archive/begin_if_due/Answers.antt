use Rattle.archive_record.proofs.Going.{goes_none}
use Rattle.archive_record.proofs.archive.Archive.begin_if_due.Goals as goal

pub returns-else-is_due-clause-goes : goal.returns-else-is_due-clause-goes
returns-else-is_due-clause-goes g c = goes_none g.F.Folder.names g.F.Folder.moment g.F.Folder.left_since g.F.Folder.is_honest g.F.Folder.file g.D.Disk c.files_lead_on.ensures c.args.self.now.rotation.files c.args.self.now.newest
