use Rattle.std.proofs.Common.{None, Some, ◌∙◌, refl, sym}
use Rattle.archive_record.proofs.Going.{by_same_files, from_same, goes_free, goes_none}
use Rattle.archive_record.proofs.archive.Archive.close.Goals as goal

pub returns-in_default-clause-goes : goal.returns-in_default-clause-goes
returns-in_default-clause-goes g c =
    let files = c.args.self.now.rotation.files in
    let was = c.args.self.now.newest in
    by_same_files g.F.Folder.names g.F.Folder.moment g.F.Folder.left_since g.F.Folder.is_honest g.D.Disk files files files was was c.take.new.self refl (c.take.ensures.after ∙ (sym c.in_default.is ∙ c.take.ensures.value)) (goes_none g.F.Folder.names g.F.Folder.moment g.F.Folder.left_since g.F.Folder.is_honest g.F.Folder.file g.D.Disk c.files_lead_on.ensures files was)

pub returns-clause-goes : goal.returns-clause-goes
returns-clause-goes g c =
    let files = c.args.self.now.rotation.files in
    let was = c.args.self.now.newest in
    let newest = c.in-Some.newest in
    by_same_files g.F.Folder.names g.F.Folder.moment g.F.Folder.left_since g.F.Folder.is_honest g.D.Disk files c.end-2.new.self.files c.end-2.new.self.files was None c.take.new.self refl c.take.ensures.after
    (from_same g.F.Folder.names g.F.Folder.moment g.F.Folder.left_since g.F.Folder.is_honest g.D.Disk files c.end-2.new.self.files was (Some newest) None (sym c.take.ensures.value ∙ c.in-Some.is)
    (goes_free g.F.Folder.names g.F.Folder.moment g.F.Folder.left_since g.F.Folder.is_honest g.F.Folder.file g.D.Disk c.files_lead_on.ensures files c.end-2.new.self.files (Some newest) c.end-2.ensures.honest.0 (λ honest a disks at (file, written, out). c.end-2.ensures.leads honest a file disks at written)))
