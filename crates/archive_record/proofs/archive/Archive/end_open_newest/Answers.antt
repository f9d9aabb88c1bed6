use Rattle.std.proofs.Common.{Some, [], refl}
use Rattle.archive_record.specs.declared.newest.Newest.{Newest}
use Rattle.archive_record.proofs.Going.{from_same, goes_by_done, goes_none}
use Rattle.archive_record.proofs.archive.Archive.end_open_newest.Goals as goal

pub returns-in-Some-clause-goes : goal.returns-in-Some-clause-goes
returns-in-Some-clause-goes g c =
    let files = c.args.self.now.rotation.files in
    let newest = c.in-Some.newest in
    let now : Newest _ = record newest { recorder = c.end_open.new.recorder } in
    from_same g.F.Folder.names g.F.Folder.moment g.F.Folder.left_since g.F.Folder.is_honest g.D.Disk files files c.args.self.now.newest (Some newest) (Some now) c.in-Some.is
    (goes_by_done g.F.Folder.names g.F.Folder.moment g.F.Folder.left_since g.F.Folder.is_honest g.F.Folder.file g.D.Disk c.files_lead_on.ensures files newest now refl c.records_are_steps.ensures.steps (c.end_open.ensures.does []))

pub returns-in-None-clause-goes : goal.returns-in-None-clause-goes
returns-in-None-clause-goes g c = goes_none g.F.Folder.names g.F.Folder.moment g.F.Folder.left_since g.F.Folder.is_honest g.F.Folder.file g.D.Disk c.files_lead_on.ensures c.args.self.now.rotation.files c.args.self.now.newest
