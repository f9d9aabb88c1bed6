use Rattle.std.proofs.Common.{Some, refl}
use Rattle.archive_record.proofs.Now.{is_writing}
use Rattle.archive_record.proofs.Going.{commands_answered, from_same, goes_by, goes_none, goes_then, stop_answered}
use Rattle.archive_record.proofs.archive.Archive.finish.Goals as goal

pub returns-in-Ok-clause-ends : goal.returns-in-Ok-clause-ends
returns-in-Ok-clause-ends g c before now =
    let (ended, reached, ends) = c.in-Ok.ensures.ends before (is_writing before c.args.self.now.newest c.in-Some.newest c.in-Some.is now) in
    record { ended = ended; ends = ends; flushed = c.flush.ensures.flushes ended reached }

pub returns-in-Err-clause-stops : goal.returns-in-Err-clause-stops
returns-in-Err-clause-stops g c before now =
    let (after, reached, stops) = c.in-Err.ensures.stops before (is_writing before c.args.self.now.newest c.in-Some.newest c.in-Some.is now) in
    record { cause = c.in-Err.fault; is = refl; after = after; reached = reached; stops = stops }

pub returns-in-Ok-clause-goes : goal.returns-in-Ok-clause-goes
returns-in-Ok-clause-goes g c =
    let files = c.args.self.now.rotation.files in
    goes_then g.F.Folder.names g.F.Folder.moment g.F.Folder.left_since g.F.Folder.is_honest g.F.Folder.file g.D.Disk c.files_lead_on.ensures files files c.flush.new.self.rotation.files c.args.self.now.newest (Some c.finish.new.runner) c.flush.new.self.newest
    (from_same g.F.Folder.names g.F.Folder.moment g.F.Folder.left_since g.F.Folder.is_honest g.D.Disk files files c.args.self.now.newest (Some c.in-Some.newest) (Some c.finish.new.runner) c.in-Some.is
    (goes_by g.F.Folder.names g.F.Folder.moment g.F.Folder.left_since g.F.Folder.is_honest g.F.Folder.file g.D.Disk c.files_lead_on.ensures files c.in-Some.newest (Some c.finish.new.runner) c.records_are_steps.ensures.steps
    (λ before now.
    let (ended, reached, ends) = c.in-Ok.ensures.ends before now in
    (ended, reached, commands_answered g.D.Disk _ _ before ended _ _ ends.ran))))
    c.flush.ensures.goes

pub returns-in-Err-clause-goes : goal.returns-in-Err-clause-goes
returns-in-Err-clause-goes g c =
    let files = c.args.self.now.rotation.files in
    from_same g.F.Folder.names g.F.Folder.moment g.F.Folder.left_since g.F.Folder.is_honest g.D.Disk files files c.args.self.now.newest (Some c.in-Some.newest) (Some c.finish.new.runner) c.in-Some.is
    (goes_by g.F.Folder.names g.F.Folder.moment g.F.Folder.left_since g.F.Folder.is_honest g.F.Folder.file g.D.Disk c.files_lead_on.ensures files c.in-Some.newest (Some c.finish.new.runner) c.records_are_steps.ensures.steps
    (λ before now.
    let (after, reached, stops) = c.in-Err.ensures.stops before now in
    (after, reached, stop_answered g.D.Disk c.in-Err.fault before after _ _ stops)))

pub returns-in_default-clause-goes : goal.returns-in_default-clause-goes
returns-in_default-clause-goes g c = goes_none g.F.Folder.names g.F.Folder.moment g.F.Folder.left_since g.F.Folder.is_honest g.F.Folder.file g.D.Disk c.files_lead_on.ensures c.args.self.now.rotation.files c.args.self.now.newest
