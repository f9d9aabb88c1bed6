use Rattle.std.proofs.Common.{Option, Some, subst, sym}
use Rattle.archive_record.proofs.Now.{is_writing}
use Rattle.archive_record.specs.Reaching.{GoesBy}
use Rattle.archive_record.specs.declared.newest.Newest.{Newest}
use Rattle.archive_record.proofs.Going.{goes_by, goes_none, one_answered}
use Rattle.archive_record.proofs.archive.Archive.flush_newest.Goals as goal

pub returns-in-Some-clause-flushes : goal.returns-in-Some-clause-flushes
returns-in-Some-clause-flushes g c before now =
    let (after, answered, reached) = c.run_flush.ensures.answers before (is_writing before c.args.self.now.newest c.in-Some.newest c.in-Some.is now) in
    record { reply = c.run_flush.result; after = after; reached = reached; answered = answered }

pub returns-in-Some-clause-goes : goal.returns-in-Some-clause-goes
returns-in-Some-clause-goes g c =
    let f = g.F.Folder in
    let files = c.args.self.now.rotation.files in
    subst (λ (was : Option (Newest _)). GoesBy f.names f.moment f.left_since f.is_honest g.D.Disk files was files (Some c.run_flush.new.self)) (sym c.in-Some.is)
    (goes_by g.F.Folder.names g.F.Folder.moment g.F.Folder.left_since g.F.Folder.is_honest g.F.Folder.file g.D.Disk c.files_lead_on.ensures files c.in-Some.newest (Some c.run_flush.new.self) c.records_are_steps.ensures.steps
    (λ before now.
    let (after, answered, reached) = c.run_flush.ensures.answers before now in
    (after, reached, one_answered g.D.Disk before _ c.run_flush.result _ after answered)))

pub returns-in_default-clause-goes : goal.returns-in_default-clause-goes
returns-in_default-clause-goes g c = goes_none g.F.Folder.names g.F.Folder.moment g.F.Folder.left_since g.F.Folder.is_honest g.F.Folder.file g.D.Disk c.files_lead_on.ensures c.args.self.now.rotation.files c.args.self.now.newest
