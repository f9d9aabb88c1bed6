use Rattle.std.proofs.Common.{◌≡◌, Option, None, Some, [], refl, ap, subst, sym}
use Rattle.archive_record.specs.Writing.{IsNow}
use Rattle.archive_record.specs.declared.archive.Archive.{Archive}
use Rattle.archive_record.proofs.Now.{is_writing, still_now}
use Rattle.archive_record.specs.FilesState.{FilesState}
use Rattle.archive_record.specs.Reaching.{GoesBy}
use Rattle.archive_record.specs.declared.newest.Newest.{Newest}
use Rattle.archive_record.specs.declared.rotation.Rotation.{Rotation}
use Rattle.archive_record.proofs.Going.{goes_by, goes_none, step_answered, stop_answered}
use Rattle.archive_record.proofs.archive.Archive.step.Goals as goal

pub returns-in-Ok-clause-steps : goal.returns-in-Ok-clause-steps
returns-in-Ok-clause-steps g c before now =
    let (after, reached, steps) = c.in-Ok.ensures.steps before (is_writing before c.args.self.now.newest c.in-Some.newest c.in-Some.is now) in
    record {
      after = after;
      reached = still_now after (Some c.step.new.runner) c.committed.new.self.newest (ap (λ (a : Archive _ _). a.newest) c.committed.ensures.rest) reached;
      stepped = record { output = None; new_output = None; steps = steps; lent_is = refl };
    }

pub returns-in-Err-clause-stops : goal.returns-in-Err-clause-stops
returns-in-Err-clause-stops g c before now =
    let (after, reached, stops) = c.in-Err.ensures.stops before (is_writing before c.args.self.now.newest c.in-Some.newest c.in-Some.is now) in
    record { cause = c.in-Err.fault; is = refl; after = after; reached = reached; stops = stops }

pub returns-in-Ok-clause-goes : goal.returns-in-Ok-clause-goes
returns-in-Ok-clause-goes g c =
    let f = g.F.Folder in
    let files = c.args.self.now.rotation.files in
    let same : c.committed.new.self.rotation.files ≡ files = ap (λ (r : Rotation _ _). r.files) c.committed.ensures.times in
    subst (λ (now : FilesState _). GoesBy f.names f.moment f.left_since f.is_honest g.D.Disk files c.args.self.now.newest now c.committed.new.self.newest) (sym same)
    (subst (λ (was : Option (Newest _)). GoesBy f.names f.moment f.left_since f.is_honest g.D.Disk files was files c.committed.new.self.newest) (sym c.in-Some.is)
    (goes_by g.F.Folder.names g.F.Folder.moment g.F.Folder.left_since g.F.Folder.is_honest g.F.Folder.file g.D.Disk c.files_lead_on.ensures files c.in-Some.newest c.committed.new.self.newest c.records_are_steps.ensures.steps
    (λ before now.
    let stepped = returns-in-Ok-clause-steps g c before (subst (IsNow before) (sym c.in-Some.is) now) in
    (stepped.after, stepped.reached, step_answered g.D.Disk [] c.in-Ok.step _ _ _ before stepped.after stepped.stepped))))

pub returns-in-Err-clause-goes : goal.returns-in-Err-clause-goes
returns-in-Err-clause-goes g c =
    let f = g.F.Folder in
    let files = c.args.self.now.rotation.files in
    subst (λ (was : Option (Newest _)). GoesBy f.names f.moment f.left_since f.is_honest g.D.Disk files was files (Some c.step.new.runner)) (sym c.in-Some.is)
    (goes_by g.F.Folder.names g.F.Folder.moment g.F.Folder.left_since g.F.Folder.is_honest g.F.Folder.file g.D.Disk c.files_lead_on.ensures files c.in-Some.newest (Some c.step.new.runner) c.records_are_steps.ensures.steps
    (λ before now.
    let stopped = returns-in-Err-clause-stops g c before (subst (IsNow before) (sym c.in-Some.is) now) in
    (stopped.after, stopped.reached, stop_answered g.D.Disk stopped.cause before stopped.after _ _ stopped.stops)))

pub returns-in_default-clause-goes : goal.returns-in_default-clause-goes
returns-in_default-clause-goes g c = goes_none g.F.Folder.names g.F.Folder.moment g.F.Folder.left_since g.F.Folder.is_honest g.F.Folder.file g.D.Disk c.files_lead_on.ensures c.args.self.now.rotation.files c.args.self.now.newest
