use Rattle.std.proofs.Common.{None, Some, subst}
use Rattle.import_record.specs.Running.{HasRun}
use Rattle.archive_record.specs.Writing.{AnswersIn}
use Rattle.archive_record.proofs.Now.{is_writing}
use Rattle.archive_record.proofs.Going.{commands_answered, from_same, goes_by, goes_none, one_then_flushed, part_answered}
use Rattle.archive_record.proofs.archive.Archive.begin_again.Goals as goal

pub returns-in-Ok-clause-runs : goal.returns-in-Ok-clause-runs
returns-in-Ok-clause-runs g c before now =
    let (begun, reached, ran) = c.in-Ok.ensures.ok before (is_writing before c.args.self.now.newest c.in-Some.newest c.in-Some.is now) in
    let (after, answered, at_last) = c.run_flush.ensures.answers begun reached in
    record {
      begun = begun;
      ran = subst (λ commands. HasRun (AnswersIn g.D.Disk) commands c.in-Ok.answered before begun None None) c.as_slice.ensures.value ran;
      flushed = record { reply = c.run_flush.result; after = after; reached = at_last; answered = answered };
    }

pub returns-in-Ok-clause-goes : goal.returns-in-Ok-clause-goes
returns-in-Ok-clause-goes g c =
    let files = c.args.self.now.rotation.files in
    from_same g.F.Folder.names g.F.Folder.moment g.F.Folder.left_since g.F.Folder.is_honest g.D.Disk files files c.args.self.now.newest (Some c.in-Some.newest) (Some c.run_flush.new.self) c.in-Some.is
    (goes_by g.F.Folder.names g.F.Folder.moment g.F.Folder.left_since g.F.Folder.is_honest g.F.Folder.file g.D.Disk c.files_lead_on.ensures files c.in-Some.newest (Some c.run_flush.new.self) c.records_are_steps.ensures.steps
    (λ before now.
    let (begun, reached, ran) = c.in-Ok.ensures.ok before now in
    let (after, answered, at_last) = c.run_flush.ensures.answers begun reached in
    (after, at_last, one_then_flushed g.D.Disk before begun after c.run_flush.result (commands_answered g.D.Disk _ _ before begun _ _ ran) answered)))

pub returns-in-Err-clause-goes : goal.returns-in-Err-clause-goes
returns-in-Err-clause-goes g c =
    let files = c.args.self.now.rotation.files in
    from_same g.F.Folder.names g.F.Folder.moment g.F.Folder.left_since g.F.Folder.is_honest g.D.Disk files files c.args.self.now.newest (Some c.in-Some.newest) (Some c.run_flush.new.self) c.in-Some.is
    (goes_by g.F.Folder.names g.F.Folder.moment g.F.Folder.left_since g.F.Folder.is_honest g.F.Folder.file g.D.Disk c.files_lead_on.ensures files c.in-Some.newest (Some c.run_flush.new.self) c.records_are_steps.ensures.steps
    (λ before now.
    let (begun, reached, ran) = c.in-Err.ensures.err before now in
    let (after, answered, at_last) = c.run_flush.ensures.answers begun reached in
    (after, at_last, one_then_flushed g.D.Disk before begun after c.run_flush.result (part_answered g.D.Disk _ before begun _ _ ran) answered)))

pub returns-in_default-clause-goes : goal.returns-in_default-clause-goes
returns-in_default-clause-goes g c = goes_none g.F.Folder.names g.F.Folder.moment g.F.Folder.left_since g.F.Folder.is_honest g.F.Folder.file g.D.Disk c.files_lead_on.ensures c.args.self.now.rotation.files c.args.self.now.newest
