use Rattle.std.proofs.Common.{subst, sym}
use Rattle.archive_record.specs.FilesState.{FilesState}
use Rattle.archive_record.specs.Reaching.{ComesFree}
use Rattle.archive_record.proofs.Going.{written_after}
use Rattle.archive_record.proofs.Reaching.{aside, given_back, let_go_free, stays_here, written_then_back}
use Rattle.archive_record.proofs.filing.open_ended.Goals.{then-is_out, else-is_out}
use Rattle.archive_record.proofs.filing.open_ended.Goals as goal

pub returns-then-name-clause-over : goal.returns-then-name-clause-over
returns-then-name-clause-over g c = λ is honest a last disks at written.
    let f = g.F.Folder in
    let law = c.files_lead_on.ensures in
    let old = c.args.files.now in
    elim c.if-is_out.branch [
      | then-is_out w ↦ subst (λ (files : FilesState _). ComesFree f.names f.moment f.left_since g.D.Disk old a disks files) (sym w.files-is)
          (let_go_free f.names f.moment f.left_since f.file g.D.Disk law old w.end_file.new.files a last c.args.name.number disks w.end_file.result at (w.end_file.ensures.leads honest a last disks at.stands.names_are written))
      | else-is_out w ↦ subst (λ (files : FilesState _). ComesFree f.names f.moment f.left_since g.D.Disk old a disks files) (sym w.files-is)
          (aside f.names f.moment f.left_since f.file g.D.Disk law old old a a last disks disks written.newest (stays_here f.names f.moment f.left_since f.file g.D.Disk law old a disks at))
    ]

pub returns-in-Ok-clause-leads : goal.returns-in-Ok-clause-leads
returns-in-Ok-clause-leads g c = λ honest a last disks at written out.
    let f = g.F.Folder in
    let law = c.files_lead_on.ensures in
    written_after f.names f.moment f.left_since f.is_honest f.file g.D.Disk law c.args.files.now a last c.args.name.number c.args.recorder c.in-Ok.recorder disks at written out (c.in-Ok.ensures.does last.world) c.records_are_steps.ensures.steps

pub returns-in-Err-clause-failed : goal.returns-in-Err-clause-failed
returns-in-Err-clause-failed g c = λ honest a last disks at written out.
    let f = g.F.Folder in
    let law = c.files_lead_on.ensures in
    let old = c.args.files.now in
    let new = c.give_back-in-Err.new.files in
    let n = c.args.name.number in
    let back = c.give_back-in-Err.ensures in
    written_then_back f.names f.moment f.left_since f.file g.D.Disk law old old new a disks n c.in-Err.recorder
    (written_after f.names f.moment f.left_since f.is_honest f.file g.D.Disk law old a last n c.args.recorder c.in-Err.recorder disks at written out (c.in-Err.ensures.does_err last.world) c.records_are_steps.ensures.steps)
    (λ b file after there writes still. given_back f.names f.moment f.left_since f.file g.D.Disk law old new b file n c.in-Err.recorder after _ there writes c.give_back.ensures back.files (back.kept honest still) (back.leads honest))
