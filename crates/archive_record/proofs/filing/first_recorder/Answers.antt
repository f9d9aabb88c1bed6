use Rattle.std.proofs.Common.{[], ap, refl, subst, sym, ◌∙◌}
use Rattle.file_recorder.specs.Recorder.{IsIn, IsRecorderStep, RecorderState}
use Rattle.history.specs.World.{Opened, World, start}
use Rattle.ogg_command.specs.declared.command.Command.{Command}
use Rattle.archive_record.specs.Filing.{unwritten}
use Rattle.archive_record.proofs.Begun.{opened_unwritten, stands_empty}
use Rattle.archive_record.proofs.Reaching.{opened_new, unopened_new}
use Rattle.archive_record.proofs.filing.first_recorder.Goals as goal

pub returns-in-Ok-clause-unwritten : goal.returns-in-Ok-clause-unwritten
returns-in-Ok-clause-unwritten g c =
    let d = g.D.Disk in
    let was = c.in-Ok.recorder in
    record {
      end = ap (λ (r : RecorderState _). r.file.end) c.group.ensures.set ∙ c.in-Ok.ensures.fresh.1;
      stands = λ honest.
          let before = c.in-Ok.ensures.frame.honest.1 (subst d.is_honest (ap (λ (r : RecorderState _). r.file.disk) c.group.ensures.set) honest) in
          let (found, step, stands) = c.in-Ok.ensures.step [] start (stands_empty (d.state c.args.disk) c.files_lead_on.ensures.empty (c.requires.fresh before)) refl before in
          c.group.ensures.stands [] unwritten (subst (λ (w : World Command). IsIn d [] w was) (opened_unwritten found) stands);
    }

pub returns-in-Ok-clause-leads : goal.returns-in-Ok-clause-leads
returns-in-Ok-clause-leads g c = λ a file disks named begun.
    let d = g.D.Disk in
    let f = g.F.Folder in
    let law = c.files_lead_on.ensures in
    let was = c.in-Ok.recorder in
    let (found, step, stands) = c.in-Ok.ensures.step [] start (stands_empty (d.state c.args.disk) c.files_lead_on.ensures.empty (c.requires.fresh begun.honest)) refl begun.honest in
    let grouped = ap (λ (r : RecorderState _). r.file.disk) c.group.ensures.set in
    opened_new f.names f.moment f.left_since f.file d law c.args.files.now.folder a file c.args.name.number c.args.disk disks named begun found c.group.new.self (opened_unwritten found)
    (subst (λ (now : _). IsRecorderStep d [] start (Opened found) c.args.disk now) (sym grouped) step)
    (c.group.ensures.stands [] unwritten (subst (λ (w : World Command). IsIn d [] w was) (opened_unwritten found) stands))

pub returns-in-Err-clause-unopened : goal.returns-in-Err-clause-unopened
returns-in-Err-clause-unopened g c = λ honest a file disks named begun.
    let d = g.D.Disk in
    let f = g.F.Folder in
    let law = c.files_lead_on.ensures in
    let back = c.give_back.ensures in
    let now = c.in-Err.disk in
    let step = c.in-Err.ensures.step_err [] start refl begun.honest in (
      now,
      back.kept honest,
      step.2,
      unopened_new f.names f.moment f.left_since f.file d law c.args.files.now.folder a file c.args.name.number c.args.disk disks named begun c.give_back.new.self.folder now step
          (back.names honest) (back.leads honest),
    )
