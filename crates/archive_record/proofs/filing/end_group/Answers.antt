use Rattle.std.proofs.Common.{[], refl}
use Rattle.history.specs.World.{Faulted, Flushing}
use Rattle.archive_record.proofs.Reaching.{faulted_on, let_flushed}
use Rattle.archive_record.proofs.filing.end_group.Goals as goal

pub returns-in-Ok-clause-ends : goal.returns-in-Ok-clause-ends
returns-in-Ok-clause-ends g c = λ honest a file disks named written.
    let d = g.D.Disk in
    let f = g.F.Folder in
    let law = c.files_lead_on.ensures in
    let back = c.give_back.ensures in
    let disk = c.in-Ok.disk in
    let steps = c.in-Ok.ensures.step [] file.world written.stands written.honest in
    let now = c.in-Ok.ensures.frame.honest.0 written.honest in
    let sealed = c.in-Ok.ensures.sealed written.honest in
    let only = c.files_lead_on.ensures.only (d.state disk) sealed.0 (g.met.D.Disk.laws disk now).contents_is_image in
    let bytes = (d.state disk).contents in (
      bytes,
      disk,
      back.kept honest,
      now,
      let_flushed f.names f.moment f.left_since f.file d law c.args.files.now.folder c.give_back.new.self.folder a file c.args.name.number c.args.recorder disks named written disk
          (back.names honest) (back.leads honest) bytes steps.0 steps.1 only,
    )

pub returns-then-is_failed-clause-unended : goal.returns-then-is_failed-clause-unended
returns-then-is_failed-clause-unended g c = λ a file disks named written.
    (a, file, disks, refl, written, (named, c.files_lead_on.ensures.nothing a c.args.files.now.folder disks))

pub returns-in-Err-clause-unended : goal.returns-in-Err-clause-unended
returns-in-Err-clause-unended g c = λ a file disks named written.
    let f = g.F.Folder in
    let (step, is_in) = c.in-Err.ensures.step_err [] file.world written.stands written.honest in
    let (b, now, after, same, is, reaches) = faulted_on f.names f.moment f.left_since f.file g.D.Disk c.files_lead_on.ensures c.args.files.now.folder a file c.args.name.number c.args.recorder disks named written
    (Faulted Flushing) tt c.in-Err.recorder step is_in in
    (b, now, after, same, is, reaches)
