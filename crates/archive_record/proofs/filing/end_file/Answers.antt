use Rattle.std.proofs.Common.{[], refl, sym, subst, ◌∙◌}
use Rattle.archive_history.specs.Archive.{Known, Whole}
use Rattle.history.specs.World.{Faulted, GivenBack, Sealing, closed}
use Rattle.archive_record.proofs.Reaching.{let_aside, let_sealed}
use Rattle.archive_record.proofs.filing.end_file.Goals as goal

pub returns-then-is_failed-clause-leads : goal.returns-then-is_failed-clause-leads
returns-then-is_failed-clause-leads g c = λ honest a file disks named written.
    let d = g.D.Disk in
    let f = g.F.Folder in
    let law = c.files_lead_on.ensures in
    let back = c.give_back-then-is_failed.ensures in
    let disk = c.give_back.result in
    let still = subst d.is_honest (sym c.give_back.ensures) written.honest in (
      Known (closed file.world file.world.in_doubt),
      disk,
      refl,
      back.kept honest,
      still,
      let_aside f.names f.moment f.left_since f.file d law c.args.files.now.folder c.give_back-then-is_failed.new.self.folder a file c.args.name.number c.args.recorder disks named written disk
          (back.names honest) (back.leads honest) GivenBack tt refl (tt, c.give_back.ensures, still),
    )

pub returns-in-Ok-clause-leads : goal.returns-in-Ok-clause-leads
returns-in-Ok-clause-leads g c = λ honest a file disks named written.
    let d = g.D.Disk in
    let f = g.F.Folder in
    let law = c.files_lead_on.ensures in
    let back = c.give_back-in-Ok.ensures in
    let disk = c.in-Ok.disk in
    let now = c.in-Ok.ensures.frame.honest.0 written.honest in
    let sealed = c.in-Ok.ensures.sealed written.honest in
    let only = c.files_lead_on.ensures.only (d.state disk) sealed.0 (g.met.D.Disk.laws disk now).contents_is_image in
    let bytes = (d.state disk).contents in (
      Whole bytes file.world.acknowledged,
      disk,
      (bytes, refl),
      back.kept honest,
      now,
      let_sealed f.names f.moment f.left_since f.file d law c.args.files.now.folder c.give_back-in-Ok.new.self.folder a file c.args.name.number c.args.recorder disks named written disk
          (back.names honest) (back.leads honest) bytes (sym c.is_failed.ensures ∙ c.if-is_failed.false)
          (c.in-Ok.ensures.step [] file.world written.stands written.honest) only,
    )

pub returns-in-Err-clause-leads : goal.returns-in-Err-clause-leads
returns-in-Err-clause-leads g c = λ honest a file disks named written.
    let d = g.D.Disk in
    let f = g.F.Folder in
    let law = c.files_lead_on.ensures in
    let back = c.give_back-in-Err.ensures in
    let disk = c.in-Err.disk in
    let now = c.in-Err.ensures.frame_err.honest.0 written.honest in (
      Known (closed file.world file.world.in_doubt),
      disk,
      refl,
      back.kept honest,
      now,
      let_aside f.names f.moment f.left_since f.file d law c.args.files.now.folder c.give_back-in-Err.new.self.folder a file c.args.name.number c.args.recorder disks named written disk
          (back.names honest) (back.leads honest) (Faulted Sealing) tt refl (c.in-Err.ensures.step_err [] file.world written.stands written.honest),
    )
