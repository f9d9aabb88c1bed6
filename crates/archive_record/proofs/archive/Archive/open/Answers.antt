use Rattle.std.proofs.Common.{◌∙◌, None, Some, Ok, ap, subst, sym}
use Rattle.archive_record.specs.declared.archive.Archive.{Archive}
use Rattle.archive_record.proofs.Going.{begun_none, begun_some, goes_thrown, started_then}
use Rattle.archive_record.specs.Reaching.{ComesWritten}
use Rattle.archive_record.specs.declared.newest.Newest.{Newest}
use Rattle.archive_record.proofs.Reaching.{if_some}
use Rattle.archive_record.proofs.archive.Archive.open.Goals.{in-Some, in-None}
use Rattle.archive_record.proofs.archive.Archive.open.Goals as goal

pub returns-clause-goes : goal.returns-clause-goes
returns-clause-goes g c = λ honest a disks stands may.
    let f = g.F.Folder in
    let law = c.files_lead_on.ensures in
    let files = c.in_ok-rotation.rotation.files in
    let opened = c.open_newest.new.self.files in
    let then = c.in_ok-rotation.ensures.honest.0 honest in
    let later = c.open_newest.ensures.honest.0 then in
    let (b, waiting, at, leads) = c.in_ok-rotation.ensures.leads honest a disks stands may in
    let newest = c.match-branch-3.newest in
    let same = c.opened.ensures.files in
    let thrown = goes_thrown g.F.Folder.names g.F.Folder.moment g.F.Folder.left_since g.F.Folder.is_honest g.F.Folder.file g.D.Disk c.files_lead_on.ensures c.opened.new.self.rotation.files c.throw_away.new.self.files c.opened.new.self.newest c.throw_away.ensures.honest.0 c.throw_away.ensures.left c.throw_away.ensures.out
    c.throw_away.ensures.leads in
    elim c.match-branch-3.branch [
      | in-Some w ↦ started_then g.F.Folder.names g.F.Folder.moment g.F.Folder.left_since g.F.Folder.is_honest g.F.Folder.file g.D.Disk c.files_lead_on.ensures a c.args.folder files opened c.opened.new.self.rotation.files c.throw_away.new.self.files disks b (Some w.on.result) c.opened.new.self.newest leads later same
          (ap (λ (x : Archive _ _). x.newest) c.opened.ensures.rest ∙ w.newest-is)
          (begun_some g.F.Folder.names g.F.Folder.moment g.F.Folder.left_since g.F.Folder.is_honest g.F.Folder.file g.D.Disk c.files_lead_on.ensures files opened b disks at waiting w.on.result (w.in-Some.name, w.in-Some.recorder) c.open_newest.result (c.in_ok-name.was ∙ ap Ok w.in-Some.is) c.open_newest.ensures.empty
          (λ x last on there rests. subst (λ (one : Newest _). ComesWritten f.names f.moment f.left_since g.D.Disk files x on one.name.number one.recorder opened) (sym w.on.ensures)
          (if_some _ _ (w.in-Some.name, w.in-Some.recorder) w.in-Some.is c.in_ok-name.ensures.leads then x last on there rests))) thrown
      | in-None w ↦ started_then g.F.Folder.names g.F.Folder.moment g.F.Folder.left_since g.F.Folder.is_honest g.F.Folder.file g.D.Disk c.files_lead_on.ensures a c.args.folder files opened c.opened.new.self.rotation.files c.throw_away.new.self.files disks b None c.opened.new.self.newest leads later same
          (ap (λ (x : Archive _ _). x.newest) c.opened.ensures.rest ∙ w.newest-is)
          (begun_none g.F.Folder.names g.F.Folder.moment g.F.Folder.left_since g.F.Folder.is_honest g.F.Folder.file g.D.Disk c.files_lead_on.ensures files opened b disks at waiting c.open_newest.result (c.in_ok-name.was ∙ ap Ok w.in-None.is) c.open_newest.ensures.empty (λ is. c.open_newest.ensures.unopened is then)) thrown
    ]
