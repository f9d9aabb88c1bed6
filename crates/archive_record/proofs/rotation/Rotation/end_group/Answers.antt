use Rattle.std.proofs.Common.{◌≡◌, false, true, subst, sym}
use Rattle.archive_record.specs.FilesState.{FilesState}
use Rattle.archive_record.specs.Reaching.{ComesFree}
use Rattle.archive_record.proofs.Reaching.{faulted_written, free_reached}
use Rattle.archive_record.proofs.rotation.Rotation.end_group.Goals as goal

pub returns-clause-leads : goal.returns-clause-leads
returns-clause-leads g c = λ honest a file disks at written.
    let f = g.F.Folder in
    let old = c.args.self.now.files in
    let (bytes, disk, kept, still, reaches) = c.in-Ok.ensures.ends honest a file disks at.stands.names_are written in
    subst (λ (files : FilesState _). ComesFree f.names f.moment f.left_since g.D.Disk old a disks files) (sym c.tell_time.ensures.files)
    (free_reached f.names f.moment f.left_since f.file g.D.Disk c.files_lead_on.ensures old c.end_group.new.files a file.name _ disks _ at reaches)

pub returns-then-not-is_out-clause-unended : goal.returns-then-not-is_out-clause-unended
returns-then-not-is_out-clause-unended g c = λ a file disks at written out. absurd (never (c.if-not-is_out.ensures.1 out))
  where
    never : false ≡ true → ⊥
    never same = cc

pub returns-in-Err-clause-unended : goal.returns-in-Err-clause-unended
returns-in-Err-clause-unended g c = λ a file disks at written out.
    let f = g.F.Folder in
    let old = c.args.self.now.files in
    let (b, now, after, same, is, reaches) = c.in-Err.ensures.unended a file disks at.stands.names_are written in
    faulted_written f.names f.moment f.left_since f.file g.D.Disk c.files_lead_on.ensures old c.end_group.new.files a b file now c.args.name.number c.in-Err.recorder disks after at written.newest out
    c.in-Err.ensures.same same is reaches
