use Rattle.archive_record.proofs.Reaching.{aside, stays_here}
use Rattle.archive_record.proofs.rotation.Rotation.end.Goals as goal

pub returns-then-not-is_out-clause-leads : goal.returns-then-not-is_out-clause-leads
returns-then-not-is_out-clause-leads g c = λ honest a file disks at written.
    let f = g.F.Folder in
    let law = c.files_lead_on.ensures in
    let old = c.args.self.now.files in
    aside f.names f.moment f.left_since f.file g.D.Disk law old old a a file disks disks written.newest (stays_here f.names f.moment f.left_since f.file g.D.Disk law old a disks at)
