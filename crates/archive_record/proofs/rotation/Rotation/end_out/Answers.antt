use Rattle.archive_record.proofs.Reaching.{back_then_free, let_go_back, let_go_free}
use Rattle.archive_record.proofs.rotation.Rotation.end_out.Goals as goal

pub returns-then-end_file-clause-leads : goal.returns-then-end_file-clause-leads
returns-then-end_file-clause-leads g c = λ honest a file disks at written.
    let f = g.F.Folder in
    let_go_free f.names f.moment f.left_since f.file g.D.Disk c.files_lead_on.ensures c.args.self.now.files c.end_file-2.new.files a file c.args.name.number disks c.end_file-2.result at
    (c.end_file-2.ensures.leads honest a file disks at.stands.names_are written)

pub returns-clause-leads : goal.returns-clause-leads
returns-clause-leads g c = λ honest a file disks at written.
    let f = g.F.Folder in
    let d = g.D.Disk in
    let law = c.files_lead_on.ensures in
    let old = c.args.self.now.files in
    let mid = c.end_file-2.new.files in
    back_then_free f.names f.moment f.left_since f.file d law old mid c.end_again.new.self.files a disks c.args.name.number
    (let_go_back f.names f.moment f.left_since f.file d law old mid a file c.args.name.number c.args.recorder disks c.end_file-2.result c.if-end_file.false at written c.end_file-2.ensures.files
    (c.end_file-2.ensures.leads honest a file disks at.stands.names_are written))
    (c.end_again.ensures.leads (c.end_file-2.ensures.honest.0 honest))

pub returns-then-is_failed-clause-leads : goal.returns-then-is_failed-clause-leads
returns-then-is_failed-clause-leads g c = λ honest a file disks at written.
    let f = g.F.Folder in
    let_go_free f.names f.moment f.left_since f.file g.D.Disk c.files_lead_on.ensures c.args.self.now.files c.end_file.new.files a file c.args.name.number disks c.end_file.result at
    (c.end_file.ensures.leads honest a file disks at.stands.names_are written)
