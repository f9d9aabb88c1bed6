use Rattle.std.proofs.Common.{sym}
use Rattle.archive_record.proofs.Reaching.{given_back}
use Rattle.archive_record.proofs.rotation.Rotation.give_back.Goals as goal

pub returns-clause-leads : goal.returns-clause-leads
returns-clause-leads g c = λ honest a file disks recorder at written same out.
    let f = g.F.Folder in
    let back = c.give_back.ensures in
    given_back f.names f.moment f.left_since f.file g.D.Disk c.files_lead_on.ensures c.args.self.now.files c.give_back.new.files a file c.args.name.number recorder disks c.args.disk at written
    (sym same) back.files (back.kept honest out) (back.leads honest)
