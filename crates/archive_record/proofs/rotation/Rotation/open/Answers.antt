use Rattle.std.proofs.Common.{◌∙◌, ap, subst, sym}
use Rattle.archive_folder.specs.Names.{listed, numbers_of}
use Rattle.archive_history.specs.Starting.{AllStay}
use Rattle.archive_record.proofs.Reaching.{all_stay, started}
use Rattle.archive_record.proofs.rotation.Rotation.open.Goals as goal

pub returns-clause-leads : goal.returns-clause-leads
returns-clause-leads g c = λ honest a disks stands may.
    let f = g.F.Folder in
    let law = c.files_lead_on.ensures in
    let files = c.in-Ok.files in
    let new = c.look_at_all.new.self.files in
    let (b, resolves, named, leads) = c.in-Ok.ensures.leads honest a disks stands.names_are in
    let mid = c.in-Ok.ensures.honest.0 honest in
    let stay = subst AllStay (sym (sym named ∙ c.in-Ok.ensures.names honest)) (all_stay (f.names c.args.folder)) in
    let looked = c.look_at_all.ensures.leads mid b disks named in
    started f.names f.moment f.left_since f.file g.D.Disk law c.args.folder new a b disks may stands resolves stay looked.0
    (ap numbers_of c.look_at_all.ensures.files ∙ c.in-Ok.ensures.listed honest ∙ ap listed named)
    (c.look_at_all.ensures.places mid ∙ c.in-Ok.ensures.files honest)
    (law.both a b b c.args.folder files.folder new.folder disks disks disks leads looked.1)
