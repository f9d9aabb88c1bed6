use Rattle.std.proofs.Common.{◌∙◌, refl}
use Rattle.archive_record.proofs.Reaching.{aside, begun_on, comes_then_free, comes_then_written, free_of, on_err}
use Rattle.archive_record.proofs.rotation.Rotation.begin.Goals as goal

pub returns-in_err-name-clause-unbegun : goal.returns-in_err-name-clause-unbegun
returns-in_err-name-clause-unbegun g c = on_err c.from_residual.result _ (λ honest a disks at none.
    let f = g.F.Folder in
    free_of f.names f.moment f.left_since f.file g.D.Disk c.files_lead_on.ensures c.args.self.now.files c.make_file.new.self.files a disks at
    (c.in_err-name.ensures.unmade honest a disks none at.stands.names_are))

pub returns-in_err-look_at_newest-clause-unbegun : goal.returns-in_err-look_at_newest-clause-unbegun
returns-in_err-look_at_newest-clause-unbegun g c = on_err c.from_residual-in_err-look_at_newest.result _ (λ honest a disks at none.
    let f = g.F.Folder in
    let law = c.files_lead_on.ensures in
    let old = c.args.self.now.files in
    let mid = c.make_file.new.self.files in
    let new = c.look_at_newest.new.self.files in
    let (front, is) = c.in_ok-name.ensures.newest in
    let (b, file, after, begun, led) = begun_on f.names f.moment f.left_since f.file g.D.Disk law old mid new a disks c.in_ok-name.name.number c.in_ok-name.disk at (c.in_ok-name.ensures.empty honest)
    (front, c.in_ok-name.name, c.look_at_newest.ensures.files ∙ is, refl) (c.in_ok-name.ensures.leads honest a disks none at.stands.names_are)
    (c.look_at_newest.ensures.leads (c.make_file.ensures.honest.0 honest)) in
    aside f.names f.moment f.left_since f.file g.D.Disk law old new a b file disks after begun.newest led)

pub returns-in_err-recorder-clause-unbegun : goal.returns-in_err-recorder-clause-unbegun
returns-in_err-recorder-clause-unbegun g c = on_err c.from_residual-in_err-recorder.result _ (λ honest a disks at none.
    let f = g.F.Folder in
    let law = c.files_lead_on.ensures in
    let old = c.args.self.now.files in
    let mid = c.make_file.new.self.files in
    let new = c.look_at_newest.new.self.files in
    let (front, is) = c.in_ok-name.ensures.newest in
    let (b, file, after, begun, led) = begun_on f.names f.moment f.left_since f.file g.D.Disk law old mid new a disks c.in_ok-name.name.number c.in_ok-name.disk at (c.in_ok-name.ensures.empty honest)
    (front, c.in_ok-name.name, c.look_at_newest.ensures.files ∙ is, refl) (c.in_ok-name.ensures.leads honest a disks none at.stands.names_are)
    (c.look_at_newest.ensures.leads (c.make_file.ensures.honest.0 honest)) in
    comes_then_free f.names f.moment f.left_since f.file g.D.Disk law old new c.first_recorder.new.self.files a b disks after led
    (c.in_err-recorder.ensures.unopened (c.look_at_newest.ensures.honest.0 (c.make_file.ensures.honest.0 honest)) b file after led.0 begun))

pub returns-clause-leads : goal.returns-clause-leads
returns-clause-leads g c = λ honest a disks at none.
    let f = g.F.Folder in
    let law = c.files_lead_on.ensures in
    let old = c.args.self.now.files in
    let mid = c.make_file.new.self.files in
    let new = c.look_at_newest.new.self.files in
    let (front, is) = c.in_ok-name.ensures.newest in
    let (b, file, after, begun, led) = begun_on f.names f.moment f.left_since f.file g.D.Disk law old mid new a disks c.in_ok-name.name.number c.in_ok-name.disk at (c.in_ok-name.ensures.empty honest)
    (front, c.in_ok-name.name, c.look_at_newest.ensures.files ∙ is, refl) (c.in_ok-name.ensures.leads honest a disks none at.stands.names_are)
    (c.look_at_newest.ensures.leads (c.make_file.ensures.honest.0 honest)) in
    comes_then_written f.names f.moment f.left_since f.file g.D.Disk law old new c.first_recorder.new.self.files a b disks after c.in_ok-name.name.number c.in_ok-recorder.recorder led
    (c.in_ok-recorder.ensures.leads (c.look_at_newest.ensures.honest.0 (c.make_file.ensures.honest.0 honest)) b file after led.0 begun)
