use Rattle.std.proofs.Common.{refl}
use Rattle.std.proofs.lemmas.Result.{IfOk-weaker}
use Rattle.archive_record.proofs.Reaching.{aside, back_again, back_free, back_then, back_then_written, faulted_written, on_err_where, stays_back, stays_here}
use Rattle.archive_record.proofs.rotation.Rotation.first_recorder.Goals as goal

pub returns-then-not-is_out-clause-unopened : goal.returns-then-not-is_out-clause-unopened
returns-then-not-is_out-clause-unopened g c = λ honest a file disks at begun.
    let f = g.F.Folder in
    let law = c.files_lead_on.ensures in
    let old = c.args.self.now.files in
    aside f.names f.moment f.left_since f.file g.D.Disk law old old a a file disks disks begun.newest (stays_here f.names f.moment f.left_since f.file g.D.Disk law old a disks at)

pub returns-in-Ok-clause-leads : goal.returns-in-Ok-clause-leads
returns-in-Ok-clause-leads g c = λ honest a file disks at begun.
    let f = g.F.Folder in
    let (written, reaches) = c.in-Ok.ensures.leads a file disks at.stands.names_are begun in
    faulted_written f.names f.moment f.left_since f.file g.D.Disk c.files_lead_on.ensures c.args.self.now.files c.first_recorder.new.files a _ file _ c.args.name.number c.in-Ok.recorder disks _
    at begun.newest (c.is_out.ensures.0 c.if-not-is_out.false) c.in-Ok.ensures.same refl written reaches

pub returns-then-make_room-clause-leads : goal.returns-then-make_room-clause-leads
returns-then-make_room-clause-leads g c =
    IfOk-weaker c.next_recorder.result _ _ (λ recorder leads. λ honest a file disks at begun.
    let f = g.F.Folder in
    let law = c.files_lead_on.ensures in
    let old = c.args.self.now.files in
    let mid = c.first_recorder.new.files in
    let room = c.make_room.new.self.files in
    let mid_honest = c.first_recorder.ensures.honest.0 honest in
    let (now, kept, still, reaches) = c.in-Err.ensures.unopened honest a file disks at.stands.names_are begun in
    let back = back_again f.names f.moment f.left_since f.file g.D.Disk law old mid a file c.args.name.number disks now _ at begun.newest begun.number_is begun.stays refl
    c.first_recorder.ensures.files kept still reaches in
    back_then_written f.names f.moment f.left_since f.file g.D.Disk law old room c.next_recorder.new.self.files a disks c.args.name.number recorder
    (back_then f.names f.moment f.left_since f.file g.D.Disk law old mid room a disks c.args.name.number back
    (λ b one after there rests. stays_back f.names f.moment f.left_since f.file g.D.Disk law mid room b one after there rests
    c.make_room.ensures.left (c.make_room.ensures.places mid_honest) (c.make_room.ensures.leads mid_honest b after there.last there.stands.names_are)))
    (leads (c.make_room.ensures.honest.0 mid_honest)))
    c.next_recorder.ensures.leads

pub returns-then-make_room-clause-unopened : goal.returns-then-make_room-clause-unopened
returns-then-make_room-clause-unopened g c =
    on_err_where c.next_recorder.result _ _ (λ unopened. λ honest a file disks at begun.
    let f = g.F.Folder in
    let law = c.files_lead_on.ensures in
    let old = c.args.self.now.files in
    let mid = c.first_recorder.new.files in
    let room = c.make_room.new.self.files in
    let last = c.next_recorder.new.self.files in
    let mid_honest = c.first_recorder.ensures.honest.0 honest in
    let (now, kept, still, reaches) = c.in-Err.ensures.unopened honest a file disks at.stands.names_are begun in
    let back = back_again f.names f.moment f.left_since f.file g.D.Disk law old mid a file c.args.name.number disks now _ at begun.newest begun.number_is begun.stays refl
    c.first_recorder.ensures.files kept still reaches in
    back_free f.names f.moment f.left_since f.file g.D.Disk law old last a disks c.args.name.number
    (back_then f.names f.moment f.left_since f.file g.D.Disk law old room last a disks c.args.name.number
    (back_then f.names f.moment f.left_since f.file g.D.Disk law old mid room a disks c.args.name.number back
    (λ b one after there rests. stays_back f.names f.moment f.left_since f.file g.D.Disk law mid room b one after there rests
    c.make_room.ensures.left (c.make_room.ensures.places mid_honest) (c.make_room.ensures.leads mid_honest b after there.last there.stands.names_are)))
    (unopened (c.make_room.ensures.honest.0 mid_honest))))
    c.next_recorder.ensures.unopened

pub returns-else-make_room-clause-unopened : goal.returns-else-make_room-clause-unopened
returns-else-make_room-clause-unopened g c = λ honest a file disks at begun.
    let f = g.F.Folder in
    let law = c.files_lead_on.ensures in
    let old = c.args.self.now.files in
    let mid = c.first_recorder.new.files in
    let room = c.make_room.new.self.files in
    let mid_honest = c.first_recorder.ensures.honest.0 honest in
    let (now, kept, still, reaches) = c.in-Err.ensures.unopened honest a file disks at.stands.names_are begun in
    let back = back_again f.names f.moment f.left_since f.file g.D.Disk law old mid a file c.args.name.number disks now _ at begun.newest begun.number_is begun.stays refl
    c.first_recorder.ensures.files kept still reaches in
    back_free f.names f.moment f.left_since f.file g.D.Disk law old room a disks c.args.name.number
    (back_then f.names f.moment f.left_since f.file g.D.Disk law old mid room a disks c.args.name.number back
    (λ b one after there rests. stays_back f.names f.moment f.left_since f.file g.D.Disk law mid room b one after there rests
    c.make_room.ensures.left (c.make_room.ensures.places mid_honest) (c.make_room.ensures.leads mid_honest b after there.last there.stands.names_are)))
