use Rattle.std.proofs.Common.{[], refl}
use Rattle.archive_record.proofs.Reaching.{asked_back, if_some, in_its_world, its_disk, looked_last, opened_last}
use Rattle.archive_record.proofs.filing.open_last.Goals as goal

pub returns-then-not-is_free-clause-unopened : goal.returns-then-not-is_free-clause-unopened
returns-then-not-is_free-clause-unopened g c = λ honest a newest disks at hand.
    let f = g.F.Folder in
    asked_back f.names f.moment f.left_since f.file g.D.Disk c.files_lead_on.ensures c.args.files.now c.args.files.now a newest disks at hand refl (λ m other is. is)
    (c.files_lead_on.ensures.nothing a c.args.files.now.folder disks)

pub returns-in-Ok-None-clause-unopened : goal.returns-in-Ok-None-clause-unopened
returns-in-Ok-None-clause-unopened g c = λ honest a newest disks at hand.
    let f = g.F.Folder in
    let asked = c.open_newest.ensures in
    asked_back f.names f.moment f.left_since f.file g.D.Disk c.files_lead_on.ensures c.args.files.now c.open_newest.new.self a newest disks at hand asked.files (asked.places honest)
    (asked.leads honest a disks at.stands.names_are)

pub returns-in-Ok-clause-leads : goal.returns-in-Ok-clause-leads
returns-in-Ok-clause-leads g c = λ honest a newest disks at hand.
    let d = g.D.Disk in
    let f = g.F.Folder in
    let law = c.files_lead_on.ensures in
    let asked = c.open_newest.ensures in
    let some = c.in-Ok-Some.ensures in
    let name = c.in-Ok-Some.name in
    let disk = c.in-Ok-Some.disk in
    let old = c.args.files.now in
    let mid = c.open_newest.new.self in
    let was = if_some _ _ (name, disk) c.in-Ok-Some.field-0-is some.opened honest in
    let is_out = if_some _ _ (name, disk) c.in-Ok-Some.field-0-is some.out in
    let (front, listed) = if_some _ _ (name, disk) c.in-Ok-Some.field-0-is some.newest in
    let leads = asked.leads honest a disks at.stands.names_are in
    let named = asked.names honest in
    let there = its_disk f.names f.moment f.left_since f.file d law old mid a newest disks at hand name front disk asked.files listed named was leads in
    let stands = in_its_world f.names f.moment f.left_since f.file d law old mid a newest disks at hand name front disk asked.files listed named was leads in
    let (found, step, is_in) = c.in-Ok.ensures.step [] newest.world stands hand.closed there.1 in
    opened_last f.names f.moment f.left_since f.file d law old mid a newest disks at hand name front disk asked.files listed named was leads found c.in-Ok.recorder step is_in is_out

pub returns-in-Err-clause-unopened : goal.returns-in-Err-clause-unopened
returns-in-Err-clause-unopened g c = λ honest a newest disks at hand.
    let d = g.D.Disk in
    let f = g.F.Folder in
    let law = c.files_lead_on.ensures in
    let asked = c.open_newest.ensures in
    let some = c.in-Ok-Some.ensures in
    let name = c.in-Ok-Some.name in
    let disk = c.in-Ok-Some.disk in
    let old = c.args.files.now in
    let mid = c.open_newest.new.self in
    let was = if_some _ _ (name, disk) c.in-Ok-Some.field-0-is some.opened honest in
    let (front, listed) = if_some _ _ (name, disk) c.in-Ok-Some.field-0-is some.newest in
    let leads = asked.leads honest a disks at.stands.names_are in
    let named = asked.names honest in
    let there = its_disk f.names f.moment f.left_since f.file d law old mid a newest disks at hand name front disk asked.files listed named was leads in
    let mid_honest = asked.honest.0 honest in
    let back = c.give_back.ensures in
    looked_last f.names f.moment f.left_since f.file d law old mid a newest disks at hand name front disk asked.files listed named was leads
    c.give_back.new.self c.in-Err.disk (c.in-Err.ensures.step_err [] newest.world there.1) back.files (back.kept mid_honest) (back.leads mid_honest)
