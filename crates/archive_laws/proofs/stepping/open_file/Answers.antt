use Rattle.archive_laws.specs.Committing.{AreWhole}
use Rattle.file_recorder.specs.Recovery.{Links}
use Rattle.archive_laws.proofs.Calls.{failed_opening, opening_finds, opening_leaves, stands_opened}
use Rattle.archive_laws.proofs.stepping.open_file.Goals as goal

pub returns-in-Ok-clause-step : goal.returns-in-Ok-clause-step
returns-in-Ok-clause-step g c = λ first w stands shut honest.
    let d = g.D.Disk in
    let told = c.in-Ok.ensures in
    let recorder = c.in-Ok.recorder in
    let disk = c.args.disk in
    let always = c.end-end.ensures.always in
    let held = told.holds honest in
    let links : Links = held.links in
    let whole : AreWhole _ links = record { recording = held.recording; are_links = held.are_links; holds = held.holds } in
    let now = told.opens.frame.honest.0 honest in
    let leaves = told.opens.any_moment honest in
    let finds = opening_finds d first w disk recorder.file.disk _ links whole (g.met.D.Disk.laws recorder.file.disk now) stands leaves (always.images told.fresh.0 now) in
    let found = c.disks_stand_in_their_world.ensures.opened first w disk recorder.file.disk links stands (opening_leaves d first w disk recorder.file.disk leaves) finds in
    (found.0, (shut, found.2, now), stands_opened d first w disk recorder.file.disk recorder found.0 links whole found.1 told.fresh.0 told.fresh.1)

pub returns-in-Err-clause-step_err : goal.returns-in-Err-clause-step_err
returns-in-Err-clause-step_err g c = λ first w shut honest.
    let told = c.in-Err.ensures in
    failed_opening g.D.Disk first w c.args.disk c.in-Err.fault.1 shut (told.gives_back.frame.honest.0 honest) (told.gives_back.any_moment honest)
