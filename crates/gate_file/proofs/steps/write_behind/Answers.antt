use Rattle.std.proofs.Common.{◌≡◌, take}
use Rattle.disk_model.specs.Leaving.{started, goes_on}
use Rattle.disk_model.specs.Torn.{front_image, front_image_written}
use Rattle.gate_file.proofs.steps.write_behind.Goals as goal

pub returns-clause-any_moment : goal.returns-clause-any_moment
returns-clause-any_moment g c = λ honest.
    let d = g.D.Disk in
    let old = c.args.disk.now in
    let front = take c.args.kept (d.state old).synced in
    let at_start = started d old (λ image. take c.args.kept image ≡ front) (λ image since. front_image _ front _ image (c.requires.keeps honest) ((g.met.D.Disk.laws old honest).only_now image since)) in
    goes_on d old old c.write_at.new.self _ (λ image. take c.args.kept image ≡ front) at_start (c.write_at.ensures.time honest)
    (λ image is. front_image_written _ front _ image _ _ (c.requires.keeps honest) c.requires.behind is)
