use Rattle.std.proofs.Common.{◌≡◌, take}
use Rattle.disk_model.specs.Leaving.{started, goes_on}
use Rattle.disk_model.specs.Torn.{front_image, image_within}
use Rattle.gate_file.proofs.Cutting.{front_image_cut}
use Rattle.gate_file.proofs.steps.cut_synced.Goals as goal

pub returns-in_err-cut-clause-any_moment : goal.returns-in_err-cut-clause-any_moment
returns-in_err-cut-clause-any_moment g c = λ honest.
    let d = g.D.Disk in
    let old = c.args.disk.now in
    let front = take c.args.kept (d.state old).synced in
    let at_start = started d old (λ image. take c.args.kept image ≡ front) (λ image since. front_image _ front _ image (c.requires.keeps honest) ((g.met.D.Disk.laws old honest).only_now image since)) in
    goes_on d old old c.cut.new.self _ (λ image. take c.args.kept image ≡ front) at_start (c.cut.ensures.time honest)
    (λ image is. front_image_cut _ front _ image _ (c.requires.keeps honest) c.requires.behind is)

pub returns-clause-any_moment : goal.returns-clause-any_moment
returns-clause-any_moment g c = λ honest.
    let d = g.D.Disk in
    let old = c.args.disk.now in
    let front = take c.args.kept (d.state old).synced in
    let at_start = started d old (λ image. take c.args.kept image ≡ front) (λ image since. front_image _ front _ image (c.requires.keeps honest) ((g.met.D.Disk.laws old honest).only_now image since)) in
    let cut = goes_on d old old c.cut.new.self _ (λ image. take c.args.kept image ≡ front) at_start (c.cut.ensures.time honest)
    (λ image is. front_image_cut _ front _ image _ (c.requires.keeps honest) c.requires.behind is) in
    goes_on d old c.cut.new.self c.sync.new.self _ (λ image. take c.args.kept image ≡ front) cut (c.sync.ensures.time (c.cut.ensures.honest.0 honest))
    (λ image is. front_image_cut _ front _ image _ (c.requires.keeps honest) c.requires.behind (image_within _ _ image (c.cut.ensures.images honest) is))
