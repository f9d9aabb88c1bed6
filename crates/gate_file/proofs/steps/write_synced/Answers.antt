use Rattle.std.proofs.Common.{length}
use Rattle.disk_model.specs.Leaving.{started, goes_on}
use Rattle.disk_model.specs.Torn.{IsTorn, image_within, settled_image, torn_image, torn_same}
use Rattle.gate_file.proofs.steps.write_synced.Goals as goal

pub returns-in_err-write_at-clause-any_moment : goal.returns-in_err-write_at-clause-any_moment
returns-in_err-write_at-clause-any_moment g c = λ honest.
    let d = g.D.Disk in
    let old = c.args.disk.now in
    let contents = (d.state old).contents in
    let P = IsTorn c.args.at (length c.args.bytes.now) contents in
    let settled = c.requires.settled honest in
    let at_start = started d old P (λ image since. torn_same _ _ _ _ (settled_image _ _ image settled ((g.met.D.Disk.laws old honest).only_now image since))) in
    let written = goes_on d old old c.write_at.new.self _ P at_start (c.write_at.ensures.time honest) (λ image is. torn_image _ contents image _ _ settled is) in
    written

pub returns-clause-any_moment : goal.returns-clause-any_moment
returns-clause-any_moment g c = λ honest.
    let d = g.D.Disk in
    let old = c.args.disk.now in
    let contents = (d.state old).contents in
    let P = IsTorn c.args.at (length c.args.bytes.now) contents in
    let settled = c.requires.settled honest in
    let at_start = started d old P (λ image since. torn_same _ _ _ _ (settled_image _ _ image settled ((g.met.D.Disk.laws old honest).only_now image since))) in
    let written = goes_on d old old c.write_at.new.self _ P at_start (c.write_at.ensures.time honest) (λ image is. torn_image _ contents image _ _ settled is) in
    goes_on d old c.write_at.new.self c.sync.new.self _ P written (c.sync.ensures.time (c.write_at.ensures.honest.0 honest))
    (λ image is. torn_image _ contents image _ _ settled (image_within _ _ image (c.write_at.ensures.images honest) is))
