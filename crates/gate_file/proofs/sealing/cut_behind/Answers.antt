use Rattle.std.proofs.Common.{take}
use Rattle.disk_model.specs.Leaving.{started, goes_on}
use Rattle.disk_model.specs.Torn.{image_within}
use Rattle.gate_file.specs.Commit.{CommitsTo}
use Rattle.gate_file.proofs.Crash.{front_kept}
use Rattle.gate_file.proofs.Seal.{cut_commits, stood}
use Rattle.gate_file.proofs.sealing.cut_behind.Goals as goal

pub returns-in_err-cut-clause-any_moment : goal.returns-in_err-cut-clause-any_moment
returns-in_err-cut-clause-any_moment g c = λ honest.
    let d = g.D.Disk in
    let old = c.args.disk.now in
    let b = take c.args.end (d.state old).contents in
    let stands = (c.requires honest).stands in
    let at_start = started d old (CommitsTo b) (λ image since. stood b _ image stands ((g.met.D.Disk.laws old honest).only_now image since)) in
    goes_on d old old c.cut.new.self _ (CommitsTo b) at_start (c.cut.ensures.time honest) (λ image is. cut_commits b _ image _ stands ((c.requires honest).long) is)

pub returns-clause-any_moment : goal.returns-clause-any_moment
returns-clause-any_moment g c = λ honest.
    let d = g.D.Disk in
    let old = c.args.disk.now in
    let b = take c.args.end (d.state old).contents in
    let stands = (c.requires honest).stands in
    let at_start = started d old (CommitsTo b) (λ image since. stood b _ image stands ((g.met.D.Disk.laws old honest).only_now image since)) in
    let cut = goes_on d old old c.cut.new.self _ (CommitsTo b) at_start (c.cut.ensures.time honest) (λ image is. cut_commits b _ image _ stands ((c.requires honest).long) is) in
    goes_on d old c.cut.new.self c.sync.new.self _ (CommitsTo b) cut (c.sync.ensures.time (c.cut.ensures.honest.0 honest))
    (λ image is. cut_commits b _ image _ stands ((c.requires honest).long) (image_within _ _ image (c.cut.ensures.images honest) is))

pub returns-in_err-cut-clause-front : goal.returns-in_err-cut-clause-front
returns-in_err-cut-clause-front g c = λ honest.
    let still = c.cut.ensures.honest.0 honest in
    front_kept g.D.Disk _ _ _ _ (g.met.D.Disk.laws _ still) (c.requires honest).long (returns-in_err-cut-clause-any_moment g c honest)

pub returns-clause-front : goal.returns-clause-front
returns-clause-front g c = λ honest.
    let still = c.sync.ensures.honest.0 (c.cut.ensures.honest.0 honest) in
    front_kept g.D.Disk _ _ _ _ (g.met.D.Disk.laws _ still) (c.requires honest).long (returns-clause-any_moment g c honest)
