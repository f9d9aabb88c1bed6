use Rattle.std.proofs.Common.{◌+◌, take, arith}
use Rattle.std.proofs.lemmas.Result.{on_ok_weaker}
use Rattle.disk_model.specs.Leaving.{weakened, and_then}
use Rattle.gate_file.specs.Commit.{CommitsToEither}
use Rattle.gate_file.specs.Gate.{staged_in}
use Rattle.gate_file.proofs.Crash.{front_stays}
use Rattle.gate_file.proofs.Staged.{all_image, opened_image, all_grown, has_grown}
use Rattle.gate_file.proofs.committing.commit_staged.Goals as goal

pub returns-in_err-settle-clause-any_moment : goal.returns-in_err-settle-clause-any_moment
returns-in_err-settle-clause-any_moment g c = λ honest.
    let d = g.D.Disk in
    let old = d.state c.args.disk.now in
    let b = take c.args.end old.contents in
    let all = staged_in c.args.end c.args.staged old.contents in
    weakened d _ _ _ (CommitsToEither b all) (c.settle.ensures.any_moment honest) (λ image is. all_image b all old image (c.requires.whole honest).whole is)

pub returns-clause-any_moment : goal.returns-clause-any_moment
returns-clause-any_moment g c = λ honest.
    let d = g.D.Disk in
    let old = d.state c.args.disk.now in
    let b = take c.args.end old.contents in
    let all = staged_in c.args.end c.args.staged old.contents in
    let s = (c.requires.whole honest).whole in
    let still = c.settle.ensures.frame.honest.0 honest in
    let ok = c.in_ok-settle.ensures.ok honest in
    and_then d _ _ _ _ _ (CommitsToEither b all) (c.settle.ensures.any_moment honest) (c.write_synced.ensures.any_moment still)
    (λ image is. all_image b all old image s is)
    (λ image torn. opened_image b all old _ image _ s ok.1 (c.requires.staged honest).long torn)

pub returns-in_err-settle-clause-front : goal.returns-in_err-settle-clause-front
returns-in_err-settle-clause-front g c = λ honest.
    let still = c.settle.ensures.frame.honest.0 honest in
    front_stays g.D.Disk _ _ _ _ _ (g.met.D.Disk.laws _ still) (c.requires.staged honest).long (returns-in_err-settle-clause-any_moment g c honest)

pub returns-clause-front : goal.returns-clause-front
returns-clause-front g c = λ honest.
    let still = c.write_synced.ensures.frame.honest.0 (c.settle.ensures.frame.honest.0 honest) in
    front_stays g.D.Disk _ _ _ _ _ (g.met.D.Disk.laws _ still) (c.requires.staged honest).long (returns-clause-any_moment g c honest)

pub returns-clause-grown : goal.returns-clause-grown
returns-clause-grown g c = on_ok_weaker c.write_synced.result (λ wrote honest.
    let d = g.D.Disk in
    let old = d.state c.args.disk.now in
    let b = take c.args.end old.contents in
    let all = staged_in c.args.end c.args.staged old.contents in
    let was = c.requires.staged honest in
    let is = wrote (c.settle.ensures.frame.honest.0 honest) in
    let ok = c.in_ok-settle.ensures.ok honest in
    has_grown all old _ c.args.end c.args.staged
    (all_grown b all old _ _ c.args.end (c.args.end + c.args.staged) (c.requires.whole honest).whole ok.1 was.long is.1 (omega (arith, was.size)) is.0)) c.write_synced.ensures.written
