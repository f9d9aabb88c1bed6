use Rattle.std.proofs.Common.{◌+◌, ◌∙◌, take, inl, arith}
use Rattle.std.proofs.lemmas.Result.{on_ok_weaker}
use Rattle.disk_model.specs.Leaving.{weakened, and_then}
use Rattle.gate_file.specs.Commit.{CommitsToEither}
use Rattle.gate_file.specs.Gate.{staged_in}
use Rattle.gate_file.proofs.Crash.{front_stays}
use Rattle.gate_file.proofs.Cutting.{left_by_cut, all_there, opened_end}
use Rattle.gate_file.proofs.Staged.{image_behind}
use Rattle.gate_file.proofs.sealing.commit_some.Goals as goal

pub returns-in_err-cut_synced-clause-any_moment : goal.returns-in_err-cut_synced-clause-any_moment
returns-in_err-cut_synced-clause-any_moment g c = λ honest.
    let d = g.D.Disk in
    let old = d.state c.args.disk.now in
    let b = take c.args.end old.contents in
    let all = staged_in c.args.end c.args.staged old.contents in
    let was = c.requires.staged honest in
    weakened d _ _ _ (CommitsToEither b all) (c.cut_synced.ensures.any_moment honest) (λ image front. inl (image_behind b all old (c.args.end + 1) image (omega (arith, was.long)) was.stages front))

pub returns-clause-any_moment : goal.returns-clause-any_moment
returns-clause-any_moment g c = λ honest.
    let d = g.D.Disk in
    let old = d.state c.args.disk.now in
    let b = take c.args.end old.contents in
    let all = staged_in c.args.end c.args.staged old.contents in
    let was = c.requires.staged honest in
    let s = (c.requires.whole honest).whole in
    let still = c.cut_synced.ensures.frame.honest.0 honest in
    let ok = c.in_ok-cut_synced.ensures.ok honest in
    let left = left_by_cut b all old _ (c.args.end + c.args.staged) s (omega (arith, was.long, was.size)) ok.1 in
    and_then d _ _ _ _ _ (CommitsToEither b all) (c.cut_synced.ensures.any_moment honest) (c.write_synced.ensures.any_moment still)
    (λ image front. inl (image_behind b all old (c.args.end + 1) image (omega (arith, was.long)) was.stages front))
    (λ image torn. opened_end b all _ image s.gate c.args.end s.pages s.more s.some was.long left torn)

pub returns-in_err-cut_synced-clause-front : goal.returns-in_err-cut_synced-clause-front
returns-in_err-cut_synced-clause-front g c = λ honest.
    let still = c.cut_synced.ensures.frame.honest.0 honest in
    front_stays g.D.Disk _ _ _ _ _ (g.met.D.Disk.laws _ still) (c.requires.staged honest).long (returns-in_err-cut_synced-clause-any_moment g c honest)

pub returns-clause-front : goal.returns-clause-front
returns-clause-front g c = λ honest.
    let still = c.write_synced.ensures.frame.honest.0 (c.cut_synced.ensures.frame.honest.0 honest) in
    front_stays g.D.Disk _ _ _ _ _ (g.met.D.Disk.laws _ still) (c.requires.staged honest).long (returns-clause-any_moment g c honest)

pub returns-clause-ok : goal.returns-clause-ok
returns-clause-ok g c = on_ok_weaker c.write_synced.result (λ wrote honest.
    let old = g.D.Disk.state c.args.disk.now in
    let b = take c.args.end old.contents in
    let all = staged_in c.args.end c.args.staged old.contents in
    let was = c.requires.staged honest in
    let s = (c.requires.whole honest).whole in
    let ok = c.in_ok-cut_synced.ensures.ok honest in
    let left = left_by_cut b all old _ (c.args.end + c.args.staged) s (omega (arith, was.long, was.size)) ok.1 in
    let is = wrote (c.cut_synced.ensures.frame.honest.0 honest) in
    (is.0, is.1 ∙ all_there b all _ s.gate c.args.end s.more s.some was.long left)) c.write_synced.ensures.written
