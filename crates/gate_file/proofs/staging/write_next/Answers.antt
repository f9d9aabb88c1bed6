use Rattle.std.proofs.Common.{◌≡◌, ℕ, ◌+◌, ◌-◌, List, length, take, drop, arith, ap, ◌∙◌, ◌++◌, length-drop}
use Rattle.std.proofs.lemmas.List.{take_all}
use Rattle.std.proofs.lemmas.Result.{on_ok_weaker}
use Rattle.disk_model.specs.declared.disk.Disk.{Ghosts as DiskModel}
use Rattle.disk_model.specs.Leaving.{LeavesOnly, weakened}
use Rattle.gate_file.specs.Commit.{CommitsTo}
use Rattle.gate_file.specs.Gate.{IsStaged, staged_in}
use Rattle.gate_file.proofs.Crash.{front_kept}
use Rattle.gate_file.proofs.Staged.{image_behind, written_behind, first_left_out, none_left_out, length_left, none_left}
use Rattle.gate_file.proofs.staging.write_next.Goals as goal

-- what is written after the staged pages leaves the committed bytes
still_commits : {D : Type 0} (model : DiskModel D) (old new : D) (end count : ℕ) → IsStaged end count (model.state old)
    → LeavesOnly model old new (λ image. take (end + 1) image ≡ take (end + 1) (model.state old).synced) → LeavesOnly model old new (CommitsTo (take end (model.state old).contents))
still_commits model old new end count was leaves =
    let disk = model.state old in
    let b = take end disk.contents in
    weakened model old new _ (CommitsTo b) leaves (λ image front. image_behind b (staged_in end count disk.contents) disk (end + 1) image (omega (arith, was.long)) was.stages front)

pub returns-then-staged-eq0-clause-any_moment : goal.returns-then-staged-eq0-clause-any_moment
returns-then-staged-eq0-clause-any_moment g c = λ honest. still_commits g.D.Disk _ _ c.args.end c.args.staged (c.requires.staged honest) (c.write_behind.ensures.any_moment honest)

pub returns-else-staged-eq0-clause-any_moment : goal.returns-else-staged-eq0-clause-any_moment
returns-else-staged-eq0-clause-any_moment g c = λ honest. still_commits g.D.Disk _ _ c.args.end c.args.staged (c.requires.staged honest) (c.write_behind-else-staged-eq0.ensures.any_moment honest)

pub returns-then-staged-eq0-clause-front : goal.returns-then-staged-eq0-clause-front
returns-then-staged-eq0-clause-front g c = λ honest.
    let still = c.write_behind.ensures.frame.honest.0 honest in
    front_kept g.D.Disk _ _ _ _ (g.met.D.Disk.laws _ still) (c.requires.staged honest).long (returns-then-staged-eq0-clause-any_moment g c honest)

pub returns-else-staged-eq0-clause-front : goal.returns-else-staged-eq0-clause-front
returns-else-staged-eq0-clause-front g c = λ honest.
    let still = c.write_behind-else-staged-eq0.ensures.frame.honest.0 honest in
    front_kept g.D.Disk _ _ _ _ (g.met.D.Disk.laws _ still) (c.requires.staged honest).long (returns-else-staged-eq0-clause-any_moment g c honest)

pub returns-then-staged-eq0-clause-written : goal.returns-then-staged-eq0-clause-written
returns-then-staged-eq0-clause-written g c = on_ok_weaker c.write_behind.result (λ wrote honest.
    let disk = g.D.Disk.state c.args.disk.now in
    let b = take c.args.end disk.contents in
    let all = staged_in c.args.end c.args.staged disk.contents in
    let was = c.requires.staged honest in
    let bytes = c.args.bytes.now in
    let front : c.args.end + 1 ≡ length b + 1 = omega (arith, was.long) in
    written_behind b all bytes (take (length bytes - 1) (drop 1 bytes)) disk _ (c.args.end + 1) (c.args.end + 1) front (omega (arith, none_left all c.args.staged was.size c.if-staged-eq0.true))
    (ap (λ (l : List ℕ). drop 1 all ++ l) (take_all (length bytes - 1) (drop 1 bytes) (omega (arith, length-drop 1 bytes))) ∙ first_left_out all bytes c.args.staged was.size c.if-staged-eq0.true) was.stages
    (wrote honest) (c.write_behind.ensures.keeps honest)) c.write_behind.ensures.written

pub returns-else-staged-eq0-clause-written : goal.returns-else-staged-eq0-clause-written
returns-else-staged-eq0-clause-written g c = on_ok_weaker c.write_behind-else-staged-eq0.result (λ wrote honest.
    let disk = g.D.Disk.state c.args.disk.now in
    let b = take c.args.end disk.contents in
    let all = staged_in c.args.end c.args.staged disk.contents in
    let was = c.requires.staged honest in
    let bytes = c.args.bytes.now in
    let front : c.args.end + 1 ≡ length b + 1 = omega (arith, was.long) in
    written_behind b all bytes bytes disk _ (c.args.end + 1) (c.args.end + c.args.staged) front (omega (arith, length_left all c.args.staged was.size c.if-staged-eq0.false)) (none_left_out all bytes c.args.staged was.size c.if-staged-eq0.false) was.stages
    (wrote honest) (c.write_behind-else-staged-eq0.ensures.keeps honest)) c.write_behind-else-staged-eq0.ensures.written
