use Rattle.std.proofs.Common.{◌≡◌, ◌++◌, ◌∙◌, ap, sym, take, ℕ, append-nil}
use Rattle.std.proofs.lemmas.Result.{on_ok_weaker}
use Rattle.gate_file.specs.Gate.{staged_in}
use Rattle.gate_file.proofs.Cutting.{each_commits}
use Rattle.gate_file.proofs.sealing.commit_cut.Goals as goal

pub returns-then-staged-eq0-clause-only : goal.returns-then-staged-eq0-clause-only
returns-then-staged-eq0-clause-only g c = on_ok_weaker c.cut_behind.result (λ ok honest.
    let old = g.D.Disk.state c.args.disk.now in
    let b = take c.args.end old.contents in
    let all = staged_in c.args.end c.args.staged old.contents in
    let was = c.requires.staged honest in
    let none : b ++ all ≡ b = ap (λ (n : ℕ). b ++ staged_in c.args.end n old.contents) c.if-staged-eq0.true ∙ append-nil b in
    each_commits b all _ was.stages.pages was.stages.more (ok honest).0 ((ok honest).1 ∙ sym none)) c.cut_behind.ensures.ok

pub returns-else-staged-eq0-clause-only : goal.returns-else-staged-eq0-clause-only
returns-else-staged-eq0-clause-only g c = on_ok_weaker c.commit_some.result (λ ok honest.
    let old = g.D.Disk.state c.args.disk.now in
    let was = c.requires.staged honest in
    each_commits _ _ _ was.stages.pages was.stages.more (ok honest).0 (ok honest).1) c.commit_some.ensures.ok
