use Rattle.std.proofs.Common.{ℕ, ◌+◌, ◌≤◌, List, ◌++◌, length, refl, sym, ◌∙◌, ap, subst, arith, Err}
use Rattle.gate_file.specs.Commit.{CommitsTo}
use Rattle.gate_file.specs.Gate.{EachImage}
use Rattle.gate_file.specs.GateFile.{committed}
use Rattle.ogg_command.specs.Refusal.{code_of}
use Rattle.file_recorder.proofs.Refused.{not_disk, not_memory}
use Rattle.file_recorder.proofs.Growing.{command_pages, command_some}
use Rattle.file_recorder.proofs.Lasting.{not_failed, never, lt_false, same_refusal, staged_then, is_waiting, is_kept}
use Rattle.file_recorder.proofs.Opened.{images_have, nothing_in}
use Rattle.file_recorder.proofs.Stepping.{is_open, step_refused, held_step, kept_step, faulted_staging, faulted_commit}
use Rattle.file_recorder.proofs.recorder.Recorder.command.Given.{Over}
use Rattle.file_recorder.proofs.recorder.Recorder.command.Goals as goal

-- ---- the rules refuse it
of_table : (g : Over) (c : goal.In-Err g) → code_of c.in-Err.refusal ≤ 19
of_table g c = (c.refusals_are_of_the_table.ensures c.self.inside.shape.chain c.args.command.now c.in-Err.refusal (sym c.plan.ensures.decides ∙ c.in-Err.is)).1

pub returns-in-Err-clause-faulted : goal.returns-in-Err-clause-faulted
returns-in-Err-clause-faulted g c = λ is. absurd (not_disk c.in-Err.refusal (of_table g c) is)

pub returns-in-Err-clause-step : goal.returns-in-Err-clause-step
returns-in-Err-clause-step g c = rw (← c.self.view_is) (λ first w is_in honest. step_refused g.D.Disk first w _ c.in-Err.refusal _ c.args.command.now (of_table g c) is_in honest)

pub returns-in-Err-clause-frame : goal.returns-in-Err-clause-frame
returns-in-Err-clause-frame g c = rw (← c.self.view_is) (record {
  honest = ((λ h. h), (λ h. h));
  later = omega arith;
  cause = λ e. absurd (not_disk c.in-Err.refusal (of_table g c) (same_refusal c.in-Err.refusal _ e));
})

pub returns-in-Err-clause-memory : goal.returns-in-Err-clause-memory
returns-in-Err-clause-memory g c = λ _ e. absurd (not_memory c.in-Err.refusal (of_table g c) (same_refusal c.in-Err.refusal _ e))

-- ---- its pages are staged
pub stage_command-requires-clause-are : goal.stage_command-requires-clause-are
stage_command-requires-clause-are g c =
    command_pages c.command_adds_pages.ensures.pages c.self.inside.shape.chain c.args.command.now c.in-Ok.size c.self.invariant.chain c.command_is_in_range.ensures (sym c.plan.ensures.decides ∙ c.in-Ok.is)

pub stage_command-requires-clause-some : goal.stage_command-requires-clause-some
stage_command-requires-clause-some g c =
    command_some c.command_adds_pages.ensures.some c.self.inside.shape.chain c.args.command.now c.in-Ok.size c.self.invariant.chain c.command_is_in_range.ensures (sym c.plan.ensures.decides ∙ c.in-Ok.is)

pub stage_command-requires-clause-images : goal.stage_command-requires-clause-images
stage_command-requires-clause-images g c = c.self.invariant.images (sym c.is_failed.ensures ∙ c.if-is_failed.false)

pub returns-in-Err-Disk-clause-step : goal.returns-in-Err-Disk-clause-step
returns-in-Err-Disk-clause-step g c =
    let good = sym c.is_failed.ensures ∙ c.if-is_failed.false in
    let staged = c.stage_command.ensures in
    rw (← c.self.view_is)
    (λ first w is_in honest. faulted_staging g.D.Disk first w _ c.command_adds_its_packets.ensures.links
    c.args.command.now c.in-Ok.size is_in good honest (c.self.invariant.all good honest) c.command_is_in_range.ensures (sym c.plan.ensures.decides ∙ c.in-Ok.is) c.stage_command.new.file (staged.frame.honest.0 honest) c.stage_command.new.shape.chain
    (c.in-Err-Disk.ensures.failed (ap Err c.in-Err-Disk.field-0-is)) (staged.front honest) (c.in-Err-Disk.ensures.any_moment_err (ap Err c.in-Err-Disk.field-0-is) honest))

-- ---- it waits
pub invariant_of-self-then-self-from : goal.invariant_of-self-then-self-from
invariant_of-self-then-self-from g c =
    let d = g.D.Disk in
    let in_ = c.self.inside in
    let command = c.args.command.now in
    let kept = sym c.plan.ensures.decides ∙ c.in-Ok.is in
    let file = c.stage_command.new.file in
    let staged = c.stage_command.ensures in
    is_waiting d _ file c.accept_plan.new.self.chain command c.in-Ok.size c.self.invariant (sym c.is_failed.ensures ∙ c.if-is_failed.false) c.command_adds_its_packets.ensures.links c.command_adds_pages.ensures.some
    (c.command_adds_its_packets.ensures.size in_.shape.chain command c.in-Ok.size kept) c.command_is_in_range.ensures kept c.in-Ok.ensures.fits c.stage_command.new.shape.chain staged.chain c.accept_plan.ensures.links c.accept_plan.ensures.grows
    c.in-Ok-stage_command.ensures.good staged.frame.honest.1
    (λ now. let honest = staged.frame.honest.1 now in
    subst (λ (l : List ℕ). EachImage (d.state file.disk) (CommitsTo l)) (sym (staged.front honest))
    (images_have d in_.file.disk file.disk d.state (CommitsTo (committed d.state in_.file)) (g.met.D.Disk.laws file.disk now) (c.in-Ok-stage_command.ensures.any_moment honest)))
    (omega (arith, c.if-self-from.true, c.from.ensures)) c.in-Ok-stage_command.ensures.whole staged.front c.in-Ok-stage_command.ensures.staged

pub returns-then-self-from-clause-step : goal.returns-then-self-from-clause-step
returns-then-self-from-clause-step g c =
    let good = sym c.is_failed.ensures ∙ c.if-is_failed.false in
    let staged = c.in-Ok-stage_command.ensures in
    rw (← c.self.view_is)
    (λ first w is_in honest. held_step g.D.Disk first w _ c.command_adds_its_packets.ensures.links
    c.args.command.now c.in-Ok.size is_in good honest (c.self.invariant.all good honest) c.command_is_in_range.ensures (sym c.plan.ensures.decides ∙ c.in-Ok.is) c.stage_command.new.file (c.stage_command.ensures.frame.honest.0 honest)
    c.accept_plan.new.self.chain staged.good (c.stage_command.ensures.front honest) (staged.staged honest) (staged.any_moment honest))

pub returns-then-self-from-clause-stays : goal.returns-then-self-from-clause-stays
returns-then-self-from-clause-stays g c = rw (← c.self.view_is) (λ honest count is. c.stage_command.ensures.front honest)

-- ---- its group is committed, or the disk fails
pub returns-in-Err-commit-clause-any_moment : goal.returns-in-Err-commit-clause-any_moment
returns-in-Err-commit-clause-any_moment g c =
    let staged = c.in-Ok-stage_command.ensures in
    rw (← c.self.view_is)
    (λ honest good. staged_then g.D.Disk _ _ _ _ _ _ _ (c.stage_command.ensures.front honest) (staged.staged honest) (staged.any_moment honest) (c.commit.ensures.any_moment (c.stage_command.ensures.frame.honest.0 honest)))

pub returns-in-Err-commit-clause-step : goal.returns-in-Err-commit-clause-step
returns-in-Err-commit-clause-step g c =
    let d = g.D.Disk in
    let good = sym c.is_failed.ensures ∙ c.if-is_failed.false in
    let staged = c.in-Ok-stage_command.ensures in
    rw (← c.self.view_is)
    (λ first w is_in honest.
    let here = c.stage_command.ensures.frame.honest.0 honest in
    faulted_commit d first w _ c.command_adds_its_packets.ensures.links
    c.args.command.now c.in-Ok.size is_in good honest (c.self.invariant.all good honest) c.command_is_in_range.ensures (sym c.plan.ensures.decides ∙ c.in-Ok.is) c.commit.new.self (c.commit.ensures.frame.honest.0 here)
    c.stage_command.new.file (c.stage_command.ensures.front honest) (staged.staged honest) (staged.any_moment honest) (c.commit.ensures.any_moment here) c.stage_command.new.shape.chain
    (lt_false (length w.held + 1) c.self.inside.most (omega (arith, c.if-self-from.false, c.from.ensures, is_in.count (is_open d first w _ is_in good))))
    (c.in-Err-commit.ensures.failed.1 refl) c.in-Err-commit.ensures.end_err (c.commit.ensures.front here))

pub invariant_of-self-2 : goal.invariant_of-self-2
invariant_of-self-2 g c =
    let d = g.D.Disk in
    let command = c.args.command.now in
    let kept = sym c.plan.ensures.decides ∙ c.in-Ok.is in
    let file = c.commit.new.self in
    let staged = c.stage_command.ensures in
    let done = c.in-Ok-commit.ensures in
    is_kept d _ file c.accept_plan-2.new.self.chain command c.in-Ok.size c.self.invariant (sym c.is_failed.ensures ∙ c.if-is_failed.false) c.command_adds_its_packets.ensures.links c.command_adds_pages.ensures.some
    (c.command_adds_its_packets.ensures.size c.self.inside.shape.chain command c.in-Ok.size kept) c.command_is_in_range.ensures kept c.in-Ok.ensures.fits c.stage_command.new.shape.chain staged.chain c.accept_plan-2.ensures.links c.accept_plan-2.ensures.grows
    (not_failed file.failed (λ bad. never (done.failed.0 bad))) (λ now. staged.frame.honest.1 (c.commit.ensures.frame.honest.1 now))
    (λ now. let here = c.commit.ensures.frame.honest.1 now in
    subst (λ (l : List ℕ). EachImage (d.state file.disk) (CommitsTo l)) (sym (done.grown here)) (done.only here))
    done.none
    (λ honest. done.grown (staged.frame.honest.0 honest) ∙ (λ i. staged.front honest i ++ (c.in-Ok-stage_command.ensures.staged honest) i))
    (omega (arith, c.self.invariant.few))

pub returns-clause-any_moment : goal.returns-clause-any_moment
returns-clause-any_moment g c =
    let staged = c.in-Ok-stage_command.ensures in
    rw (← c.self.view_is)
    (λ honest good. staged_then g.D.Disk _ _ _ _ _ _ _ (c.stage_command.ensures.front honest) (staged.staged honest) (staged.any_moment honest) (c.commit.ensures.any_moment (c.stage_command.ensures.frame.honest.0 honest)))

pub returns-clause-step : goal.returns-clause-step
returns-clause-step g c =
    let good = sym c.is_failed.ensures ∙ c.if-is_failed.false in
    let staged = c.in-Ok-stage_command.ensures in
    let done = c.in-Ok-commit.ensures in
    rw (← c.self.view_is)
    (λ first w is_in honest.
    let here = c.stage_command.ensures.frame.honest.0 honest in
    kept_step g.D.Disk first w _ c.command_adds_its_packets.ensures.links
    c.args.command.now c.in-Ok.size is_in good honest (c.self.invariant.all good honest) c.command_is_in_range.ensures (sym c.plan.ensures.decides ∙ c.in-Ok.is) c.commit.new.self (c.commit.ensures.frame.honest.0 here)
    c.stage_command.new.file (c.stage_command.ensures.front honest) (staged.staged honest) (staged.any_moment honest) (c.commit.ensures.any_moment here) c.accept_plan-2.new.self.chain
    (not_failed c.commit.new.self.failed (λ bad. never (done.failed.0 bad))) done.none (done.grown here) (done.only here))

pub returns-clause-none_waits : goal.returns-clause-none_waits
returns-clause-none_waits g c = λ kept is. nothing_in g.D.Disk.state c.commit.new.self c.in-Ok-commit.ensures.none
