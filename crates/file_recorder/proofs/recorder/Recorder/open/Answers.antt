use Rattle.std.proofs.Common.{◌∙◌, inl, inr, ⊎_elim, ℕ, List, sym, ap, subst, arith}
use Rattle.gate_file.specs.Commit.{CommitsTo}
use Rattle.gate_file.specs.Found.{found_bytes}
use Rattle.link_chain.specs.Recording.{Holds}
use Rattle.file_recorder.specs.Taking.{HoldsChain}
use Rattle.gate_file.specs.Gate.{EachImage}
use Rattle.gate_file.specs.OpenFault.{no_page}
use Rattle.file_recorder.proofs.Opened.{shows_earlier, opened_earlier, images_have, is_opened, is_in_opened, finds, holds_of}
use Rattle.file_recorder.proofs.Reopened.{reopened}
use Rattle.file_recorder.proofs.recorder.Recorder.open.Goals as goal

pub invariant_of-result : goal.invariant_of-result
invariant_of-result g c =
    let d = g.D.Disk in
    let found = c.in-Ok.found.found in
    let file = c.in-Ok-ready.file in
    let before : d.is_honest file.disk → d.is_honest found.disk = c.in-Ok-ready.ensures.frame.honest.1 in
    is_opened d file c.in-Ok.found.shape.chain c.tail-tail.result
    (ap (λ f. f.failed) c.in-Ok-ready.ensures.ready) (ap (λ f. f.staged) c.in-Ok-ready.ensures.ready) c.in-Ok.ensures.whole
    (λ now. subst (λ (l : List ℕ). HoldsChain l c.in-Ok.found.shape.chain) (sym (c.in-Ok-ready.ensures.same (before now))) (c.in-Ok.ensures.chain (c.in-Ok.ensures.opens.frame.honest.1 (before now))))
    (λ now. subst (λ (l : List ℕ). EachImage (d.state file.disk) (CommitsTo l)) (sym (c.in-Ok-ready.ensures.same (before now)))
    (images_have d found.disk file.disk d.state (CommitsTo (found_bytes d.state found)) (g.met.D.Disk.laws file.disk now) (c.in-Ok-ready.ensures.any_moment (before now))))

pub returns-in-Ok-ready-clause-opens : goal.returns-in-Ok-ready-clause-opens
returns-in-Ok-ready-clause-opens g c =
    let first = c.in-Ok.ensures.opens.frame in
    let second = c.in-Ok-ready.ensures.frame in
    record {
      frame = record {
        honest = ((λ h. second.honest.0 (first.honest.0 h)), (λ h. first.honest.1 (second.honest.1 h)));
        later = omega (arith, first.later, second.later);
        cause = λ no. absurd no;
      };
      any_moment = λ honest.
          opened_earlier g.D.Disk c.args.disk c.in-Ok-ready.file.disk c.in-Ok.found.found.disk (g.D.Disk.state c.args.disk) _ _ (g.met.D.Disk.laws c.args.disk honest).contents_is_image (c.in-Ok.ensures.same honest)
          (c.in-Ok.ensures.ends honest).ends.commits (c.in-Ok.ensures.opens.any_moment honest) (c.in-Ok-ready.ensures.any_moment (first.honest.0 honest));
    }

pub returns-in-Ok-ready-clause-step : goal.returns-in-Ok-ready-clause-step
returns-in-Ok-ready-clause-step g c = λ first w stands closed honest.
    let d = g.D.Disk in
    let found = c.in-Ok.found.found in
    let file = c.in-Ok-ready.file in
    let here = c.in-Ok.ensures.opens.frame.honest.0 honest in
    let now = c.in-Ok-ready.ensures.frame.honest.0 here in
    let laws = g.met.D.Disk.laws c.args.disk honest in
    let b = found_bytes d.state found in
    let was : CommitsTo b (d.state c.args.disk).contents = subst (λ (l : List ℕ). CommitsTo b l) (c.in-Ok.ensures.same honest) (c.in-Ok.ensures.ends honest).ends.commits in
    let chain = c.in-Ok.ensures.chain honest in
    let leaves = shows_earlier d c.args.disk file.disk (d.state c.args.disk) ((returns-in-Ok-ready-clause-opens g c).any_moment honest) in
    let each = images_have d found.disk file.disk d.state (CommitsTo b) (g.met.D.Disk.laws file.disk now) (c.in-Ok-ready.ensures.any_moment here) in
    let opened = c.disks_stand_in_their_world.ensures.opened first w c.args.disk file.disk chain.recording stands leaves
    (finds (d.state c.args.disk) (d.state file.disk) b chain.recording laws.contents_is_image was each (holds_of b c.in-Ok.found.shape.chain chain)) in (
      opened.0,
      (closed, opened.2, now),
      is_in_opened d file c.in-Ok.found.shape.chain c.tail-tail.result first w opened.0 chain.recording
          (ap (λ f. f.failed) c.in-Ok-ready.ensures.ready) (ap (λ f. f.staged) c.in-Ok-ready.ensures.ready)
          (λ _. subst (λ (l : List ℕ). Holds l chain.recording) (sym (c.in-Ok-ready.ensures.same here)) (holds_of b c.in-Ok.found.shape.chain chain)) opened.1,
    )

pub returns-in-Err-ready-clause-gives_back : goal.returns-in-Err-ready-clause-gives_back
returns-in-Err-ready-clause-gives_back g c =
    let first = c.in-Ok.ensures.opens.frame in
    let second = c.in-Err-ready.ensures.frame_err in
    let is_disk = c.in-Err-ready.ensures.fault in
    record {
      any_moment = λ honest.
          opened_earlier g.D.Disk c.args.disk c.in-Err-ready.fault.1 c.in-Ok.found.found.disk (g.D.Disk.state c.args.disk) _ _ (g.met.D.Disk.laws c.args.disk honest).contents_is_image (c.in-Ok.ensures.same honest)
          (c.in-Ok.ensures.ends honest).ends.commits (c.in-Ok.ensures.opens.any_moment honest) (c.in-Err-ready.ensures.any_moment_err (first.honest.0 honest));
      frame = record {
        honest = ((λ h. second.honest.0 (first.honest.0 h)), (λ h. first.honest.1 (second.honest.1 h)));
        later = omega (arith, first.later, second.later);
        cause = λ disk. ⊎_elim (λ rises. inl (omega (arith, first.later, rises))) inr (second.cause tt);
      };
      untouched = λ not_disk _. absurd (not_disk is_disk);
      damaged = λ offset why is _. absurd (no_page offset why (sym is_disk ∙ is));
      settled = λ offset why is _. absurd (no_page offset why (sym is_disk ∙ is));
    }

pub returns-in-Err-ready-clause-step_err : goal.returns-in-Err-ready-clause-step_err
returns-in-Err-ready-clause-step_err g c = λ first w closed honest.
    let d = g.D.Disk in (
      closed,
      shows_earlier d c.args.disk c.in-Err-ready.fault.1 (d.state c.args.disk) ((returns-in-Err-ready-clause-gives_back g c).any_moment honest),
      c.in-Err-ready.ensures.frame_err.honest.0 (c.in-Ok.ensures.opens.frame.honest.0 honest),
    )

pub returns-in-Err-clause-reopens : goal.returns-in-Err-clause-reopens
returns-in-Err-clause-reopens g c = λ first w stands honest.
    reopened (g.D.Disk.state c.args.disk) first w c.in-Err.fault.0 (g.met.D.Disk.laws c.args.disk honest).contents_is_image stands
    (λ offset fault is. c.in-Err.ensures.gives_back.damaged offset fault is honest)
    (λ offset fault is. c.in-Err.ensures.broken offset fault is honest)
    (λ serial is. c.in-Err.ensures.unfinished serial is honest)

pub returns-in-Err-ready-clause-reopens : goal.returns-in-Err-ready-clause-reopens
returns-in-Err-ready-clause-reopens g c = λ first w stands honest. inl c.in-Err-ready.ensures.fault
