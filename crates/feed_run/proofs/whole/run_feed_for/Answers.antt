use Rattle.std.proofs.Common.{inl, inr, ap, ◌∙◌, arith}
use Rattle.feed_runner.specs.declared.counting.Counts.{Counts}
use Rattle.feed_run.specs.Run.{RunState, steps_of}
use Rattle.feed_run.proofs.Ending.{begins, fault_now, fault_then, gives_end, gives_fault, gives_no_reply, steps_on, whole_now, whole_then}
use Rattle.feed_run.proofs.whole.run_feed_for.Goals as goal

pub loop-run-init : goal.loop-run-init
loop-run-init g c =
    let none = ap (λ (s : RunState). steps_of s) c.new-run.ensures in (
      omega (arith, none),
      omega (arith, none),
      λ before is_in. (before, is_in, begins g.T.Runner.answers g.T.Runner.held_in _ c.new-run.result before c.new-run.ensures),
    )

pub loop-run-preserved : goal.loop-run-preserved
loop-run-preserved g c =
    let moves = rw c.in-Ok-Some.field-0-is at c.in-Ok-Some.ensures.moves in
    let replied = rw c.in-Ok-Some.field-0-is at c.in-Ok-Some.ensures.replied in
    let stays = rw c.in-Ok-Some.field-0-is at c.in-Ok-Some.ensures.stays in (
      omega (arith, moves.0, moves.1),
      omega (arith, moves.1, c.loop-run.invariant.1, c.in-Ok-Some.ensures.count),
      λ before is_in.
          let (mid, stands, come) = c.loop-run.invariant.2 before is_in in
          elim come [
            | inl goes ↦
                let (after, is_in_after, steps) = replied mid stands goes.not_ended in
                (after, is_in_after, steps_on g.T.Runner.answers g.T.Runner.held_in _ _ _ c.loop-run.run c.step_for.new.self before mid after c.in-Ok-Some.field-0-0 goes steps)
            | inr ended ↦
                let same = rw ended.ended at stays in
                absurd (gives_no_reply ended.outcome c.in-Ok-Some.field-0-0 same.0)
          ],
    )

pub returns-in-Ok-None-clause-ok : goal.returns-in-Ok-None-clause-ok
returns-in-Ok-None-clause-ok g c = λ before is_in.
    let (mid, stands, come) = c.loop-run.invariant.2 before is_in in
    let end = rw c.in-Ok-None.field-0-is at c.in-Ok-None.ensures.end in
    let ends = rw c.in-Ok-None.field-0-is at c.in-Ok-None.ensures.ends in
    let stays = rw c.in-Ok-None.field-0-is at c.in-Ok-None.ensures.stays in
    let commands = c.tally.ensures.commands ∙ ap (λ (k : Counts). k.commands) ends.1 in
    let kept = c.tally.ensures.kept ∙ ap (λ (k : Counts). k.kept) ends.1 in
    elim come [
      | inl goes ↦
          let (after, is_in_after, one) = end mid stands goes.not_ended in (
            after,
            is_in_after,
            whole_now g.T.Runner.answers g.T.Runner.held_in _ _ _ c.loop-run.run before mid after c.tally.result (g.T.Runner.end_in after) goes one
                commands kept c.tally.ensures.adds_up (c.tally.ensures.end ∙ c.kept_length.ensures after is_in_after),
          )
      | inr ended ↦
          let same = rw ended.ended at stays in
          let there : g.T.Runner.is_in mid c.step_for.new.runner = rw same.2 stands in
          let length_is = c.tally.ensures.end ∙ c.kept_length.ensures mid there in
          rw (same.2, same.3, same.4, same.5) (
            mid,
            stands,
            whole_then g.T.Runner.answers g.T.Runner.held_in _ _ c.loop-run.run before mid c.tally.result (g.T.Runner.end_in mid) ended
                (gives_end ended.outcome same.0) commands kept c.tally.ensures.adds_up length_is,
          )
    ]

pub returns-in-Err-clause-err : goal.returns-in-Err-clause-err
returns-in-Err-clause-err g c = λ before is_in.
    let (mid, stands, come) = c.loop-run.invariant.2 before is_in in
    elim come [
      | inl goes ↦
          let (after, is_in_after, stop) = c.in-Err.ensures.stopped mid stands goes.not_ended in
          (after, is_in_after, fault_now g.T.Runner.answers g.T.Runner.held_in c.in-Err.fault _ _ _ c.loop-run.run before mid after goes stop)
      | inr ended ↦
          let same = rw ended.ended at c.in-Err.ensures.stays in
          rw (same.2, same.3, same.4, same.5)
          (mid, stands, fault_then g.T.Runner.answers g.T.Runner.held_in c.in-Err.fault _ _ c.loop-run.run before mid ended (gives_fault ended.outcome c.in-Err.fault same.0))
    ]
