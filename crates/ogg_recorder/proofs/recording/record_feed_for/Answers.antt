use Rattle.std.proofs.Common.{[], refl, Ok}
use Rattle.std.proofs.lemmas.Result.{IfOk-weaker, MatchResult-weaker}
use Rattle.history.specs.World.{start}
use Rattle.file_recorder.specs.Running.{Answers, progress, waiting_in}
use Rattle.ogg_recorder.specs.Recorded.{answered_by}
use Rattle.ogg_recorder.proofs.Ended.{run_to, ended, over_run}
use Rattle.ogg_recorder.proofs.World.{has_recorded}
use Rattle.ogg_recorder.proofs.recording.record_feed_for.Goals as goal

pub returns-clause-ok : goal.returns-clause-ok
returns-clause-ok g c = λ first w.
    let d = g.D.Disk in
    let before = progress first w c.args.recorder.now in
    IfOk-weaker c.run_feed_for.result _ _
    (λ tally (after, is, run). (
      after,
      is,
      run,
      has_recorded d c.runs_show_first_commands.ensures c.disks_stand_in_their_world.ensures.step c.records_are_steps.ensures.steps c.records_are_steps.ensures.bytes before after _ _ c.end-end.ensures.images
          (run_to (Answers d) waiting_in (Ok tt) _ _ before after run.run),
    ))
    (c.run_feed_for.ensures.ok before refl)

pub returns-clause-err : goal.returns-clause-err
returns-clause-err g c = λ first w.
    let d = g.D.Disk in
    let before = progress first w c.args.recorder.now in
    MatchResult-weaker c.run_feed_for.result (c.run_feed_for.ensures.err before refl) (λ _ sure. sure)
    (λ fault (after, is, run). let found = answered_by (Answers d) waiting_in fault _ _ before after run in (
      after,
      is,
      run,
      has_recorded d c.runs_show_first_commands.ensures c.disks_stand_in_their_world.ensures.step c.records_are_steps.ensures.steps c.records_are_steps.ensures.bytes before after found.records found.replies c.end-end.ensures.images
          (ended (Answers d) waiting_in fault _ _ before after run),
    ))

pub returns-clause-frame : goal.returns-clause-frame
returns-clause-frame g c =
    let before = progress [] start c.args.recorder.now in
    over_run g.D.Disk _ _ before c.run_feed_for.new.runner c.run_feed_for.result (c.run_feed_for.ensures.ok before refl) (c.run_feed_for.ensures.err before refl)
