use Rattle.std.proofs.Common.{◌∙◌, ap, refl, subst, List, ℕ}
use Rattle.chain_rules.specs.Recording.{add}
use Rattle.gate_file.specs.Gate.{EndsAt}
use Rattle.record_actions.specs.Tail.{IsSoundAt}
use Rattle.file_recorder.specs.Recovery.{Accepts, Shows}
use Rattle.history.specs.World.{start}
use Rattle.archive_record.proofs.Left.{err_after, err_where, left_after, frame_after, ok_where, refused_only, sound_there}
use Rattle.archive_record.proofs.Looked.{looked, looked_then, looks_on, opened_then, stands_on}
use Rattle.archive_record.proofs.opening.open_sound.Goals as goal

pub returns-in-Ok-with_sound_tail-clause-left : goal.returns-in-Ok-with_sound_tail-clause-left
returns-in-Ok-with_sound_tail-clause-left g c =
    err_after g.D.Disk c.recorder_on.result c.args.disk c.in-Ok-with_sound_tail.disk (frame_after g.D.Disk c.args.disk c.in-Ok.disk c.in-Ok-with_sound_tail.disk _ c.in-Ok.ensures.frame c.in-Ok-with_sound_tail.ensures.frame)
    (λ honest. c.in-Ok-with_sound_tail.ensures.same (c.in-Ok.ensures.frame.honest.0 honest) ∙ ap (λ s. s.contents) (c.in-Ok.ensures.own honest).0)
    c.recorder_on.ensures.left

pub returns-in-Err-with_sound_tail-clause-left : goal.returns-in-Err-with_sound_tail-clause-left
returns-in-Err-with_sound_tail-clause-left g c =
    left_after g.D.Disk c.args.disk c.in-Ok.disk _ _ c.in-Ok.ensures.frame (λ honest. ap (λ s. s.contents) (c.in-Ok.ensures.own honest).0) c.in-Err-with_sound_tail.ensures.left

pub returns-in-Ok-with_sound_tail-clause-sound : goal.returns-in-Ok-with_sound_tail-clause-sound
returns-in-Ok-with_sound_tail-clause-sound g c = ok_where _ _ c.recorder_on.result
    (λ r ends honest.
    let at_first = c.in-Ok.ensures.frame.honest.0 honest in
    let then = c.in-Ok-with_sound_tail.ensures.frame.honest.0 at_first in
    let sound = c.in-Ok-with_sound_tail.ensures.sound at_first in
    let own = c.in-Ok.ensures.own honest in
    let same = ap (λ s. s.contents) own.0 in (
      sound_there c.committed_bytes_are_unique.ensures _ sound.0 r.file.end (subst (λ (l : List ℕ). IsSoundAt l sound.0) same sound.1)
          (subst (λ (l : List ℕ). EndsAt l r.file.end) (c.in-Ok-with_sound_tail.ensures.same at_first ∙ same) (ends then).0),
      own.1,
    ))
    c.recorder_on.ensures.ends

pub returns-in-Ok-with_sound_tail-clause-each : goal.returns-in-Ok-with_sound_tail-clause-each
returns-in-Ok-with_sound_tail-clause-each g c =
    let law = c.what_shows_a_recording_is_opened.ensures in
    err_where _ _ c.recorder_on.result (λ e left honest good. refused_only c.committed_bytes_are_unique.ensures law.damaged law.broken law.unfinished g.D.Disk c.args.disk e.0 e.1 left honest good)
    (returns-in-Ok-with_sound_tail-clause-left g c)

pub returns-in-Err-with_sound_tail-clause-each : goal.returns-in-Err-with_sound_tail-clause-each
returns-in-Err-with_sound_tail-clause-each g c = λ honest good.
    let law = c.what_shows_a_recording_is_opened.ensures in
    refused_only c.committed_bytes_are_unique.ensures law.damaged law.broken law.unfinished g.D.Disk c.args.disk _ _ (returns-in-Err-with_sound_tail-clause-left g c) honest good

pub returns-in-Err-clause-each : goal.returns-in-Err-clause-each
returns-in-Err-clause-each g c = λ honest good.
    let law = c.what_shows_a_recording_is_opened.ensures in
    refused_only c.committed_bytes_are_unique.ensures law.damaged law.broken law.unfinished g.D.Disk c.args.disk _ _ c.in-Err.ensures.left honest good

pub returns-in-Ok-with_sound_tail-clause-step : goal.returns-in-Ok-with_sound_tail-clause-step
returns-in-Ok-with_sound_tail-clause-step g c = ok_where _ _ c.recorder_on.result
    (λ r step first w stands closed honest.
    let d = g.D.Disk in
    let at_first = c.in-Ok.ensures.frame.honest.0 honest in
    let then = c.in-Ok-with_sound_tail.ensures.frame.honest.0 at_first in
    let first_laws = g.met.D.Disk.laws c.in-Ok.disk at_first in
    let then_laws = g.met.D.Disk.laws c.in-Ok-with_sound_tail.disk then in
    let looks = looks_on d c.args.disk c.in-Ok.disk c.in-Ok-with_sound_tail.disk first_laws (c.in-Ok.ensures.any_moment honest) (c.in-Ok-with_sound_tail.ensures.any_moment at_first) in
    let (found, opened, is_in) = step first w (stands_on d Shows Accepts add first w c.args.disk c.in-Ok-with_sound_tail.disk then_laws looks stands) closed then in
    (found, opened_then d Shows Accepts add first w found c.args.disk c.in-Ok-with_sound_tail.disk r.file.disk then_laws looks opened, is_in))
    c.recorder_on.ensures.step

pub returns-in-Ok-with_sound_tail-clause-step_err : goal.returns-in-Ok-with_sound_tail-clause-step_err
returns-in-Ok-with_sound_tail-clause-step_err g c = err_where _ _ c.recorder_on.result
    (λ e step first w honest.
    let d = g.D.Disk in
    let at_first = c.in-Ok.ensures.frame.honest.0 honest in
    let then = c.in-Ok-with_sound_tail.ensures.frame.honest.0 at_first in
    let first_laws = g.met.D.Disk.laws c.in-Ok.disk at_first in
    let then_laws = g.met.D.Disk.laws c.in-Ok-with_sound_tail.disk then in
    let looks = looks_on d c.args.disk c.in-Ok.disk c.in-Ok-with_sound_tail.disk first_laws (c.in-Ok.ensures.any_moment honest) (c.in-Ok-with_sound_tail.ensures.any_moment at_first) in
    looked_then d Shows Accepts add first w start c.args.disk c.in-Ok-with_sound_tail.disk e.1 then_laws looks (step first start refl then))
    c.recorder_on.ensures.step_err

pub returns-in-Err-with_sound_tail-clause-step_err : goal.returns-in-Err-with_sound_tail-clause-step_err
returns-in-Err-with_sound_tail-clause-step_err g c = λ first w honest.
    let d = g.D.Disk in
    let at_first = c.in-Ok.ensures.frame.honest.0 honest in
    let back = c.in-Err-with_sound_tail.ensures.left.frame.honest.0 at_first in
    let first_laws = g.met.D.Disk.laws c.in-Ok.disk at_first in
    looked d Shows Accepts add first w c.args.disk _ back (looks_on d c.args.disk c.in-Ok.disk _ first_laws (c.in-Ok.ensures.any_moment honest) (c.in-Err-with_sound_tail.ensures.any_moment_err at_first))

pub returns-in-Err-clause-step_err : goal.returns-in-Err-clause-step_err
returns-in-Err-clause-step_err g c = λ first w honest.
    looked g.D.Disk Shows Accepts add first w c.args.disk _ (c.in-Err.ensures.left.frame.honest.0 honest) (c.in-Err.ensures.any_moment_err honest)
