use Rattle.std.proofs.Common.{◌∙◌, ap}
use Rattle.file_recorder.specs.Recorder.{recorder_state}
use Rattle.file_recorder.proofs.Sealed.{flushed_and_sealed}
use Rattle.file_recorder.proofs.Stepping.{is_open, faulted_flush}
use Rattle.file_recorder.proofs.recorder.Recorder.flush_and_seal.Goals as goal

pub returns-in-Ok-clause-step : goal.returns-in-Ok-clause-step
returns-in-Ok-clause-step g c =
    let d = g.D.Disk in
    let in_ = c.self.inside in
    let good = ap (λ r. r.file.failed) c.self.view_is ∙ c.requires in
    let old = recorder_state in_.file in_.shape.chain in_.tail in_.kept in_.held in_.most in
    rw (← c.self.view_is)
    (λ first w is_in honest.
    let now = c.in-Ok.ensures.frame.honest.0 honest in
    flushed_and_sealed d first w old is_in (is_open d first w old is_in good) honest c.in-Ok.disk now (g.met.D.Disk.laws c.in-Ok.disk now) (c.in-Ok.ensures.any_moment honest) (c.in-Ok.ensures.only honest))

pub returns-in-Err-clause-step_err : goal.returns-in-Err-clause-step_err
returns-in-Err-clause-step_err g c =
    let d = g.D.Disk in
    let in_ = c.self.inside in
    let good = ap (λ r. r.file.failed) c.self.view_is ∙ c.requires in
    let old = recorder_state in_.file in_.shape.chain in_.tail in_.kept in_.held in_.most in
    rw (← c.self.view_is)
    (λ first w is_in honest.
    faulted_flush d first w old is_in (is_open d first w old is_in good) honest c.in-Err.file (c.in-Err.ensures.frame_err.honest.0 honest) (ap (λ f. f.failed) c.in-Err.ensures.failed) (c.in-Err.ensures.front honest)
    (c.in-Err.ensures.any_moment_err honest))
