use Rattle.std.proofs.Common.{◌∙◌, ap, Result, Ok, Err, MatchResult}
use Rattle.file_recorder.specs.Recorder.{recorder_state}
use Rattle.file_recorder.proofs.Stepping.{sealed}
use Rattle.file_recorder.proofs.recorder.Recorder.seal.Goals as goal

both : {T E : Type 0} {P Q R : T → Type 0} {S U V : E → Type 0} (r : Result T E) → MatchResult r P S → MatchResult r Q U → ((x : T) → P x → Q x → R x) → ((e : E) → S e → U e → V e) → MatchResult r R V
both (Ok x) p q ok err = ok x p q
both (Err e) p q ok err = err e p q

pub returns-clause-step : goal.returns-clause-step
returns-clause-step g c =
    let d = g.D.Disk in
    let in_ = c.self.inside in
    let good = ap (λ r. r.file.failed) c.self.view_is ∙ c.requires.good in
    rw (← c.self.view_is)
    (both c.seal.result c.seal.ensures.frame c.seal.ensures.any_moment
    (λ disk frame leaves first w is_in honest. (sealed d first w (recorder_state in_.file in_.shape.chain in_.tail in_.kept in_.held in_.most) is_in good honest disk (frame.honest.0 honest) (leaves honest)).0) (λ _ _ _. tt))

pub returns-clause-step_err : goal.returns-clause-step_err
returns-clause-step_err g c =
    let d = g.D.Disk in
    let in_ = c.self.inside in
    let good = ap (λ r. r.file.failed) c.self.view_is ∙ c.requires.good in
    rw (← c.self.view_is)
    (both c.seal.result c.seal.ensures.frame_err c.seal.ensures.any_moment_err (λ _ _ _. tt)
    (λ e frame leaves first w is_in honest. (sealed d first w (recorder_state in_.file in_.shape.chain in_.tail in_.kept in_.held in_.most) is_in good honest e.1 (frame.honest.0 honest) (leaves honest)).1))

pub returns-clause-sealed : goal.returns-clause-sealed
returns-clause-sealed g c = rw (← c.self.view_is) c.seal.ensures.sealed

pub returns-clause-front : goal.returns-clause-front
returns-clause-front g c = rw (← c.self.view_is) c.seal.ensures.front

pub returns-clause-any_moment : goal.returns-clause-any_moment
returns-clause-any_moment g c = rw (← c.self.view_is) c.seal.ensures.any_moment

pub returns-clause-any_moment_err : goal.returns-clause-any_moment_err
returns-clause-any_moment_err g c = rw (← c.self.view_is) c.seal.ensures.any_moment_err

pub returns-clause-frame : goal.returns-clause-frame
returns-clause-frame g c = rw (← c.self.view_is) c.seal.ensures.frame

pub returns-clause-frame_err : goal.returns-clause-frame_err
returns-clause-frame_err g c = rw (← c.self.view_is) c.seal.ensures.frame_err
