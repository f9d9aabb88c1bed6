use Rattle.std.proofs.Common.{ℕ, ◌+◌, List, refl, sym, ◌∙◌, subst}
use Rattle.gate_file.specs.Commit.{CommitsTo}
use Rattle.gate_file.specs.Gate.{EachImage}
use Rattle.gate_file.specs.GateFile.{committed, staged_bytes}
use Rattle.file_recorder.specs.Recorder.{recorder_state}
use Rattle.file_recorder.proofs.Lasting.{not_failed, never, nothing_staged, same_front}
use Rattle.file_recorder.proofs.Opened.{none_staged, nothing_in}
use Rattle.file_recorder.proofs.Stepping.{flushed, faulted_flush}
use Rattle.file_recorder.proofs.recorder.Recorder.flush.Goals as goal

pub returns-then-self-eq0-clause-any_moment : goal.returns-then-self-eq0-clause-any_moment
returns-then-self-eq0-clause-any_moment g c =
    let d = g.D.Disk in
    let file = c.self.inside.file in
    rw (← c.self.view_is)
    (λ honest good. nothing_staged d file.disk (committed d.state file) (staged_bytes d.state file) (g.met.D.Disk.laws file.disk honest) (c.self.invariant.images good honest))

pub returns-then-self-eq0-clause-step : goal.returns-then-self-eq0-clause-step
returns-then-self-eq0-clause-step g c =
    let d = g.D.Disk in
    let in_ = c.self.inside in
    let file = in_.file in
    let good = sym c.is_failed.ensures ∙ c.if-is_failed.false in
    let nothing = c.self.invariant.empty good c.if-self-eq0.true in
    let old = recorder_state in_.file in_.shape.chain in_.tail in_.kept in_.held in_.most in
    rw (← c.self.view_is)
    (λ first w is_in opened honest. flushed d first w old is_in opened honest old honest good nothing c.if-self-eq0.true (sym (none_staged d.state file nothing))
    (nothing_staged d file.disk (committed d.state file) (staged_bytes d.state file) (g.met.D.Disk.laws file.disk honest) (c.self.invariant.images good honest))
    (subst (λ (l : List ℕ). EachImage (d.state file.disk) (CommitsTo l)) (sym (none_staged d.state file nothing)) (c.self.invariant.images good honest)))

pub returns-in-Err-clause-step : goal.returns-in-Err-clause-step
returns-in-Err-clause-step g c =
    let d = g.D.Disk in
    let in_ = c.self.inside in
    let file = c.commit.new.self in
    rw (← c.self.view_is)
    (λ first w is_in opened honest. faulted_flush d first w _ is_in opened honest file
    (c.commit.ensures.frame.honest.0 honest) (c.in-Err.ensures.failed.1 refl)
    (same_front in_.file.end file.end (d.state file.disk).contents (committed d.state in_.file) c.in-Err.ensures.end_err (c.commit.ensures.front honest)) (c.commit.ensures.any_moment honest))

pub returns-clause-step : goal.returns-clause-step
returns-clause-step g c =
    let d = g.D.Disk in
    let in_ = c.self.inside in
    let file = c.commit.new.self in
    rw (← c.self.view_is)
    (λ first w is_in opened honest. flushed d first w _ is_in opened honest
    (recorder_state file in_.shape.chain in_.tail (in_.kept + in_.held) 0 in_.most) (c.commit.ensures.frame.honest.0 honest)
    (not_failed file.failed (λ bad. never (c.in-Ok.ensures.failed.0 bad))) c.in-Ok.ensures.none refl (c.in-Ok.ensures.grown honest) (c.commit.ensures.any_moment honest) (c.in-Ok.ensures.only honest))

pub returns-then-self-eq0-clause-none_waits : goal.returns-then-self-eq0-clause-none_waits
returns-then-self-eq0-clause-none_waits g c =
    rw (← c.self.view_is) (nothing_in g.D.Disk.state c.self.inside.file (c.self.invariant.empty (sym c.is_failed.ensures ∙ c.if-is_failed.false) c.if-self-eq0.true))

pub returns-clause-none_waits : goal.returns-clause-none_waits
returns-clause-none_waits g c = nothing_in g.D.Disk.state c.commit.new.self c.in-Ok.ensures.none
