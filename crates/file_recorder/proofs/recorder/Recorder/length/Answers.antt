use Rattle.std.proofs.Common.{◌∙◌}
use Rattle.file_recorder.proofs.Lengths.{as_long}
use Rattle.file_recorder.proofs.recorder.Recorder.length.Goals as goal

pub returns-clause-bytes : goal.returns-clause-bytes
returns-clause-bytes g c =
    let d = g.D.Disk in
    let in_ = c.self.inside in
    rw (← c.self.view_is)
    (λ good honest. c.len.ensures ∙ as_long _ in_.shape.chain (c.self.invariant.all good honest))
