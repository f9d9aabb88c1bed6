use Rattle.serve_hub.proofs.FileRead.{if_both, was_read}
use Rattle.serve_hub.proofs.reading.pull_from.Goals as goal

pub returns-in-Some-clause-disk : goal.returns-in-Some-clause-disk
returns-in-Some-clause-disk g c =
    let d = g.D.Disk in
    let kept = c.pull_in-answer.ensures.source in
    if_both _ _ _ _ _ c.in-Some.ensures.source c.close_window.ensures.file
    (was_read d _ _ kept.only.0 kept.only.1 c.pull_in-answer.ensures.later)
