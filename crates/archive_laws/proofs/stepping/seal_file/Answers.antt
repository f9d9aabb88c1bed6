use Rattle.archive_laws.proofs.Calls.{seal_comes}
use Rattle.archive_laws.proofs.stepping.seal_file.Goals as goal

pub returns-in-Ok-clause-step : goal.returns-in-Ok-clause-step
returns-in-Ok-clause-step g c = λ first w is_in honest.
    let told = c.in-Ok.ensures in
    (seal_comes g.D.Disk first w c.args.recorder c.in-Ok.disk is_in c.requires.good honest (told.frame.honest.0 honest) (told.any_moment honest)).0

pub returns-in-Err-clause-step_err : goal.returns-in-Err-clause-step_err
returns-in-Err-clause-step_err g c = λ first w is_in honest.
    let told = c.in-Err.ensures in
    (seal_comes g.D.Disk first w c.args.recorder c.in-Err.fault.1 is_in c.requires.good honest (told.frame_err.honest.0 honest) (told.any_moment_err honest)).1
