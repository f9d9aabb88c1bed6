use Rattle.archive_history.proofs.NewFiles.{leaves_names, leaves_both}
use Rattle.archive_history.proofs.laws.calls_leave_names.Goals as goal

pub returns-clause-once : goal.returns-clause-once
returns-clause-once g c = λ old new bound honest. leaves_names g.F.Folder.names g.F.Folder.moment g.F.Folder.left_since bound old new (g.met.F.Folder.laws old honest)

pub returns-clause-twice : goal.returns-clause-twice
returns-clause-twice g c = λ old mid new bound second. leaves_both g.F.Folder.moment g.F.Folder.left_since bound second old mid new
