use Rattle.std.proofs.Common.{◌≡◌, Result, Err, ap}
use Rattle.std.specs.Prelude.{⊤}
use Rattle.fault_lines.specs.declared.fault.Fault.{Fault}
use Rattle.fault_lines.specs.declared.fault.Fault.TheVariants.{Finish}
use Rattle.ogg_finish.specs.declared.fault.FinishFault.{FinishFault}
use Rattle.file_actions.proofs.finishing.write_finished.Goals as goal

same_fault : (a b : FinishFault) → ◌≡◌ {A = Result ⊤ Fault} (Err (Finish a)) (Err (Finish b)) → a ≡ b
same_fault a b e = cc

pub returns-in-Err-clause-cause : goal.returns-in-Err-clause-cause
returns-in-Err-clause-cause g c = λ links honest indexed told. c.in-Err.ensures.cause links honest indexed (ap Err (same_fault _ _ told))

pub returns-in-Err-finish_file-clause-cause : goal.returns-in-Err-finish_file-clause-cause
returns-in-Err-finish_file-clause-cause g c = λ links honest indexed told. c.in-Err-finish_file.ensures.cause links honest indexed (ap Err (same_fault _ _ told))
