use Rattle.std.proofs.Common.{◌≡◌, ◌++◌, List, Result, Err, ◌∙◌, ap, subst, inr}
use Rattle.ogg_command.specs.declared.command.Command.{Command}
use Rattle.import_record.specs.Steps.{BeginsLink}
use Rattle.import_record.specs.declared.fault.RecordFault.{RecordFault}
use Rattle.import_record.specs.declared.fault.RecordFault.TheVariants.{Memory}
use Rattle.import_record.specs.declared.intake.Taken.{Taken}
use Rattle.import_record.proofs.reading.ImportRun.finish.Goals as goal

err_is : (fault : RecordFault) → (let r : Result Taken RecordFault = Err fault in r) ≡ Err Memory → fault ≡ Memory
err_is fault e = cc

pub returns-in-Err-run-clause-memory : goal.returns-in-Err-run-clause-memory
returns-in-Err-run-clause-memory g c = λ is.
    let (more, appended, gives) = c.in-Ok.ensures.gives in
    let all : c.finish.new.commands.items ≡ more = appended ∙ ap (λ (l : List Command). l ++ more) c.new-commands.ensures.items in
    inr (more, gives, subst BeginsLink all (c.in-Err-run.ensures.memory (ap Err (err_is c.in-Err-run.fault is))))
