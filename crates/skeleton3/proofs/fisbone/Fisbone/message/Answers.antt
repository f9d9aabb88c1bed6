use Rattle.std.proofs.Common.{rules, ◌∙◌, ap}
use Rattle.skeleton3.proofs.FisboneFacts.{has_no_fault, held_has_no_fault, written_with_holds, message_behind}
use Rattle.skeleton3.proofs.WrittenFields.{message_is_read}
use Rattle.skeleton3.specs.Fields.{fields_of}
use Rattle.skeleton3.proofs.fisbone.Fisbone.message.Goals as goal

pub returns-in_err-read-clause-fault : goal.returns-in_err-read-clause-fault
returns-in_err-read-clause-fault c = search rules

pub returns-in_err-read-clause-written : goal.returns-in_err-read-clause-written
returns-in_err-read-clause-written c fisbone fields value are same =
    absurd (has_no_fault c.read.result _ c.in_err-read.was (c.read.ensures.fault ∙ held_has_no_fault _ fisbone (written_with_holds _ fisbone fields value are same)))

pub returns-clause-fields : goal.returns-clause-fields
returns-clause-fields c = search rules

pub returns-clause-written : goal.returns-clause-written
returns-clause-written c fisbone fields value are same =
    cc (returns-clause-fields c, ap fields_of (message_behind _ fisbone fields same) ∙ message_is_read fisbone.media fields value are)
