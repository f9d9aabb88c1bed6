use Rattle.std.proofs.Common.{rules}
use Rattle.ogg_page.specs.VisitingLaws.{has_shown}
use Rattle.ogg_split.specs.CopyingLaws.{fault_of_source}
use Rattle.ogg_finish.specs.Ends.{NotesPage}
use Rattle.ogg_finish.proofs.Passed.{all_noted}
use Rattle.ogg_finish.proofs.passes.find_ends.Goals as goal

pub returns-in-Ok-clause-found : goal.returns-in-Ok-clause-found
returns-in-Ok-clause-found g c pages sure are is =
    let s = g.S.PageSource in
    let shown = has_shown s.bytes s.is_honest s.size s.failures s.only_reads _ _ _ _ _ _ pages c.walk.ensures.walked c.requires.fresh sure are is in
    let noted = all_noted _ _ _ _ pages c.walk.result _ shown c.in-Ok.is in
    search rules

pub returns-in-Err-clause-cause : goal.returns-in-Err-clause-cause
returns-in-Err-clause-cause g c pages sure are is =
    let s = g.S.PageSource in
    let shown = has_shown s.bytes s.is_honest s.size s.failures s.only_reads _ _ _ _ _ _ pages c.walk.ensures.walked c.requires.fresh sure are is in
    (c.walk.ensures.cause c.requires.fresh).1 (fault_of_source (NotesPage (λ n. n.ends)) _ _ _ pages c.walk.result c.in-Err.field-0 shown c.in-Err.is)
