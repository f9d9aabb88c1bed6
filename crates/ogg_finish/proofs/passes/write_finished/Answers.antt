use Rattle.std.proofs.Common.{refl, ◌∙◌, ap, rules, Ok}
use Rattle.ogg_page.specs.VisitingLaws.{has_shown}
use Rattle.ogg_split.specs.CopyingLaws.{few_left, all_written, some_written, fault_of_source}
use Rattle.ogg_split.specs.Copying.{CopiesPart}
use Rattle.ogg_finish.specs.Ends.{finished_part}
use Rattle.ogg_finish.proofs.Passed.{finished_text, part_fits}
use Rattle.ogg_finish.proofs.passes.write_finished.Goals as goal

pub returns-in-GoesOn-clause-copied : goal.returns-in-GoesOn-clause-copied
returns-in-GoesOn-clause-copied g c pages sure are is =
    let s = g.S.PageSource in
    let shown = has_shown s.bytes s.is_honest s.size s.failures s.only_reads _ _ _ _ _ _ pages c.walk.ensures.walked c.requires.fresh sure are is in
    let all = all_written g.W.Write.contents _ _ _ _ _ _ pages _ c.walk.result shown (c.in-Ok.is ∙ ap Ok c.in-GoesOn.is) (part_fits c.args.ends.now) refl (few_left s.bytes c.args.window.now pages is c.requires.short) (finished_text c.args.ends.now pages) in
    search rules

pub returns-in-Ends-clause-copied : goal.returns-in-Ends-clause-copied
returns-in-Ends-clause-copied g c pages sure are is =
    let s = g.S.PageSource in
    let shown = has_shown s.bytes s.is_honest s.size s.failures s.only_reads _ _ _ _ _ _ pages c.walk.ensures.walked c.requires.fresh sure are is in
    let wrote = some_written g.W.Write.contents _ _ _ _ _ _ pages _ c.walk.result shown (finished_text c.args.ends.now pages) in
    search rules

pub returns-in-Err-clause-copied : goal.returns-in-Err-clause-copied
returns-in-Err-clause-copied g c pages sure are is =
    let s = g.S.PageSource in
    let shown = has_shown s.bytes s.is_honest s.size s.failures s.only_reads _ _ _ _ _ _ pages c.walk.ensures.walked c.requires.fresh sure are is in
    let wrote = some_written g.W.Write.contents _ _ _ _ _ _ pages _ c.walk.result shown (finished_text c.args.ends.now pages) in
    search rules

pub returns-in-Err-clause-cause : goal.returns-in-Err-clause-cause
returns-in-Err-clause-cause g c pages sure are is why =
    let s = g.S.PageSource in
    let shown = has_shown s.bytes s.is_honest s.size s.failures s.only_reads _ _ _ _ _ _ pages c.walk.ensures.walked c.requires.fresh sure are is in
    (c.walk.ensures.cause c.requires.fresh).1 (fault_of_source (CopiesPart g.W.Write.contents (λ f. f.out) (λ f. f.count) (λ f. finished_part f.ends.now)) _ _ _ pages c.walk.result c.in-Err.field-0 shown c.in-Err.is)
