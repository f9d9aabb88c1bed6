use Rattle.std.proofs.Common.{◌∙◌, ap, subst, Ok, Err}
use Rattle.ogg_page.specs.Visiting.{HasWalked}
use Rattle.ogg_page.specs.declared.visiting.Visit.TheVariants.{GoesOn}
use Rattle.gate_file.proofs.Passing.{passed_one, passed_on, goes_on, no_visit}
use Rattle.gate_file.proofs.visiting.pass_all.Goals as goal

pub returns-in-GoesOn-clause-passed : goal.returns-in-GoesOn-clause-passed
returns-in-GoesOn-clause-passed g c =
    let s = g.S.PageSource in
    let w = subst (λ r. HasWalked s.bytes s.is_honest s.size s.failures s.only_reads g.V.PageVisitor.sees c.args.window.now c.args.visitor.now r c.walk.new.window c.walk.new.visitor)
    (c.in-Ok.is ∙ ap Ok c.in-GoesOn.is) c.walk.ensures.walked in
    passed_one s.bytes s.is_honest s.size s.failures s.only_reads g.V.PageVisitor.sees c.args.window.now c.args.visitor.now (Ok GoesOn) c.walk.new.window c.walk.new.visitor w c.requires.fresh goes_on

pub returns-in-Ends-clause-passed : goal.returns-in-Ends-clause-passed
returns-in-Ends-clause-passed g c =
    let s = g.S.PageSource in
    let w = subst (λ r. HasWalked s.bytes s.is_honest s.size s.failures s.only_reads g.V.PageVisitor.sees c.args.window.now c.args.visitor.now r c.walk.new.window c.walk.new.visitor)
    (c.in-Ok.is ∙ ap Ok c.in-Ends.is) c.walk.ensures.walked in
    let (more, are, ends) = c.pass_rest.ensures.ends in
    passed_on s.bytes s.is_honest s.size s.failures s.only_reads g.V.PageVisitor.sees c.args.window.now c.args.visitor.now c.walk.new.window c.walk.new.visitor more c.pass_rest.result
    w c.requires.fresh are ends

pub returns-in-Err-clause-passed : goal.returns-in-Err-clause-passed
returns-in-Err-clause-passed g c =
    let s = g.S.PageSource in
    let w = subst (λ r. HasWalked s.bytes s.is_honest s.size s.failures s.only_reads g.V.PageVisitor.sees c.args.window.now c.args.visitor.now r c.walk.new.window c.walk.new.visitor)
    c.in-Err.is c.walk.ensures.walked in
    passed_one s.bytes s.is_honest s.size s.failures s.only_reads g.V.PageVisitor.sees c.args.window.now c.args.visitor.now (Err c.in-Err.fault) c.walk.new.window c.walk.new.visitor w c.requires.fresh
    (no_visit c.in-Err.fault)
