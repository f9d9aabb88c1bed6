use Rattle.std.proofs.Common.{[], IfOk, ap, sym, ◌∙◌, subst, arith}
use Rattle.link_chain.specs.Links.{AreLinks}
use Rattle.link_index.specs.Adding.{IsIndexOf}
use Rattle.serve_live.specs.Hearing.{IsHearing}
use Rattle.serve_machine.specs.declared.fault.HubFault.TheVariants.{Source}
use Rattle.serve_sessions.proofs.Joined.{later_failed, same_fault}
use Rattle.serve_sessions.proofs.joining.join_in.Goals as goal

pub returns-in-Ok-clause-joins : goal.returns-in-Ok-clause-joins
returns-in-Ok-clause-joins g c links moment sure front are place =
    let s = g.S.PageSource in
    let (all, same, is) = c.in-Ok.ensures.whole sure front in
    let one = c.bytes_are_one_chain.ensures.links (s.bytes c.args.window.now.source) all links same are in
    let lent = c.source_mut.ensures.value in
    let kept = c.bring_up.ensures.source in
    let bytes_are = ap s.bytes lent ∙ kept.bytes_same sure in
    subst (λ b. IfOk c.join_source.result (λ listener. IsHearing moment b listener [])) bytes_are
    (c.join_source.ensures.joins links moment (subst s.is_honest (sym lent) (kept.honest_same.0 sure)) (subst (λ b. AreLinks b links) (sym bytes_are) are)
    (subst (λ l. IsIndexOf l c.bring_up.new.index) one is) place)

pub returns-in-Ok-clause-cause : goal.returns-in-Ok-clause-cause
returns-in-Ok-clause-cause g c links moment sure short front are place e =
    let s = g.S.PageSource in
    let (all, same, is) = c.in-Ok.ensures.whole sure front in
    let one = c.bytes_are_one_chain.ensures.links (s.bytes c.args.window.now.source) all links same are in
    let lent = c.source_mut.ensures.value in
    let kept = c.bring_up.ensures.source in
    let bytes_are = ap s.bytes lent ∙ kept.bytes_same sure in
    let failed = c.join_source.ensures.cause links moment (subst s.is_honest (sym lent) (kept.honest_same.0 sure)) (subst (λ b. AreLinks b links) (sym bytes_are) are)
    (subst (λ l. IsIndexOf l c.bring_up.new.index) one is) place e in
    later_failed _ _ _ (omega (arith, c.bring_up.ensures.later, ap s.failures lent)) failed

pub returns-in-Err-clause-cause : goal.returns-in-Err-clause-cause
returns-in-Err-clause-cause g c links moment sure short front are place e = c.in-Err.ensures.cause (same_fault c.in-Err.fault Source e) sure short front links are
