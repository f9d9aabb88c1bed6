use Rattle.std.proofs.Common.{sym, subst}
use Rattle.record_actions.proofs.Looking.{OnlyLooks, err_looks, ok_looks}
use Rattle.record_actions.proofs.tails.find_tail.Goals as goal

pub returns-in-Ok-clause-any_moment : goal.returns-in-Ok-clause-any_moment
returns-in-Ok-clause-any_moment g c =
    let d = g.D.Disk in
    let given = sym c.give_back.ensures in
    ok_looks d c.unless_sound.result c.args.disk c.give_back.result
    (λ honest. subst (λ (mid : _). OnlyLooks d c.args.disk mid) given (c.in-Ok.ensures.opens.any_moment honest))
    (λ honest. subst d.is_honest given (c.in-Ok.ensures.opens.frame.honest.0 honest))
    (λ honest. g.met.D.Disk.laws c.give_back.result honest)
    c.unless_sound.ensures.any_moment

pub returns-in-Ok-clause-any_moment_err : goal.returns-in-Ok-clause-any_moment_err
returns-in-Ok-clause-any_moment_err g c =
    let d = g.D.Disk in
    let given = sym c.give_back.ensures in
    err_looks d c.unless_sound.result c.args.disk c.give_back.result
    (λ honest. subst (λ (mid : _). OnlyLooks d c.args.disk mid) given (c.in-Ok.ensures.opens.any_moment honest))
    (λ honest. subst d.is_honest given (c.in-Ok.ensures.opens.frame.honest.0 honest))
    (λ honest. g.met.D.Disk.laws c.give_back.result honest)
    c.unless_sound.ensures.any_moment_err
