use Rattle.std.proofs.Common.{ℕ, ◌<◌, ◌^◌, [], List, IfOk, rules, sym, subst}
use Rattle.link_chain.specs.Links.{AreLinks}
use Rattle.serve_live.specs.Hearing.{IsHearing}
use Rattle.serve_hub.specs.Images.{Fails}
use Rattle.serve_sessions.specs.Indexing.{IsOfFront}
use Rattle.serve_hub.proofs.FileRead.{if_both, was_read}
use Rattle.serve_hub.proofs.Heard.{place_file}
use Rattle.serve_hub.proofs.listening.join_from.Goals as goal

pub returns-in-Some-clause-disk : goal.returns-in-Some-clause-disk
returns-in-Some-clause-disk g c =
    let d = g.D.Disk in
    let kept = c.join_in-answer.ensures.source in
    if_both _ _ _ _ _ c.in-Some.ensures.source c.close_window.ensures.file
    (was_read d _ _ kept.only.0 kept.only.1 c.join_in-answer.ensures.later)

pub returns-in-Some-clause-joins : goal.returns-in-Some-clause-joins
returns-in-Some-clause-joins g c lost machine links moment s front are place =
    let d = g.D.Disk in
    let r = c.in-Some.window.source in
    let f = place_file d c.args.file.now r lost machine c.in-Some.ensures.source s in
    subst (λ (b : List ℕ). IfOk c.join_in-answer.result (λ listener. IsHearing moment b listener [])) (sym f.committed_is)
    (c.join_in-answer.ensures.joins links moment (f.honest, c.in-Some.ensures.inside f.honest) (subst (λ (b : List ℕ). IsOfFront b c.args.index.now) f.committed_is front)
    (subst (λ (b : List ℕ). AreLinks b links) f.committed_is are) place)

pub returns-in-Some-clause-cause : goal.returns-in-Some-clause-cause
returns-in-Some-clause-cause g c lost machine links moment s front are place e =
    let d = g.D.Disk in
    let r = c.in-Some.window.source in
    let f = place_file d c.args.file.now r lost machine c.in-Some.ensures.source s in
    let short : r.file.end < 2 ^ 63 = search rules in
    if_both (Fails d) _ _ r _ c.in-Some.ensures.source c.close_window.ensures.file
    (c.join_in-answer.ensures.cause links moment (f.honest, c.in-Some.ensures.inside f.honest) short (subst (λ (b : List ℕ). IsOfFront b c.args.index.now) f.committed_is front)
    (subst (λ (b : List ℕ). AreLinks b links) f.committed_is are) place e)
