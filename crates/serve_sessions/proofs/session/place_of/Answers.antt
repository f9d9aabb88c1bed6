use Rattle.std.proofs.Common.{rules, sym, ap, ◌∙◌}
use Rattle.std.proofs.lemmas.List.Sorted.{answers_always}
use Rattle.serve_sessions.proofs.Ordered.{answer_of, searched}
use Rattle.serve_sessions.proofs.session.place_of.Goals as goal

pub returns-in-Ok : goal.returns-in-Ok
returns-in-Ok c =
    let facts = c.binary_search_by_key.ensures in
    let by_key = facts.position (λ s. s.id) (answers_always _ _ _ (λ f a r g called. search rules)) in
    sym (ap answer_of c.in-Ok.is) ∙ searched c.args.id c.args.sessions.now _ c.requires facts.bound by_key

pub returns-in-Err : goal.returns-in-Err
returns-in-Err c =
    let facts = c.binary_search_by_key.ensures in
    let by_key = facts.position (λ s. s.id) (answers_always _ _ _ (λ f a r g called. search rules)) in
    sym (ap answer_of c.in-Err.is) ∙ searched c.args.id c.args.sessions.now _ c.requires facts.bound by_key
