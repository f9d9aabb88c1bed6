use Rattle.std.proofs.Common.{◌≡◌, ℕ, List, Option, ◌++◌, sym, ◌∙◌, subst, ap, take, option_map, inr}
use Rattle.std.proofs.lemmas.List.{take_at}
use Rattle.ogg_http.specs.declared.head.Request.{Request}
use Rattle.serve_responses.specs.Response.{Asks, asked_by}
use Rattle.serve_sessions.proofs.Stages.{head_fault}
use Rattle.serve_sessions.proofs.receiving.receive_head.Goals.{in-Bad, in-Whole}
use Rattle.serve_sessions.proofs.receiving.receive_head.Goals as goal

pub returns-in-Err-respond-clause-head : goal.returns-in-Err-respond-clause-head
returns-in-Err-respond-clause-head g c sure front =
    let s = g.S.PageSource in
    let request : Option Request = c.match-find_head.request in
    let asks : Asks c.as_slice.result.now (option_map asked_by request) =
    elim c.match-find_head.branch [
      | in-Bad w ↦ subst (λ (o : Option Request). Asks c.as_slice.result.now (option_map asked_by o)) (sym w.request-is) (c.find_head.ensures.bad w.in-Bad.is)
      | in-Whole w ↦ subst (λ (o : Option Request). Asks c.as_slice.result.now (option_map asked_by o)) (sym w.request-is) w.in-Whole.ensures.whole
    ] in
    head_fault (s.bytes c.args.window.now.source) c.args.head.now.items c.args.bytes.now c.as_slice.result.now c.truncate.new.self.items c.in-Err-respond.fault (option_map asked_by request)
    (c.as_slice.ensures.value ∙ c.in-Ok.ensures.items) asks
    (c.truncate.ensures.items ∙ ap (take c.len-before.result) c.in-Ok.ensures.items ∙ take_at c.args.head.now.items c.args.bytes.now c.len-before.result (sym c.args.head.now.ok.0 ∙ sym c.len-before.ensures))
    c.in-Err-respond.ensures.faults

pub returns-in-Err-respond-clause-memory : goal.returns-in-Err-respond-clause-memory
returns-in-Err-respond-clause-memory g c e =
    let request : Option Request = c.match-find_head.request in
    let asks : Asks c.as_slice.result.now (option_map asked_by request) =
    elim c.match-find_head.branch [
      | in-Bad w ↦ subst (λ (o : Option Request). Asks c.as_slice.result.now (option_map asked_by o)) (sym w.request-is) (c.find_head.ensures.bad w.in-Bad.is)
      | in-Whole w ↦ subst (λ (o : Option Request). Asks c.as_slice.result.now (option_map asked_by o)) (sym w.request-is) w.in-Whole.ensures.whole
    ] in
    let whole : c.as_slice.result.now ≡ c.args.head.now.items ++ c.args.bytes.now = c.as_slice.ensures.value ∙ c.in-Ok.ensures.items in
    inr (option_map asked_by request, subst (λ (received : List ℕ). Asks received (option_map asked_by request)) whole asks)
