use Rattle.std.proofs.Common.{◌≡◌, ◌++◌, List, ℕ, sym, ◌∙◌, ap, subst, option_map, option_copied, option_and_then}
use Rattle.std.specs.Prelude.{IfOk}
use Rattle.std.proofs.lemmas.Bool.{cond-false}
use Rattle.ogg_http.specs.Answer.{answer_head}
use Rattle.ogg_http.specs.Target.{resource_of}
use Rattle.ogg_http.specs.declared.answer.Answer.TheVariants.{BadRequest}
use Rattle.serve_responses.specs.Response.{Response, asked_by, content_of, lacks_host, response, response_by, without_content}
use Rattle.serve_sending.specs.Sending.{IsLeft}
use Rattle.serve_sending.proofs.sending.Sending.of.Goals as goal

pub returns-else-lacks_host : goal.returns-else-lacks_host
returns-else-lacks_host c committed links are is =
    let request = c.in-Some.request in
    let content = option_and_then (content_of links) (resource_of request.target.now) in
    let made = response_by request.verb (option_copied request.range) content in
    let has = sym c.lacks_host.ensures ∙ c.if-lacks_host.false in
    let whole : response links (option_map asked_by c.args.request) ≡ answer_head made.answer ++ made.content =
    ap (λ o. response links (option_map asked_by o)) c.in-Some.is
    ∙ ap (λ (w : Response). answer_head w.answer ++ w.content) (cond-false (lacks_host (asked_by request)) (without_content BadRequest) made has) in
    subst (λ (bytes : List ℕ). IfOk c.respond.result (λ s. IsLeft committed s bytes)) (sym whole) (c.respond.ensures committed content (c.find-found.ensures committed links are is))
