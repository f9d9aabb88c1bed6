use Rattle.std.proofs.Common.{option_map, refl}
use Rattle.serve_responses.specs.Response.{asked_by, response}
use Rattle.serve_sessions.proofs.receiving.respond.Goals as goal

pub returns-in-Ok-of-clause-response : goal.returns-in-Ok-of-clause-response
returns-in-Ok-of-clause-response g c sure front received asks =
    let s = g.S.PageSource in
    let (links, are, is) = c.in-Ok.ensures.whole sure front in
    let asked = option_map asked_by c.args.request in (
      response links asked,
      record { links = links; are_links = are; asked = asked; asks = asks; whole = refl },
      c.in-Ok-of.ensures (s.bytes c.args.window.now.source) links are is,
    )
