use Rattle.std.proofs.Common.{◌<◌, sym, ap, ◌∙◌, subst}
use Rattle.std.specs.Prelude.{IfSome}
use Rattle.serve_sessions.specs.Sessions.{place_in}
use Rattle.serve_sessions.proofs.Listed.{all_inside}
use Rattle.serve_sessions.proofs.session.place_among.Goals as goal

pub returns-clause-inside : goal.returns-clause-inside
returns-clause-inside c =
    subst (λ n. IfSome c.place_of.result (λ place. place < n)) (sym c.args.sessions.now.ok.0)
    (all_inside c.args.id c.args.sessions.now.items c.place_of.result (c.place_of.ensures ∙ ap (place_in c.args.id) c.as_slice.ensures.value))
