use Rattle.std.proofs.Common.{◌+◌, List, [], ◌++◌, ◌∷◌, refl, sym, subst}
use Rattle.serve_machine.specs.Hub.{Session, Reading}
use Rattle.serve_sessions.specs.Sessions.{AreInOrder, AreSessions}
use Rattle.serve_sessions.specs.declared.session.Session.{Session as SessionParts}
use Rattle.serve_sessions.proofs.Listed.{one_more}
use Rattle.serve_sessions.proofs.Ordered.{order_appended}
use Rattle.serve_sessions.proofs.session.add_session.Goals as goal

pub returns-clause-items : goal.returns-clause-items
returns-clause-items c committed machine are =
    let new : Session = record { id = c.args.id; phase = Reading [] } in
    subst (λ (l : List SessionParts). AreSessions committed l (machine ++ new ∷ [])) (sym c.push_reserved.ensures.items)
    (one_more committed c.args.sessions.now.items machine _ new are (refl, c.new.ensures.items))

pub returns-clause-order : goal.returns-clause-order
returns-clause-order c order =
    subst (AreInOrder (c.args.id + 1)) (sym c.push_reserved.ensures.items) (order_appended c.args.sessions.now.items _ order)
