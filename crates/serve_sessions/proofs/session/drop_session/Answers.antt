use Rattle.std.proofs.Common.{◌≡◌, Some, None, List, sym, ap, subst, ◌∙◌, arith}
use Rattle.link_chain.specs.Laws.Walked.{no_fault_there}
use Rattle.serve_machine.specs.Hub.{without_in}
use Rattle.serve_sessions.specs.Sessions.{AreInOrder, AreSessions, place_in}
use Rattle.serve_sessions.specs.declared.session.Session.{Session as SessionParts}
use Rattle.serve_sessions.proofs.Listed.{others, place_inside}
use Rattle.serve_sessions.proofs.Ordered.{is_left, order_filtered}
use Rattle.serve_sessions.proofs.session.drop_session.Goals as goal

pub remove-ended-requires : goal.remove-ended-requires
remove-ended-requires c =
    let items = c.args.sessions.now.items in
    let at : place_in c.args.id items ≡ Some c.in-Some.place = ap (place_in c.args.id) (sym c.as_slice.ensures.value) ∙ sym c.place_of.ensures ∙ c.in-Some.is in
    omega (arith, place_inside c.args.id c.in-Some.place items at, c.args.sessions.now.ok.0)

pub returns-in-Some-clause-items : goal.returns-in-Some-clause-items
returns-in-Some-clause-items c committed machine are =
    let items = c.args.sessions.now.items in
    let at : place_in c.args.id items ≡ Some c.in-Some.place = ap (place_in c.args.id) (sym c.as_slice.ensures.value) ∙ sym c.place_of.ensures ∙ c.in-Some.is in
    subst (λ (l : List SessionParts). AreSessions committed l (without_in c.args.id machine))
    (is_left c.args.id items (Some c.in-Some.place) c.requires at ∙ sym c.remove-ended.ensures.items) (others committed c.args.id items machine are)

pub returns-in-Some-clause-order : goal.returns-in-Some-clause-order
returns-in-Some-clause-order c next order =
    let items = c.args.sessions.now.items in
    let at : place_in c.args.id items ≡ Some c.in-Some.place = ap (place_in c.args.id) (sym c.as_slice.ensures.value) ∙ sym c.place_of.ensures ∙ c.in-Some.is in
    subst (AreInOrder next) (is_left c.args.id items (Some c.in-Some.place) c.requires at ∙ sym c.remove-ended.ensures.items) (order_filtered c.args.id next items order)

pub returns-in_default-clause-items : goal.returns-in_default-clause-items
returns-in_default-clause-items c committed machine are =
    let items = c.args.sessions.now.items in
    let at : place_in c.args.id items ≡ None = ap (place_in c.args.id) (sym c.as_slice.ensures.value) ∙ sym c.place_of.ensures ∙ no_fault_there c.place_of.result c.in_default.not-Some in
    subst (λ (l : List SessionParts). AreSessions committed l (without_in c.args.id machine)) (is_left c.args.id items None c.requires at) (others committed c.args.id items machine are)
