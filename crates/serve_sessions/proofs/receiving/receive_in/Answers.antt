use Rattle.std.proofs.Common.{◌≡◌, List, Option, Some, true, Err, get_or, refl, sym, ◌∙◌, ap, subst}
use Rattle.serve_machine.specs.Hub.{Phase, receive_step}
use Rattle.serve_machine.specs.declared.fault.HubFault.TheVariants.{NoSession}
use Rattle.serve_sessions.specs.Indexing.{IsOfFront}
use Rattle.serve_sessions.specs.Sessions.{place_in}
use Rattle.serve_sessions.specs.declared.session.Session.{Session}
use Rattle.serve_sessions.proofs.Listed.{got_at, place_inside}
use Rattle.serve_sessions.proofs.Ordered.{order_back, rise_back}
use Rattle.serve_sessions.proofs.Steps.{none_there, receive_ok, receive_err}
use Rattle.serve_sessions.proofs.receiving.receive_in.Goals as goal

pub returns-in_default-clause-step : goal.returns-in_default-clause-step
returns-in_default-clause-step g c sure machine e front are =
    let none = none_there machine c.args.id _ are c.place_among.ensures.place c.in_default.not-Some in
    (machine.sessions, are, subst (λ (o : Option Phase). receive_step o true machine c.args.id c.args.bytes.now (Err NoSession) machine) (sym none) (refl, refl))

pub returns-in-Ok-clause-step : goal.returns-in-Ok-clause-step
returns-in-Ok-clause-step g c sure machine e front are =
    receive_ok machine e c.args.id are c.place_among.ensures.place c.in-Some.is c.as_mut_slice.ensures.value c.args.sessions.now.ok.0 c.index-as_mut_slice-place.result _ _ refl (c.in-Ok.ensures.phase sure (subst (λ k. IsOfFront k c.args.index.now) (sym e) front))

pub returns-in-Err-clause-step : goal.returns-in-Err-clause-step
returns-in-Err-clause-step g c sure machine e front are =
    receive_err machine e c.args.id are c.place_among.ensures.place c.in-Some.is c.as_mut_slice.ensures.value c.args.sessions.now.ok.0 c.index-as_mut_slice-place.result _ _ refl _ c.end_after.ensures.items (c.in-Err.ensures.phase sure (subst (λ k. IsOfFront k c.args.index.now) (sym e) front))

pub end_after-requires : goal.end_after-requires
end_after-requires g c = rise_back c.as_mut_slice.ensures.value c.args.sessions.now.ok.0 c.in-Some.place _ c.index-as_mut_slice-place.result _ refl c.requires.order

pub returns-in-Ok-clause-order : goal.returns-in-Ok-clause-order
returns-in-Ok-clause-order g c = order_back c.as_mut_slice.ensures.value c.args.sessions.now.ok.0 c.in-Some.place _ c.index-as_mut_slice-place.result _ refl

pub returns-in-Err-clause-order : goal.returns-in-Err-clause-order
returns-in-Err-clause-order g c next order = c.end_after.ensures.order next (order_back c.as_mut_slice.ensures.value c.args.sessions.now.ok.0 c.in-Some.place _ c.index-as_mut_slice-place.result _ refl next order)

pub returns-in-Err-clause-memory : goal.returns-in-Err-clause-memory
returns-in-Err-clause-memory g c e =
    let items = c.args.sessions.now.items in
    let d = c.index-as_mut_slice-place.result in
    let at : place_in c.args.id items ≡ Some c.in-Some.place = sym c.place_among.ensures.place ∙ c.in-Some.is in
    record {
      place = c.in-Some.place;
      session = get_or c.as_mut_slice.result.now c.in-Some.place d;
      found = at;
      is =
          got_at items c.in-Some.place d (place_inside c.args.id c.in-Some.place items at)
          ∙ ap (λ (l : List Session). Some (get_or l c.in-Some.place d)) (sym c.as_mut_slice.ensures.value);
      lacks = c.in-Err.ensures.memory e;
    }
