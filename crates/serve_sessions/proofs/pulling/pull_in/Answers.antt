use Rattle.std.proofs.Common.{Option, true, Err, length, refl, sym, subst}
use Rattle.serve_machine.specs.Hub.{Phase, pull_step}
use Rattle.serve_machine.specs.declared.fault.HubFault.TheVariants.{NoSession}
use Rattle.serve_sessions.proofs.Ordered.{order_back, rise_back}
use Rattle.serve_sessions.proofs.Steps.{none_there, of_phase, pull_ok, pull_err}
use Rattle.serve_sessions.proofs.pulling.pull_in.Goals as goal

pub returns-in_default-clause-step : goal.returns-in_default-clause-step
returns-in_default-clause-step g c sure machine e are =
    let none = none_there machine c.args.id _ are c.place_among.ensures.place c.in_default.not-Some in
    (machine.sessions, are, subst (λ (o : Option Phase). pull_step o true machine c.args.id (length c.args.buffer.now) (Err NoSession) machine) (sym none) (refl, refl))

pub returns-in-Ok-clause-step : goal.returns-in-Ok-clause-step
returns-in-Ok-clause-step g c sure machine e are = pull_ok machine e c.args.id are c.place_among.ensures.place c.in-Some.is c.as_mut_slice.ensures.value c.args.sessions.now.ok.0 c.index-as_mut_slice-place.result _ _ refl (c.in-Ok.ensures.phase sure)

pub returns-in-Err-clause-step : goal.returns-in-Err-clause-step
returns-in-Err-clause-step g c sure machine e are =
    pull_err machine e c.args.id are c.place_among.ensures.place c.in-Some.is c.as_mut_slice.ensures.value c.args.sessions.now.ok.0 c.index-as_mut_slice-place.result _ _ refl _ c.end_after.ensures.items (c.in-Err.ensures.phase sure)

pub returns-in-Err-clause-cause : goal.returns-in-Err-clause-cause
returns-in-Err-clause-cause g c is sure machine e are = of_phase machine e c.args.id are c.place_among.ensures.place c.in-Some.is c.as_mut_slice.ensures.value _ c.index-as_mut_slice-place.result (c.in-Err.ensures.cause is sure)

pub end_after-requires : goal.end_after-requires
end_after-requires g c = rise_back c.as_mut_slice.ensures.value c.args.sessions.now.ok.0 c.in-Some.place _ c.index-as_mut_slice-place.result _ refl c.requires.order

pub returns-in-Ok-clause-order : goal.returns-in-Ok-clause-order
returns-in-Ok-clause-order g c = order_back c.as_mut_slice.ensures.value c.args.sessions.now.ok.0 c.in-Some.place _ c.index-as_mut_slice-place.result _ refl

pub returns-in-Err-clause-order : goal.returns-in-Err-clause-order
returns-in-Err-clause-order g c next order = c.end_after.ensures.order next (order_back c.as_mut_slice.ensures.value c.args.sessions.now.ok.0 c.in-Some.place _ c.index-as_mut_slice-place.result _ refl next order)
