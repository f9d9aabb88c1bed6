use Rattle.std.proofs.Common.{◌≡◌, Some, None, sym, ◌∙◌, ap, arith}
use Rattle.serve_sessions.specs.Sessions.{place_in}
use Rattle.serve_hub.proofs.Sessions.{closes, closes_none}
use Rattle.serve_hub.proofs.hub.Hub.close.Goals as goal

pub returns-in-Some-clause-step : goal.returns-in-Some-clause-step
returns-in-Some-clause-step g c =
    let d = g.D.Disk in
    let in_ = c.self.inside in
    let at : place_in c.args.id in_.sessions.items ≡ Some c.in-Some.field-0 = ap (place_in c.args.id) (sym c.as_slice.ensures.value) ∙ sym c.place_of.ensures ∙ c.in-Some.is in
    rw (← c.self.view_is)
    (λ before s. closes d in_.file in_.lost in_.index in_.sessions.items in_.next in_.most in_.most_sessions before s c.args.id c.in-Some.field-0 c.drop_session.new.sessions.items at
    c.drop_session.ensures.items)

pub returns-in-None-clause-step : goal.returns-in-None-clause-step
returns-in-None-clause-step g c =
    let d = g.D.Disk in
    let in_ = c.self.inside in
    let at : place_in c.args.id in_.sessions.items ≡ None = ap (place_in c.args.id) (sym c.as_slice.ensures.value) ∙ sym c.place_of.ensures ∙ c.in-None.is in
    rw (← c.self.view_is)
    (λ before s. closes_none d in_.file in_.lost in_.index in_.sessions.items in_.next in_.most in_.most_sessions before s c.args.id at)

pub invariant_of-self : goal.invariant_of-self
invariant_of-self g c =
    let inv = c.self.invariant in (
      record { one = inv.0.one; some = inv.0.some; few = inv.0.few; order = c.drop_session.ensures.order _ inv.0.order },
      inv.1,
      omega (arith, inv.2, c.drop_session.ensures.capacity),
    )
