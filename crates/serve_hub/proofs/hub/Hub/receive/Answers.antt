use Rattle.std.proofs.Common.{arith, inl, refl}
use Rattle.serve_hub.proofs.hub.Hub.receive.Goals as goal

pub invariant_of-self : goal.invariant_of-self
invariant_of-self g c =
    let inv = c.self.invariant in (
      record { one = λ none. inv.0.one (c.receive_from.ensures.stays none); some = inv.0.some; few = inv.0.few; order = c.receive_from.ensures.order _ inv.0.order },
      c.receive_from.ensures.room,
      omega (arith, inv.2, c.receive_from.ensures.capacity),
    )

pub returns-clause-step : goal.returns-clause-step
returns-clause-step g c =
    let in_ = c.self.inside in
    rw (← c.self.view_is)
    (λ before s.
    let (left, place, indexed, are, step) = c.receive_from.ensures.step in_.lost before s.place s.indexed s.sessions_are in (
      record before { sessions = left },
      record {
        place = place;
        linked = s.linked;
        indexed = indexed;
        sessions_are = are;
        next_is = s.next_is;
        most_is = s.most_is;
        room_is = s.room_is;
      },
      step,
    ))

pub returns-clause-cause : goal.returns-clause-cause
returns-clause-cause g c =
    let in_ = c.self.inside in
    rw (← c.self.view_is)
    (λ is machine s.
    let (links, are) = s.linked machine.committed (inl refl) in
    c.receive_from.ensures.cause is in_.lost machine s.place s.indexed links are)
