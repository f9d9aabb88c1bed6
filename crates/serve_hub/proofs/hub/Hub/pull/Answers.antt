use Rattle.std.proofs.Common.{arith}
use Rattle.serve_hub.proofs.hub.Hub.pull.Goals as goal

pub invariant_of-self : goal.invariant_of-self
invariant_of-self g c =
    let inv = c.self.invariant in (
      record { one = λ none. inv.0.one (c.pull_from.ensures.stays none); some = inv.0.some; few = inv.0.few; order = c.pull_from.ensures.order _ inv.0.order },
      c.pull_from.ensures.room,
      omega (arith, inv.2, c.pull_from.ensures.capacity),
    )

pub returns-clause-step : goal.returns-clause-step
returns-clause-step g c =
    let in_ = c.self.inside in
    rw (← c.self.view_is)
    (λ before s.
    let (left, place, are, step) = c.pull_from.ensures.step in_.lost before s.place s.sessions_are in (
      record before { sessions = left },
      record {
        place = place;
        linked = s.linked;
        indexed = s.indexed;
        sessions_are = are;
        next_is = s.next_is;
        most_is = s.most_is;
        room_is = s.room_is;
      },
      step,
    ))
