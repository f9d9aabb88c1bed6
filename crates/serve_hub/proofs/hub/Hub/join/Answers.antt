use Rattle.serve_hub.proofs.hub.Hub.join.Goals as goal

pub returns-clause-machine : goal.returns-clause-machine
returns-clause-machine g c =
    let in_ = c.self.inside in
    rw (← c.self.view_is)
    (λ machine s.
    let (place, indexed) = c.join_from.ensures.shows in_.lost machine s.place s.indexed in
    record {
      place = place;
      linked = s.linked;
      indexed = indexed;
      sessions_are = s.sessions_are;
      next_is = s.next_is;
      most_is = s.most_is;
      room_is = s.room_is;
    })

pub returns-clause-joins : goal.returns-clause-joins
returns-clause-joins g c =
    let in_ = c.self.inside in
    rw (← c.self.view_is)
    (λ machine links moment s are place. c.join_from.ensures.joins in_.lost machine links moment s.place s.indexed are place)

pub returns-clause-cause : goal.returns-clause-cause
returns-clause-cause g c =
    let in_ = c.self.inside in
    rw (← c.self.view_is)
    (λ machine links moment s are place e. c.join_from.ensures.cause in_.lost machine links moment s.place s.indexed are place e)
