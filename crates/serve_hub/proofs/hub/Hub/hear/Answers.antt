use Rattle.serve_hub.proofs.hub.Hub.hear.Goals as goal

pub returns-clause-machine : goal.returns-clause-machine
returns-clause-machine g c =
    let in_ = c.self.inside in
    rw (← c.self.view_is)
    (λ machine s. record {
      place = c.hear_from.ensures.shows in_.lost machine s.place;
      linked = s.linked;
      indexed = s.indexed;
      sessions_are = s.sessions_are;
      next_is = s.next_is;
      most_is = s.most_is;
      room_is = s.room_is;
    })

pub returns-clause-hears : goal.returns-clause-hears
returns-clause-hears g c =
    let in_ = c.self.inside in
    rw (← c.self.view_is)
    (λ machine moment given s hearing. c.hear_from.ensures.hears in_.lost machine moment given s.place hearing)

pub returns-clause-cause : goal.returns-clause-cause
returns-clause-cause g c =
    let in_ = c.self.inside in
    rw (← c.self.view_is)
    (λ machine moment given s hearing e. c.hear_from.ensures.cause in_.lost machine moment given s.place hearing e)
