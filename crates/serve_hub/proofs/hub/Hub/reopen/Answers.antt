use Rattle.std.proofs.Common.{Some, ◌∙◌}
use Rattle.serve_machine.specs.Hub.{Reopen}
use Rattle.serve_hub.proofs.Linked.{linked_reopen}
use Rattle.serve_hub.proofs.Sessions.{goes_on}
use Rattle.serve_hub.proofs.hub.Hub.reopen.Goals as goal

pub returns-in-Ok-clause-step : goal.returns-in-Ok-clause-step
returns-in-Ok-clause-step g c =
    let d = g.D.Disk in
    let in_ = c.self.inside in
    rw (← c.self.view_is)
    (λ before s.
    let over = c.take_disk-disk.ensures.over before s.place in
    let (after, place, step, keeps) = c.in-Ok.ensures.found before over s.most_is in (
      after,
      goes_on d in_.file in_.lost in_.index in_.sessions.items in_.next in_.most in_.most_sessions before s (Some c.in-Ok.recorder) _ after (Reopen (Some after.committed)) c.sessions_stay.ensures place
          (linked_reopen before after (Some after.committed) step s.linked) step
          keeps.sessions keeps.numbers keeps.room in_.most (keeps.group ∙ s.most_is),
      step,
    ))
