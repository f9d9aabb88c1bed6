use Rattle.std.proofs.Common.{◌∙◌}
use Rattle.serve_machine.specs.Hub.{Record}
use Rattle.serve_hub.proofs.Sessions.{goes_on}
use Rattle.serve_hub.proofs.hub.Hub.command.Goals as goal

pub returns-clause-step : goal.returns-clause-step
returns-clause-step g c =
    let d = g.D.Disk in
    let in_ = c.self.inside in
    rw (← c.self.view_is)
    (λ before s.
    let (after, place, step, keeps) = c.command_file.ensures.step in_.lost before s.place in (
      after,
      goes_on d in_.file in_.lost in_.index in_.sessions.items in_.next in_.most in_.most_sessions before s c.command_file.new.file in_.lost after (Record c.args.command.now c.command_file.result) c.sessions_stay.ensures place
          (c.command_file.ensures.linked in_.lost before after s.place step s.linked) step
          keeps.sessions keeps.numbers keeps.room in_.most (keeps.group ∙ s.most_is),
      step,
    ))
