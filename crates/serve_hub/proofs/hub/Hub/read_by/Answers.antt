use Rattle.serve_hub.specs.Parts.{hub_parts}
use Rattle.serve_hub.proofs.ReadBy.{reads_on}
use Rattle.serve_hub.proofs.hub.Hub.read_by.Goals as goal

pub returns-in-Some-clause-shown : goal.returns-in-Some-clause-shown
returns-in-Some-clause-shown g c =
    let in_ = c.self.inside in
    rw (← c.self.view_is)
    (rw c.replace.ensures.after
    (λ machine s settled failed honest same images.
    reads_on g.D.Disk (hub_parts in_.file in_.lost in_.index in_.sessions.items in_.next in_.most in_.most_sessions) in_.lost c.args.recorder machine s failed honest same images))
