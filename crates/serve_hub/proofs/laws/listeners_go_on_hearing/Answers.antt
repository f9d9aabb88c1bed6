use Rattle.serve_hub.proofs.Lasting.{by_step, by_steps}
use Rattle.serve_hub.proofs.laws.listeners_go_on_hearing.Goals as goal

pub returns : goal.returns
returns c =
    let hears = c.listeners_hear_what_they_should.ensures.grows in
    let grow = c.committed_bytes_grow.ensures in
    record { step = by_step hears grow.grows grow.sound; steps = by_steps hears grow.grows grow.sound }
