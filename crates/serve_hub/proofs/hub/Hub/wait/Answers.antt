use Rattle.std.proofs.Common.{ℕ, [], subst}
use Rattle.serve_live.specs.Joined.{IsNew}
use Rattle.serve_hub.proofs.hub.Hub.wait.Goals as goal

pub returns : goal.returns
returns g c =
    let in_ = c.self.inside in
    rw (← c.self.view_is)
    (λ machine s.
    let end_is = c.end_in.ensures machine s.place in
    c.listeners_hear_what_they_should.ensures.waits machine.committed c.wait.result
    (subst (λ (n : ℕ). IsNew n 0 n [] c.wait.result) end_is c.wait.ensures))
