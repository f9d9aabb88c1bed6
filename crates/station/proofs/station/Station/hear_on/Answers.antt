use Rattle.std.proofs.Common.{◌≡◌, Result, Ok, Err, ◌∙◌, ap, subst}
use Rattle.std.specs.Prelude.{OnOk}
use Rattle.serve_clients.specs.Client.{ClientState}
use Rattle.station.specs.Changing.{HearsOn}
use Rattle.station.specs.Found.{placed, same_client}
use Rattle.station.proofs.station.Station.hear_on.Goals as goal

on_ok : {X E P Q : Type 0} (r : Result X E) → OnOk r P → (P → Q) → OnOk r Q
on_ok (Ok x) is goes = goes is
on_ok (Err e) is goes = tt

pub returns-in-Some-clause-on : goal.returns-in-Some-clause-on
returns-in-Some-clause-on g c =
    on_ok c.go_on.result c.go_on.ensures.on (λ goes client heard found hears.
    let same : c.in-Some.client.now ≡ client = same_client c.in-Some.client.now client (c.in-Some.ensures.value ∙ found) in (
      c.go_on.new.client,
      placed c.args.self.now.clients.slots c.args.key client c.go_on.new.client found,
      subst (λ (one : ClientState). HearsOn c.args.begun c.args.streams.now c.args.next.now heard one c.go_on.new.client) same
          (goes heard (ap (λ (one : ClientState). one.listener) same ∙ hears)),
    ))
