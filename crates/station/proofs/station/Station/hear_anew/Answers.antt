use Rattle.std.proofs.Common.{◌≡◌, Some, ◌∙◌, ap}
use Rattle.serve_clients.specs.Client.{ClientState}
use Rattle.station.specs.Found.{placed, same_client}
use Rattle.station.proofs.station.Station.hear_anew.Goals as goal

pub returns-in-Some-clause-hears : goal.returns-in-Some-clause-hears
returns-in-Some-clause-hears g c client found =
    let same : c.in-Some.client.now ≡ client = same_client c.in-Some.client.now client (c.in-Some.ensures.value ∙ found) in (
      c.hear_by.new.client,
      placed c.args.self.now.clients.slots c.args.key client c.hear_by.new.client found,
      record {
        listener = c.wait.result;
        hears = ap (λ (one : ClientState). one.listener) c.hear_by.ensures;
        first = c.wait.ensures;
        rest = c.hear_by.ensures ∙ ap (λ (one : ClientState). record one { listener = Some c.wait.result }) same;
      },
    )
