use Rattle.std.proofs.Common.{◌≡◌, ◌∙◌, subst}
use Rattle.serve_clients.specs.Client.{ClientState, HasLast}
use Rattle.serve_texts.specs.Status.{status_response}
use Rattle.station.specs.Found.{placed, same_client}
use Rattle.station.proofs.station.Station.tell_numbers.Goals as goal

pub returns-in-Some-clause-told : goal.returns-in-Some-clause-told
returns-in-Some-clause-told g c client is =
    let same : c.in-Some.client.now ≡ client = same_client c.in-Some.client.now client (c.in-Some.ensures.value ∙ is) in
    let new = c.tell_status.new.self in (
      new,
      placed c.args.self.now.clients.slots c.args.key client new is,
      (c.numbers-numbers.result, subst (λ (one : ClientState). HasLast (status_response c.numbers-numbers.result c.args.head) one new) same c.tell_status.ensures),
    )
