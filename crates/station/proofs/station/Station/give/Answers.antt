use Rattle.std.proofs.Common.{◌≡◌, Bool, Some, length, ◌∙◌, ap, subst}
use Rattle.serve_clients.specs.Client.{ClientState, given}
use Rattle.station_hub.specs.Giving.{Gives}
use Rattle.station.specs.Found.{placed, same_client}
use Rattle.station.proofs.station.Station.give.Goals as goal

pub returns-clause-gives : goal.returns-clause-gives
returns-clause-gives g c client is =
    let same : c.in-Some.client.now ≡ client = same_client c.in-Some.client.now client (c.in-Some.ensures.value ∙ is) in
    let after = c.give-count.new.client in (
      after,
      subst (λ (one : ClientState). Gives g.D.Disk c.args.self.now.live.hub c.give-count.new.self.hub (length c.args.buffer.now) one c.give-count.result c.give-count.new.buffer after) same
          (record {
            again = c.give-count.ensures.again;
            pulls = c.give-count.ensures.pulls;
            cause = c.give-count.ensures.cause;
            hears = c.give-count.ensures.hears;
            lost = c.give-count.ensures.lost;
            nothing = c.give-count.ensures.nothing;
            unconnected = c.give-count.ensures.unconnected;
            keeps = c.give-count.ensures.keeps;
            goes_on = c.give-count.ensures.goes_on;
            rest = c.give-count.ensures.rest;
          }),
      placed c.args.self.now.clients.slots c.args.key client c.given.new.self is ∙ ap Some (c.given.ensures ∙ ap (λ (over : Bool). given c.give-count.result over c.args.now after) c.is_over-over.ensures),
    )
