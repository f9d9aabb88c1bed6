use Rattle.std.proofs.Common.{◌≡◌, Bool, true, false, Some, sym, ◌∙◌, ap, subst}
use Rattle.serve_clients.specs.Client.{ClientState, HasLast}
use Rattle.serve_sources.specs.declared.own.OwnResource.{OwnResource}
use Rattle.serve_sources.specs.declared.own.OwnResource.TheVariants.{Live}
use Rattle.serve_texts.specs.Player.{player_response}
use Rattle.station_hub.specs.Asking.{IsCutFor, Listens}
use Rattle.station.specs.Asked.{HasCause, IsAnswered, Joins}
use Rattle.station.specs.Found.{placed, same_client}
use Rattle.station.proofs.station.Station.answer.Goals as goal

pub returns-in-Live-clause-answers : goal.returns-in-Live-clause-answers
returns-in-Live-clause-answers g c client is =
    let same : c.in-Some.client.now ≡ client = same_client c.in-Some.client.now client (c.in-Some.ensures.value ∙ is) in
    let new = c.listen.new.client in (
      new,
      placed c.args.self.now.clients.slots c.args.key client new is,
      subst (λ (resource : OwnResource). IsAnswered resource c.args.head client new) (sym c.in-Live.is)
          (subst (λ (one : ClientState). Listens c.args.head one new) same c.listen.ensures.becomes),
      subst (λ (resource : OwnResource). Joins g.D.Disk resource c.args.head c.args.self.now.live.places c.args.self.now.live.hub new) (sym c.in-Live.is) (joins c.args.head),
      subst (λ (resource : OwnResource). HasCause g.D.Disk resource c.args.self.now.live.places c.args.self.now.live.hub c.listen.new.self.hub client new) (sym c.in-Live.is)
          (subst (λ (one : ClientState). IsCutFor g.D.Disk c.args.self.now.live.places c.args.self.now.live.hub c.listen.new.self.hub one new) same c.listen.ensures.cause),
    )
  where
    joins : (head : Bool) → Joins g.D.Disk Live head c.args.self.now.live.places c.args.self.now.live.hub c.listen.new.client
    joins false = c.listen.ensures.joins
    joins true = tt

pub returns-in-Player-clause-answers : goal.returns-in-Player-clause-answers
returns-in-Player-clause-answers g c client is =
    let same : c.in-Some.client.now ≡ client = same_client c.in-Some.client.now client (c.in-Some.ensures.value ∙ is) in
    let new = c.tell_player.new.self in (
      new,
      placed c.args.self.now.clients.slots c.args.key client new is,
      subst (λ (resource : OwnResource). IsAnswered resource c.args.head client new) (sym c.in-Player.is)
          (subst (λ (one : ClientState). HasLast (player_response c.args.head) one new) same c.tell_player.ensures),
      subst (λ (resource : OwnResource). Joins g.D.Disk resource c.args.head c.args.self.now.live.places c.args.self.now.live.hub new) (sym c.in-Player.is) tt,
      subst (λ (resource : OwnResource). HasCause g.D.Disk resource c.args.self.now.live.places c.args.self.now.live.hub c.args.self.now.live.hub client new) (sym c.in-Player.is) tt,
    )

pub returns-in-Status-clause-answers : goal.returns-in-Status-clause-answers
returns-in-Status-clause-answers g c client is =
    let same : c.in-Some.client.now ≡ client = same_client c.in-Some.client.now client (c.in-Some.ensures.value ∙ is) in
    let stands = placed c.args.self.now.clients.slots c.args.key client c.in-Some.client.now is ∙ ap Some same in
    let (after, left, answered) = c.tell_numbers.ensures.told client stands in (
      after,
      left,
      subst (λ (resource : OwnResource). IsAnswered resource c.args.head client after) (sym c.in-Status.is) answered,
      subst (λ (resource : OwnResource). Joins g.D.Disk resource c.args.head c.args.self.now.live.places c.args.self.now.live.hub after) (sym c.in-Status.is) tt,
      subst (λ (resource : OwnResource). HasCause g.D.Disk resource c.args.self.now.live.places c.args.self.now.live.hub c.tell_numbers.new.self.live.hub client after) (sym c.in-Status.is) tt,
    )
