use Rattle.std.proofs.Common.{rules, ◌≡◌, Option, Some, refl, ◌∙◌, ap, subst}
use Rattle.serve_clients.specs.Client.{ClientState, with_line}
use Rattle.serve_clients.specs.Line.{moved_on}
use Rattle.slab.specs.Slab.{get}
use Rattle.serve_clients.specs.declared.clients.Clients.{Clients}
use Rattle.station.specs.Found.{placed, same_client}
use Rattle.station.specs.Passing.{IsLike, OffersOn, has_offered, is_source}
use Rattle.station_sources.specs.declared.air.Feeder.TheVariants.{Peer}
use Rattle.station.proofs.Asked.{air_stays, begins_none, feeds_on}
use Rattle.station.proofs.Passed.{line_like, source_is}
use Rattle.station.proofs.Waited.{found_offered}
use Rattle.station.proofs.station.Station.take_in.Goals as goal

pub returns-in-Feeding-clause-offers : goal.returns-in-Feeding-clause-offers
returns-in-Feeding-clause-offers g c client is source =
    let same : c.in-Some.client.now ≡ client = same_client c.in-Some.client.now client (c.in-Some.ensures.value ∙ is) in
    feeds_on c.args.self.now.clients.slots c.feed.new.self.clients.slots c.args.key client _ is (ap (λ (clients : Clients). clients.slots) c.feed.ensures.clients) c.in-Feeding.is
    (ap (λ (one : ClientState). one.session) c.client.view_is ∙ ap (λ (one : ClientState). one.session) c.notice.ensures ∙ ap (λ (one : ClientState). one.session) same)

pub returns-in_default-stage : goal.returns-in_default-stage
returns-in_default-stage g c =
    let old = c.args.self.now in
    let new = c.notice.new.client in
    let likes : (client : ClientState) → get old.clients.slots c.args.key ≡ Some client → IsLike client new =
    λ client is. subst (λ (one : ClientState). IsLike one new) (same_client c.in-Some.client.now client (c.in-Some.ensures.value ∙ is)) (line_like c.in-Some.client.now new _ c.notice.ensures) in
    record {
      offers = λ client is source. (
        new,
        placed old.clients.slots c.args.key client new is,
        (ap has_offered (likes client is).0 ∙ (source_is client source).0, (likes client is).1),
      );
      ignores = λ client is nothing. (new, placed old.clients.slots c.args.key client new is, likes client is);
      feeds = λ client is stage. absurd (c.in_default-stage.not-Feeding (ap (λ (one : ClientState). one.stage) c.client.view_is ∙ (likes client is).0 ∙ stage));
      heard = λ client is stage. absurd (c.in_default-stage.not-Feeding (ap (λ (one : ClientState). one.stage) c.client.view_is ∙ (likes client is).0 ∙ stage));
      air = air_stays (Peer c.args.key) old.air old.air refl;
      begins = begins_none _ _ old.air;
      others = search rules;
      live = refl;
      clocks = refl;
      offered = λ client is stage. absurd (c.in_default-stage.not-Offering (ap (λ (one : ClientState). one.stage) c.client.view_is ∙ (likes client is).0 ∙ stage));
      waits = λ client is stage. (
        placed old.clients.slots c.args.key client new is
            ∙ ap Some (c.notice.ensures
            ∙ ap (λ (one : ClientState). with_line (moved_on one.line) one) (same_client c.in-Some.client.now client (c.in-Some.ensures.value ∙ is))),
        refl,
      );
    }

pub returns-in-Offering-clause-offers : goal.returns-in-Offering-clause-offers
returns-in-Offering-clause-offers g c client is source =
    let slots = c.args.self.now.clients.slots in
    let new = c.notice.new.client in
    let found = get c.offer.new.self.clients.slots c.args.key in
    let same : c.in-Some.client.now ≡ client = same_client c.in-Some.client.now client (c.in-Some.ensures.value ∙ is) in
    let like : IsLike client new = subst (λ (one : ClientState). IsLike one new) same (line_like c.in-Some.client.now new _ c.notice.ensures) in
    let (after, left, goes) =
    found_offered found new (subst (λ (one : Option ClientState). OffersOn one found) (placed slots c.args.key client new is) c.offer.ensures.source)
    (ap is_source like.0 ∙ source) in
    (after, left, (goes.0, goes.1 ∙ like.1))
