use Rattle.std.proofs.Common.{◌≡◌, ◌⊎◌, ℕ, Some, List, length, drop, ◌∙◌, ap, subst, inl, inr}
use Rattle.slab.specs.Slab.{get}
use Rattle.serve_clients.specs.Client.{ClientState, cut_for_memory}
use Rattle.station_sources.specs.Air.{HoldsMore, IsShort}
use Rattle.station.specs.Found.{placed, same_client}
use Rattle.station.specs.Offering.{Feeds}
use Rattle.station.proofs.Results.{err_of, ok_of}
use Rattle.station.proofs.station.Station.take_the_air.Goals as goal

pub returns-then-is_err-clause-takes : goal.returns-then-is_err-clause-takes
returns-then-is_err-clause-takes g c client is =
    let begun = c.begin_air-begun in
    let slots = begun.new.self.clients.slots in
    let stands : get slots c.args.key ≡ Some client = ap (λ clients. get clients.slots c.args.key) begun.ensures.clients ∙ is in
    let same : c.in-Some.client.now ≡ client = same_client c.in-Some.client.now client (c.in-Some.ensures.value ∙ stands) in (
      c.lack_memory.new.self,
      placed slots c.args.key client c.lack_memory.new.self stands,
      inl (err_of _ begun.result c.is_err.result c.is_err.ensures.value c.if-is_err.true begun.ensures.err ∙ c.requires.free, c.lack_memory.ensures ∙ ap cut_for_memory same),
    )

pub returns-clause-takes : goal.returns-clause-takes
returns-clause-takes g c client is =
    let begun = c.begin_air-begun in
    let slots = begun.new.self.clients.slots in
    let stands : get slots c.args.key ≡ Some client = ap (λ clients. get clients.slots c.args.key) begun.ensures.clients ∙ is in
    let same : c.in-Some.client.now ≡ client = same_client c.in-Some.client.now client (c.in-Some.ensures.value ∙ stands) in
    let (air, has_air, begins) = ok_of _ begun.result c.is_err.result c.is_err.ensures.value c.if-is_err.false begun.ensures.begins in
    let (source, is_source, feeder, holds) = c.take_behind.ensures air has_air in
    let front : c.as_slice.result.now ≡ client.head =
    c.as_slice.ensures.value ∙ ap (λ (one : ClientState). one.head) c.client.view_is ∙ ap (λ (one : ClientState). one.head) same in (
      c.feed_on.new.client,
      placed slots c.args.key client c.feed_on.new.client stands,
      inr (
        source,
        is_source,
        record {
          begun = air;
          begins = begins;
          feeder = feeder ∙ begins.feeder;
          holds = subst (λ (head : List ℕ). HoldsMore (drop c.args.used head) air source ⊎ IsShort (length (drop c.args.used head)) air source) front holds;
        },
        subst (λ (one : ClientState). Feeds c.args.answer.now c.args.now one c.feed_on.new.client) same c.feed_on.ensures,
      ),
    )
