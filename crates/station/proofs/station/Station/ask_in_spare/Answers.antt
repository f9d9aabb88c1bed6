use Rattle.std.proofs.Common.{◌≡◌, refl, sym, ◌∙◌, ap, inl, inr}
use Rattle.serve_hub.specs.Parts.{serials_in}
use Rattle.serve_clients.specs.Client.{ClientState, with_stage}
use Rattle.serve_clients.specs.declared.client.Stage.TheVariants.{Offering}
use Rattle.station_hub.specs.declared.live_hub.LiveHub.{LiveHub}
use Rattle.station_sources.specs.declared.air.Feeder.TheVariants.{Peer}
use Rattle.slab.specs.Slab.{get}
use Rattle.station.specs.Asked.{moved}
use Rattle.station.specs.Found.{placed, same_client}
use Rattle.serve_sources.specs.declared.asking.Asks.TheVariants as Asks
use Rattle.station.proofs.Asked.{air_stays, begins_none, file_not_more, file_not_source, is_set, is_unset, more_of_source, no_other, offers, own_not_more, own_not_source, sourced}
use Rattle.station.proofs.Offered.{others_placed}
use Rattle.station.proofs.Spared.{asks_file, asks_own, asks_stream, awaits_more}
use Rattle.station.proofs.station.Station.ask_in_spare.Goals as goal

pub returns-in-More-clause-asks : goal.returns-in-More-clause-asks
returns-in-More-clause-asks g c client is =
    let same : c.in-Some.client.now ≡ client = same_client c.in-Some.client.now client (c.in-Some.ensures.value ∙ is) in
    let new = c.ask.new.client in (
      new,
      placed c.args.self.now.clients.slots c.args.key client new is,
      inl (awaits_more c.args.bytes.now client c.notice.new.client new (c.notice.ensures ∙ ap moved same) c.in-More.ensures.asks),
    )

pub returns-in-Source-clause-asks : goal.returns-in-Source-clause-asks
returns-in-Source-clause-asks g c client is =
    let same : c.in-Some.client.now ≡ client = same_client c.in-Some.client.now client (c.in-Some.ensures.value ∙ is) in
    let old = c.args.self.now in
    let new = c.offer.new.self in
    let (after, left, (stays, source, set, goes)) =
    offers g.D.Disk old.options.password c.args.bytes.now old.live.hub new.live.hub old.clients.slots c.args.key client c.notice.new.client c.ask.new.client _
    (get new.clients.slots c.args.key) is (c.notice.ensures ∙ ap moved same) c.in-Source.ensures.asks
    (is_set old.options.password (sym c.is_some.ensures ∙ c.if-is_some.true)) (ap (λ (live : LiveHub _). live.hub) c.offer.ensures.live) refl
    (ap (λ (one : ClientState). one.session) c.client.view_is) c.offer.ensures.source in
    (after, left, inr (inl (source, set, goes)))

pub returns-in-Own-clause-asks : goal.returns-in-Own-clause-asks
returns-in-Own-clause-asks g c client is =
    let same : c.in-Some.client.now ≡ client = same_client c.in-Some.client.now client (c.in-Some.ensures.value ∙ is) in
    let (after, left, answered) = c.answer_in_spare.ensures.answers c.ask.new.client (placed c.args.self.now.clients.slots c.args.key client c.ask.new.client is) in (
      after,
      left,
      inr (inr (inl (asks_own c.args.bytes.now c.in-Own.resource c.in-Own.head client c.notice.new.client c.ask.new.client after (c.notice.ensures ∙ ap moved same)
          c.in-Own.ensures.asks answered))),
    )

pub returns-in-Source-2-clause-asks : goal.returns-in-Source-2-clause-asks
returns-in-Source-2-clause-asks g c client is =
    let same : c.in-Some.client.now ≡ client = same_client c.in-Some.client.now client (c.in-Some.ensures.value ∙ is) in
    let old = c.args.self.now in
    let (after, left, last) = c.decline.ensures.told c.ask.new.client (placed old.clients.slots c.args.key client c.ask.new.client is) in (
      after,
      left,
      inr (inr (inr (asks_stream old.options.password c.args.bytes.now client c.notice.new.client c.ask.new.client after (c.notice.ensures ∙ ap moved same)
          c.in-Source-2.ensures.asks (is_unset old.options.password (sym c.is_some.ensures ∙ c.if-is_some.false)) last))),
    )

pub returns-in-File-clause-asks : goal.returns-in-File-clause-asks
returns-in-File-clause-asks g c client is =
    let same : c.in-Some.client.now ≡ client = same_client c.in-Some.client.now client (c.in-Some.ensures.value ∙ is) in
    let old = c.args.self.now in
    let (after, left, last) = c.decline-in-File.ensures.told c.ask.new.client (placed old.clients.slots c.args.key client c.ask.new.client is) in (
      after,
      left,
      inr (inr (inr (asks_file old.options.password c.args.bytes.now client c.notice.new.client c.ask.new.client after (c.notice.ensures ∙ ap moved same)
          c.in-File.ensures.asks last))),
    )

pub returns-in-More-clause-begins : goal.returns-in-More-clause-begins
returns-in-More-clause-begins g c free = begins_none (serials_in c.args.self.now.live.hub.file) c.args.self.now.options.skeletons c.args.self.now.air free

pub returns-in-More-clause-air : goal.returns-in-More-clause-air
returns-in-More-clause-air g c = air_stays (Peer c.args.key) c.args.self.now.air c.args.self.now.air refl

pub returns-in-More-clause-others : goal.returns-in-More-clause-others
returns-in-More-clause-others g c other apart = others_placed c.args.self.now.clients.slots c.args.key c.ask.new.client other apart

pub returns-in_default-clause-begins : goal.returns-in_default-clause-begins
returns-in_default-clause-begins g c free = begins_none (serials_in c.args.self.now.live.hub.file) c.args.self.now.options.skeletons c.args.self.now.air free

pub returns-in_default-clause-air : goal.returns-in_default-clause-air
returns-in_default-clause-air g c = air_stays (Peer c.args.key) c.args.self.now.air c.args.self.now.air refl

pub returns-in_default-clause-others : goal.returns-in_default-clause-others
returns-in_default-clause-others g c other apart = refl

pub returns-in-Own-clause-begins : goal.returns-in-Own-clause-begins
returns-in-Own-clause-begins g c free =
    begins_none (serials_in c.args.self.now.live.hub.file) c.args.self.now.options.skeletons c.answer_in_spare.new.self.air (c.answer_in_spare.ensures.air ∙ free)

pub returns-in-Own-clause-air : goal.returns-in-Own-clause-air
returns-in-Own-clause-air g c = air_stays (Peer c.args.key) c.args.self.now.air c.answer_in_spare.new.self.air c.answer_in_spare.ensures.air

pub returns-in-Own-clause-others : goal.returns-in-Own-clause-others
returns-in-Own-clause-others g c other apart = c.answer_in_spare.ensures.others other apart ∙ others_placed c.args.self.now.clients.slots c.args.key _ other apart

pub returns-in-Source-2-clause-begins : goal.returns-in-Source-2-clause-begins
returns-in-Source-2-clause-begins g c free =
    begins_none (serials_in c.args.self.now.live.hub.file) c.args.self.now.options.skeletons c.decline.new.self.air (c.decline.ensures.air ∙ free)

pub returns-in-Source-2-clause-air : goal.returns-in-Source-2-clause-air
returns-in-Source-2-clause-air g c = air_stays (Peer c.args.key) c.args.self.now.air c.decline.new.self.air c.decline.ensures.air

pub returns-in-Source-2-clause-others : goal.returns-in-Source-2-clause-others
returns-in-Source-2-clause-others g c other apart = c.decline.ensures.others other apart ∙ others_placed c.args.self.now.clients.slots c.args.key _ other apart

pub returns-in-File-clause-begins : goal.returns-in-File-clause-begins
returns-in-File-clause-begins g c free =
    begins_none (serials_in c.args.self.now.live.hub.file) c.args.self.now.options.skeletons c.decline-in-File.new.self.air (c.decline-in-File.ensures.air ∙ free)

pub returns-in-File-clause-air : goal.returns-in-File-clause-air
returns-in-File-clause-air g c = air_stays (Peer c.args.key) c.args.self.now.air c.decline-in-File.new.self.air c.decline-in-File.ensures.air

pub returns-in-File-clause-others : goal.returns-in-File-clause-others
returns-in-File-clause-others g c other apart = c.decline-in-File.ensures.others other apart ∙ others_placed c.args.self.now.clients.slots c.args.key _ other apart

pub returns-in-Source-clause-begins : goal.returns-in-Source-clause-begins
returns-in-Source-clause-begins g c = c.offer.ensures.begins

pub returns-in-Source-clause-others : goal.returns-in-Source-clause-others
returns-in-Source-clause-others g c other apart = c.offer.ensures.others other apart ∙ others_placed c.args.self.now.clients.slots c.args.key _ other apart

-- ---- a source
pub returns-in-More-clause-sourced : goal.returns-in-More-clause-sourced
returns-in-More-clause-sourced g c client is source set =
    let same : c.in-Some.client.now ≡ client = same_client c.in-Some.client.now client (c.in-Some.ensures.value ∙ is) in
    let new = c.ask.new.client in
    let (lacks, cuts) = more_of_source c.args.bytes.now client c.notice.new.client new (c.notice.ensures ∙ ap moved same) source c.in-More.ensures.source in
    (new, placed c.args.self.now.clients.slots c.args.key client new is, inl (refl, lacks, cuts))

pub returns-in-Source-clause-sourced : goal.returns-in-Source-clause-sourced
returns-in-Source-clause-sourced g c client is source set =
    let same : c.in-Some.client.now ≡ client = same_client c.in-Some.client.now client (c.in-Some.ensures.value ∙ is) in
    let old = c.args.self.now in
    let new = c.offer.new.self in
    sourced c.args.key c.args.now c.args.bytes.now old.options.password old.options.skeletons (serials_in old.live.hub.file) old.air new.air old.clients.slots client
    c.notice.new.client c.ask.new.client _ (get new.clients.slots c.args.key) is (c.notice.ensures ∙ ap moved same) c.in-Source.ensures.asks
    (ap (with_stage Offering) c.client.view_is) c.offer.ensures.leads

pub returns-in-Own-clause-sourced : goal.returns-in-Own-clause-sourced
returns-in-Own-clause-sourced g c client is source set =
    let same : c.in-Some.client.now ≡ client = same_client c.in-Some.client.now client (c.in-Some.ensures.value ∙ is) in
    absurd (no_other (Asks.Own c.in-Own.resource c.in-Own.head) c.args.bytes.now client c.notice.new.client c.ask.new.client (c.notice.ensures ∙ ap moved same) source
    (own_not_source c.in-Own.resource c.in-Own.head) (own_not_more c.in-Own.resource c.in-Own.head) c.in-Own.ensures.source)

pub returns-in-Source-2-clause-sourced : goal.returns-in-Source-2-clause-sourced
returns-in-Source-2-clause-sourced g c client is source set =
    absurd (set (is_unset c.args.self.now.options.password (sym c.is_some.ensures ∙ c.if-is_some.false)))

pub returns-in-File-clause-sourced : goal.returns-in-File-clause-sourced
returns-in-File-clause-sourced g c client is source set =
    let same : c.in-Some.client.now ≡ client = same_client c.in-Some.client.now client (c.in-Some.ensures.value ∙ is) in
    absurd (no_other Asks.File c.args.bytes.now client c.notice.new.client c.ask.new.client (c.notice.ensures ∙ ap moved same) source
    file_not_source file_not_more c.in-File.ensures.source)
