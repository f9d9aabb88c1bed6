use Rattle.std.proofs.Common.{◌≡◌, Option, None, sym, ◌∙◌, subst}
use Rattle.serve_hub.specs.Parts.{serials_in}
use Rattle.serve_sources.specs.declared.offer.Offer.{Offer}
use Rattle.station_sources.specs.declared.air.OnAir.{OnAir}
use Rattle.station.specs.Offering.{Leads, TakesOrWaits}
use Rattle.station.proofs.Succeeding.{is_free}
use Rattle.station.proofs.station.Station.take_up.Goals as goal

pub returns-else-is_some-clause-leads : goal.returns-else-is_some-clause-leads
returns-else-is_some-clause-leads g c client is =
    let old = c.args.self.now in
    let new = c.take_the_air.new.self in
    let serials = serials_in old.live.hub.file in
    let (after, left, gets) = c.take_the_air.ensures.takes client is in
    let free : old.air ≡ None = is_free old.air (sym c.is_some.ensures ∙ c.if-is_some.false) in (
      after,
      left,
      subst (λ (offer : Offer). Leads c.args.key c.args.now old.options.skeletons serials offer old.air new.air client after) (sym c.in-Body.is)
          (subst (λ (air : Option OnAir). TakesOrWaits c.args.key c.in-Body.used c.in-Body.body c.in-Body.answer.now c.args.now old.options.skeletons serials air new.air client after)
          (sym free) gets),
    )
