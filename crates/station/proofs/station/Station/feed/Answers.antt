use Rattle.std.proofs.Common.{◌≡◌, ◌⊎◌, Option, Some, length, refl, sym, ◌∙◌, subst}
use Rattle.station_sources.specs.Air.{HoldsMore, IsShort}
use Rattle.station_sources.specs.declared.air.OnAir.{OnAir}
use Rattle.station.specs.Keeping.{IsFedMore}
use Rattle.station.proofs.station.Station.feed.Goals as goal

same_air : (one other : OnAir) → Some one ≡ Some other → one ≡ other
same_air one other e = cc

pub returns-then-is-clause-noted : goal.returns-then-is-clause-noted
returns-then-is-clause-noted g c air is feeder =
    let same : c.in-Some.air ≡ air = same_air c.in-Some.air air (sym c.in-Some.is ∙ is) in
    (c.take.new.self, refl, subst (λ (one : OnAir). HoldsMore c.args.bytes.now one c.take.new.self ⊎ IsShort (length c.args.bytes.now) one c.take.new.self) same c.take.ensures.kept)

pub returns-then-is-clause-fed : goal.returns-then-is-clause-fed
returns-then-is-clause-fed g c =
    subst (λ (one : Option OnAir). IsFedMore c.args.feeder c.args.bytes.now one (Some c.take.new.self)) (sym c.in-Some.is) (
      λ same. (c.take.new.self, refl, c.take.ensures.feeder, c.take.ensures.kept),
      λ apart. absurd (apart (sym c.feeder.ensures ∙ c.is.ensures.yes c.if-is.true)),
    )
