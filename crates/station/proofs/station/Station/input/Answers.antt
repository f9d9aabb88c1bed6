use Rattle.std.proofs.Common.{Option, ◌∙◌, ap, subst}
use Rattle.station_sources.specs.declared.air.Feeder.TheVariants.{Input}
use Rattle.station_sources.specs.declared.air.OnAir.{OnAir}
use Rattle.station.specs.Keeping.{IsFedMore}
use Rattle.station.proofs.Succeeding.{is_taken}
use Rattle.station.proofs.station.Station.input.Goals as goal
use Rattle.station.proofs.station.Station.input.Goals.{then-is_none+in_ok-begin_air, else-is_none}

pub returns-clause-begins : goal.returns-clause-begins
returns-clause-begins g c free = elim c.if-is_none.branch [
  | then-is_none+in_ok-begin_air w ↦
      let (air, is, begun) = w.in_ok-begin_air.ensures.begins in (
        air,
        begun,
        subst (λ (one : Option OnAir). IsFedMore Input c.args.bytes.now one c.feed.new.self.air) (ap (λ s. s.air) w.self-is ∙ is) c.feed.ensures.fed,
      )
  | else-is_none w ↦ absurd (is_taken c.args.self.now.air w.if-is_none.ensures free)
]
