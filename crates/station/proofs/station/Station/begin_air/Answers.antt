use Rattle.std.proofs.Common.{ℕ, List, refl, ◌∙◌, ap, subst}
use Rattle.serve_hub.specs.Parts.{HubParts, serials_in}
use Rattle.station_sources.specs.Beginning.{HasBegun}
use Rattle.station.specs.Beginning.{options_for}
use Rattle.station.proofs.station.Station.begin_air.Goals as goal

pub returns-clause-begins : goal.returns-clause-begins
returns-clause-begins g c = (
  c.in_ok-new.field-0,
  refl,
  subst (λ (serials : List ℕ). HasBegun c.args.feeder c.args.body (options_for c.args.self.now.options.skeletons) serials c.in_ok-new.field-0)
      (c.serials-serials.ensures.serials ∙ ap (λ (hub : HubParts _). serials_in hub.file) c.hub.ensures) c.in_ok-new.ensures,
)
