use Rattle.std.proofs.Common.{refl, subst}
use Rattle.station_files.specs.Moving.{LetsGo}
use Rattle.station_files.specs.declared.seats.Past.{Past}
use Rattle.station_files.proofs.Placed.{same_item}
use Rattle.station_files.proofs.seats.Stations.leave.Goals as goal

pub returns-clause-leaves : goal.returns-clause-leaves
returns-clause-leaves g c past found =
    let lent = c.in_ok-get_mut.field-0.now in (
      c.let_go.new.self,
      subst (λ (one : Past _). LetsGo g.D.Disk c.args.key c.let_go.result one c.let_go.new.self)
          (same_item c.args.self.now.past.items c.args.at past lent found c.in_ok-get_mut.ensures.value) c.let_go.ensures,
      refl,
    )
