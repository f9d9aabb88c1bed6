use Rattle.std.proofs.Common.{sym, subst}
use Rattle.station_files.specs.Moving.{GoesOverTo}
use Rattle.station_files.specs.declared.seats.Next.TheVariants.{Another}
use Rattle.station_files.specs.declared.seats.Stations.{Stations}
use Rattle.station_files.proofs.filed.Filed.begin.Goals as goal

pub returns-clause-another : goal.returns-clause-another
returns-clause-another g c = record {
  begun = c.begin_link.new.stations;
  over = record {
    live = c.in_ok-live_over.field-0;
    changed = c.change.new.self;
    changes = c.change.ensures;
    rest = c.begin_link.ensures.rest;
  };
  joined = c.join_link.ensures.joined;
}

pub returns-clause-parted : goal.returns-clause-parted
returns-clause-parted g c parted =
    subst (λ (one : Stations _). GoesOverTo Another c.args.stations.now one) (sym (c.join_link.ensures.none (c.goes_on-goes_on.ensures parted))) (record {
      live = c.in_ok-live_over.field-0;
      changed = c.change.new.self;
      changes = c.change.ensures;
      rest = c.begin_link.ensures.rest;
    })
