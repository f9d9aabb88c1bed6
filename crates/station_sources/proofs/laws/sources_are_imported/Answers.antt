use Rattle.station_sources.proofs.Imported.{all, so_far}
use Rattle.station_sources.proofs.laws.sources_are_imported.Goals as goal

pub returns : goal.returns
returns g c = record { so_far = so_far g.T.Runner.answers; all = all g.T.Runner.answers }
