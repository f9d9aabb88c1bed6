use Rattle.station_laws.proofs.InTime.{finishes, stays}
use Rattle.station_laws.proofs.waiting.an_end_stays.Goals as goal

pub returns : goal.returns
returns g c = record { stays = stays g.D.Disk; finishes = finishes g.D.Disk }
