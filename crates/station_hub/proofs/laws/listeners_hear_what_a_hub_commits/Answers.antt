use Rattle.station_hub.proofs.Lasting.{hears_on}
use Rattle.station_hub.proofs.laws.listeners_hear_what_a_hub_commits.Goals as goal

pub returns : goal.returns
returns g c = hears_on c.listeners_hear_what_they_should.ensures.grows g.D.Disk
