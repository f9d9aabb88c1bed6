use Rattle.station_laws.proofs.InTime.{no_longer}
use Rattle.station_laws.proofs.waiting.commands_wait_no_longer.Goals as goal

pub returns : goal.returns
returns g c = no_longer g.D.Disk
