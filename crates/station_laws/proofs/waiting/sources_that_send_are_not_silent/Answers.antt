use Rattle.station_laws.proofs.Patient.{not_silent}
use Rattle.station_laws.proofs.waiting.sources_that_send_are_not_silent.Goals as goal

pub returns : goal.returns
returns g c = not_silent g.D.Disk
