use Rattle.station_laws.proofs.Patient.{refused, wait}
use Rattle.station_laws.proofs.waiting.sources_wait_for_a_second.Goals as goal

pub returns : goal.returns
returns g c = record { waits = wait g.D.Disk; refused = refused g.D.Disk }
