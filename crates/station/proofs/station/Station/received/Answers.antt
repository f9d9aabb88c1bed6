use Rattle.station.proofs.station.Station.received.Goals as goal

pub returns-in-Reading-clause-reads : goal.returns-in-Reading-clause-reads
returns-in-Reading-clause-reads g c client id is stage session = c.read_on.ensures.reads client id is session
