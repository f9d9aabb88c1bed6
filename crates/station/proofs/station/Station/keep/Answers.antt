use Rattle.station.proofs.Recorded.{by_flush}
use Rattle.station.proofs.station.Station.keep.Goals as goal

pub returns-clause-records : goal.returns-clause-records
returns-clause-records g c =
    by_flush g.D.Disk c.args.self.now.live c.run_flush.new.self c.run_flush.result c.run_flush.ensures.answers
