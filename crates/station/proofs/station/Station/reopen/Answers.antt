use Rattle.std.proofs.Common.{refl}
use Rattle.serve_hub.specs.Running.{Progress}
use Rattle.station.proofs.Leaving.{isnt_failed, isnt_lost}
use Rattle.station_hub.specs.LiveLaws.{records_then}
use Rattle.station.proofs.station.Station.reopen.Goals as goal

pub returns-in-Ok-clause-waits : goal.returns-in-Ok-clause-waits
returns-in-Ok-clause-waits g c failed = absurd (isnt_failed c.resume.result c.resume.ensures.becomes failed)

pub returns-in-Ok-clause-lost : goal.returns-in-Ok-clause-lost
returns-in-Ok-clause-lost g c why lost = absurd (isnt_lost c.resume.result why c.resume.ensures.becomes lost)

pub returns-in-Ok-clause-resumes : goal.returns-in-Ok-clause-resumes
returns-in-Ok-clause-resumes g c air answered machine is shows reopened =
    let (mid, seen, step) = c.in-Ok.ensures.step machine shows in
    let opened : Progress _ = record { now = c.reopen.new.self.hub; machine = mid } in
    record { opened = opened; found = step; goes_on = c.resume.ensures.resumes air answered opened is (refl, seen) reopened }

pub returns-in-Ok-clause-records : goal.returns-in-Ok-clause-records
returns-in-Ok-clause-records g c =
    records_then g.D.Disk c.args.self.now.live c.reopen.new.self c.resume.new.self.live c.reopen.ensures.records c.resume.ensures.records

pub returns-in-Err-clause-records : goal.returns-in-Err-clause-records
returns-in-Err-clause-records g c = c.reopen.ensures.records
