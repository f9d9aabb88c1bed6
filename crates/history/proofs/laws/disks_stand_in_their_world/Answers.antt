use Rattle.history.proofs.DiskWorlds.{in_call, stands_one, opened_law}
use Rattle.history.proofs.laws.disks_stand_in_their_world.Goals as goal

pub returns-clause-any_moment : goal.returns-clause-any_moment
returns-clause-any_moment g c = λ first.
    in_call g.D.Disk g.B.Recordings.shows g.B.Recordings.accepts g.B.Recordings.next g.met.D.Disk.laws first

pub returns-clause-step : goal.returns-clause-step
returns-clause-step g c = λ first w step old new stands is.
    stands_one g.D.Disk g.B.Recordings.shows g.B.Recordings.accepts g.B.Recordings.next g.met.D.Disk.laws first w step old new stands is.2 is.1

pub returns-clause-opened : goal.returns-clause-opened
returns-clause-opened g c = λ first w old new found.
    opened_law g.D.Disk g.B.Recordings.shows g.B.Recordings.accepts g.B.Recordings.next g.met.D.Disk.laws first w old new found g.B.Recordings.one
