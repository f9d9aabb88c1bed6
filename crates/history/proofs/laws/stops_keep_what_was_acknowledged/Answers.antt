use Rattle.history.proofs.DiskWorlds.{at_end_law, any_moment_law, while_open_law, opening_law}
use Rattle.history.proofs.laws.stops_keep_what_was_acknowledged.Goals as goal

pub returns-clause-at_end : goal.returns-clause-at_end
returns-clause-at_end g c = λ first.
    at_end_law g.D.Disk g.B.Recordings.shows g.B.Recordings.accepts g.B.Recordings.next g.met.D.Disk.laws first

pub returns-clause-any_moment : goal.returns-clause-any_moment
returns-clause-any_moment g c = λ first.
    any_moment_law g.D.Disk g.B.Recordings.shows g.B.Recordings.accepts g.B.Recordings.next g.met.D.Disk.laws first

pub returns-clause-opening : goal.returns-clause-opening
returns-clause-opening g c = λ first disk now w steps history new.
    opening_law g.D.Disk g.B.Recordings.shows g.B.Recordings.accepts g.B.Recordings.next g.met.D.Disk.laws first disk now w steps g.B.Recordings.one history (g.D.Disk.state new)

pub returns-clause-while_open : goal.returns-clause-while_open
returns-clause-while_open g c = λ first.
    while_open_law g.D.Disk g.B.Recordings.shows g.B.Recordings.accepts g.B.Recordings.next g.met.D.Disk.laws first
