use Rattle.history.proofs.Running.{run_law}
use Rattle.history.proofs.laws.runs_show_first_commands.Goals as goal

pub returns : goal.returns
returns g c = λ first.
    run_law g.D.Disk g.B.Recordings.shows g.B.Recordings.accepts g.B.Recordings.next g.met.D.Disk.laws first
