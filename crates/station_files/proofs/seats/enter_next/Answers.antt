use Rattle.station_files.proofs.Moved.{seated}
use Rattle.station_files.proofs.seats.enter_next.Goals as goal

pub returns-clause-entered : goal.returns-clause-entered
returns-clause-entered g c =
    let (same, enters) = c.in_ok-seat.ensures.entered in (
      same,
      record {
        entered = c.enter.new.station;
        enters = enters;
        hears = c.hear_next.ensures (seated c.in_ok-seat.seat.key _ enters.clients c.enter.new.station.clients enters.turn);
      },
    )
