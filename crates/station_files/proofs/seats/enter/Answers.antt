use Rattle.std.proofs.Common.{refl}
use Rattle.station_files.proofs.seats.enter.Goals as goal

pub returns-in-Ok-clause-entered : goal.returns-in-Ok-clause-entered
returns-in-Ok-clause-entered g c =
    let (clients, there, turn) = c.in-Ok.ensures.some in (
      refl,
      record {
        free = c.in-Ok.ensures.none;
        clients = clients;
        there = there;
        turn = turn;
        others = c.in-Ok.ensures.others;
        rest = c.enter.ensures.rest;
      },
    )

pub returns-in-Err-clause-none : goal.returns-in-Err-clause-none
returns-in-Err-clause-none g c none = record { all = c.in-Err.ensures.err; rest = c.enter.ensures.rest }
