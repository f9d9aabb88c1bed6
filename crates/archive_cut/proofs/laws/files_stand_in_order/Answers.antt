use Rattle.archive_cut.proofs.Stands.{LinesBelow, stands_known, stands_later}
use Rattle.archive_cut.proofs.laws.files_stand_in_order.Goals as goal

pub returns-clause-rises : goal.returns-clause-rises
returns-clause-rises c =
    let e = c.the_place_of_a_time.ensures in
    let below : LinesBelow = record { found = e.found; known = e.known; rises = e.rises; read = e.read } in
    stands_later below

pub returns-clause-known : goal.returns-clause-known
returns-clause-known c =
    let e = c.the_place_of_a_time.ensures in
    let below : LinesBelow = record { found = e.found; known = e.known; rises = e.rises; read = e.read } in
    stands_known below
