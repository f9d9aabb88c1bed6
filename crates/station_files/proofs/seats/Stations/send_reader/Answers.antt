use Rattle.std.proofs.Common.{refl, sym, ◌∙◌, ap, subst, inr}
use Rattle.slab.specs.Slab.{get}
use Rattle.station.specs.Changing.{ReadsFile}
use Rattle.station_files.specs.Moving.{HasLeft}
use Rattle.station_files.specs.declared.seats.Stations.{Stations}
use Rattle.station_files.proofs.Moved.{enters_at}
use Rattle.station_files.proofs.seats.Stations.send_reader.Goals as goal

pub returns-clause-sent : goal.returns-clause-sent
returns-clause-sent g c =
    let (reads, left) = c.in-Some.ensures.taken in
    let key = c.args.key in
    let rest = c.note_move.ensures.rest in
    inr (
      subst ReadsFile (sym left.was) reads,
      ap (λ (one : Stations _). get one.newest.clients.slots key) rest ∙ left.gone,
      λ room. (
        record { from = record { station = 0; key = key }; to = c.enter-to.result },
        c.note_move.ensures.noted room,
        record {
          client = c.in-Some.client;
          reads = reads;
          from = refl;
          leaves = subst (λ (one : Stations _). HasLeft c.in-Some.client key c.args.self.now.newest one.newest) (sym rest) left;
          enters = enters_at c.args.past.now.number c.in-Some.client c.enter-to.result c.args.past.now.station c.enter-to.new.station
              c.enter-to.ensures.entered c.enter-to.ensures.none;
        },
      ),
    )
