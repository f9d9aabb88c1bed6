use Rattle.std.proofs.Common.{None, refl, sym, ◌∙◌, ap, subst, inr}
use Rattle.slab.specs.Slab.{get}
use Rattle.station.specs.Changing.{ReadsFile}
use Rattle.station_files.specs.Moving.{HasLeft}
use Rattle.station_files.specs.declared.seats.Stations.{Stations}
use Rattle.station_files.proofs.seats.Stations.drop_reader.Goals as goal

pub returns-clause-dropped : goal.returns-clause-dropped
returns-clause-dropped g c =
    let key = c.args.key in
    let (reads, left) = c.in-Some.ensures.taken in
    let client = c.in-Some._client in
    let rest = c.note_move.ensures.rest in
    inr (
      subst ReadsFile (sym left.was) reads,
      ap (λ (one : Stations _). get one.newest.clients.slots key) rest ∙ left.gone,
      λ room. (
        record { from = record { station = 0; key = key }; to = None },
        c.note_move.ensures.noted room,
        record {
          client = client;
          reads = reads;
          from = refl;
          nowhere = refl;
          leaves = subst (λ (one : Stations _). HasLeft client key c.args.self.now.newest one.newest) (sym rest) left;
        },
      ),
    )
