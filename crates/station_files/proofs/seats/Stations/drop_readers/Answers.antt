use Rattle.std.proofs.Common.{ap, ◌∙◌}
use Rattle.station_files.specs.declared.seats.Stations.{Stations}
use Rattle.station_files.proofs.Sent.{dropped_from, dropped_next}
use Rattle.station_files.proofs.seats.Stations.drop_readers.Goals as goal

pub loop-key-preserved : goal.loop-key-preserved
loop-key-preserved g c =
    let so_far = c.loop-key.invariant in
    let old = c.args.self.now in
    let mid = c.loop-key.self in
    let new = c.drop_reader.new.self in
    let key = c.loop-key.key in
    record {
      leave = dropped_from key old mid new so_far.leave c.drop_reader.ensures.dropped c.drop_reader.ensures.others;
      dropped = dropped_next c.keys-key-end.result key old mid new c.loop-key-test.true so_far.dropped c.drop_reader.ensures.dropped
          c.drop_reader.ensures.room.0 c.drop_reader.ensures.room.1;
      rest = c.drop_reader.ensures.rest ∙ ap (λ (one : Stations _). record one { newest = new.newest; moves = new.moves }) so_far.rest;
      bound = so_far.bound;
      below = so_far.below;
    }
