use Rattle.std.proofs.Common.{length, refl}
use Rattle.station_hub.proofs.Tracked.{tracked_places, tracks_command, tracks_flush, tracks_lost_file, tracks_none, tracks_refused_flush, tracks_reopening}
use Rattle.station_hub.specs.LiveLaws.{tracks_file}
use Rattle.station_hub.proofs.laws.listeners_join_committed_links.Goals as goal

pub returns : goal.returns
returns c =
    let adds = c.commands_add_their_packets.ensures.links in
    let one = c.bytes_are_one_chain.ensures.links in
    record {
      joins = tracked_places adds one c.commands_make_places.ensures;
      begins = tracks_none;
      command = tracks_command adds one;
      flush = λ start old new places kept going step. tracks_flush adds start old new places kept (length new.committed) going step refl;
      refused = tracks_refused_flush;
      reopened = tracks_reopening adds;
      lost = tracks_lost_file;
      session = λ start old new event id places step of. tracks_file start old new places (c.calls_move_their_session.ensures.file old new event id step of);
    }
