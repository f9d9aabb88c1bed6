use Rattle.station_laws.proofs.Owing.{OwnLaws}
use Rattle.station_laws.proofs.Served.{kept, none_apart, served}
use Rattle.station_laws.proofs.Whole.{whole}
use Rattle.station_laws.proofs.Sides.{Laws}
use Rattle.station_laws.proofs.connections.connections_get_their_responses.Goals as goal

pub returns : goal.returns
returns g c =
    let any : Laws = record { others = c.other_sessions_stay.ensures; numbered = c.sessions_are_numbered.ensures.kept; file = c.calls_move_their_session.ensures.file; grows = c.committed_bytes_grow.ensures.grows } in
    let laws : OwnLaws = record {
      any = any;
      unused = λ hub are. (c.sessions_are_numbered.ensures.unused hub are).1;
      connect = c.calls_move_their_session.ensures.connect;
      receive = c.calls_move_their_session.ensures.receive;
      pull = c.calls_move_their_session.ensures.pull;
    } in
    record {
      new = none_apart;
      kept = kept g.D.Disk laws;
      served = served g.D.Disk laws;
      whole = λ old accepted later machine key now.
          whole g.D.Disk laws c.listeners_hear_what_a_hub_commits.ensures machine old.live.places old accepted later machine key now (λ start tracks. tracks);
    }
