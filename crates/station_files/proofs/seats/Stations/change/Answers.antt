use Rattle.std.proofs.Common.{◌+◌, ◌≤◌, inl, inr, refl, sym, ap, subst}
use Rattle.std.specs.Prelude.{vec_capacity, vec_len}
use Rattle.serve_clients.specs.declared.clients.Clients.{Clients}
use Rattle.station_hub.specs.declared.live_hub.LiveHub.{LiveHub}
use Rattle.station_files.specs.Places.{HasRoom}
use Rattle.station.specs.declared.station.Station.{Station}
use Rattle.station_files.specs.Moving.{IsLeft, ReadersLeave, over_another}
use Rattle.station_files.proofs.Moved.{is_over}
use Rattle.station_files.proofs.seats.Stations.change.Goals as goal

pub returns-then-is_alone : goal.returns-then-is_alone
returns-then-is_alone g c =
    let old = c.args.self.now in
    let (unread, empty) = c.is_alone-is_alone.ensures.yes c.if-is_alone.true in
    let over = is_over c.args.live old.newest c.change-before.new.self c.change-before.ensures.rest c.change-before.ensures.woken in
    record {
      alone = λ none nobody. ap (λ (one : Station _). record old { newest = one }) over;
      read = λ key reads room. absurd (unread key reads);
      older = λ some room. absurd (some empty);
      readers = subst (λ (one : Station _). ReadersLeave (over_another c.args.live old.newest) one) (sym over)
          (record { none = unread; others = λ key isnt. refl });
    }

pub returns : goal.returns
returns g c =
    let old = c.args.self.now in
    let left = c.is_alone-is_alone.ensures.no c.if-is_alone.false in
    let over = is_over c.args.live old.newest c.change-before.new.self c.change-before.ensures.rest c.change-before.ensures.woken in
    let room_of : HasRoom old → HasRoom (record old { newest = c.change-before.new.self }) = λ room. record {
      moves = subst (λ (clients : Clients). vec_len old.moves + clients.slots.capacity ≤ vec_capacity old.moves) (sym c.change-before.ensures.clients) room.moves;
      past = room.past;
    } in
    let goes : HasRoom old → IsLeft old.newest.live c.args.next (record old { newest = over_another c.args.live old.newest }) c.leave_file.new.self = λ room. subst (λ (one : Station _). IsLeft old.newest.live c.args.next (record old { newest = one }) c.leave_file.new.self) over
    (subst (λ (live : LiveHub _). IsLeft live c.args.next (record old { newest = c.change-before.new.self }) c.leave_file.new.self) c.change-before.ensures.before
    (c.leave_file.ensures.left (room_of room))) in
    record {
      alone = λ none empty. elim left [
        | inl is ↦ absurd (none is.0 is.1)
        | inr some ↦ absurd (some empty)
      ];
      read = λ key reads room. goes room;
      older = λ some room. goes room;
      readers = subst (λ (one : Station _). ReadersLeave one c.leave_file.new.self.newest) over c.leave_file.ensures.readers;
    }
