use Rattle.std.proofs.Common.{◌<◌, ℕ, ◌∷◌, ◌++◌, [], sym, ◌∙◌, ap, subst, inl}
use Rattle.std.specs.Prelude.{vec_capacity, vec_len}
use Rattle.station_files.specs.Moving.{AreSent}
use Rattle.station_files.specs.declared.seats.Past.{Past}
use Rattle.station_files.specs.declared.seats.Stations.{Stations}
use Rattle.station_files.proofs.Behind.{pushed}
use Rattle.station_files.proofs.seats.Stations.leave_file.Goals as goal

pub returns-in-Ok-clause-left : goal.returns-in-Ok-clause-left
returns-in-Ok-clause-left g c room =
    let (sent, moves, are) = c.send_readers.ensures.sent room.moves in
    let past_is = c.send_readers.ensures.past in
    let rest = c.send_readers.ensures.rest in
    let number = ap (λ (one : Past _). one.number) past_is in
    inl (record {
      begun = c.in-Ok.station;
      past = c.send_readers.new.past;
      sent = sent;
      serves = c.in-Ok.ensures.live;
      nobody = c.in-Ok.ensures.nobody;
      goes = subst (λ (n : ℕ). AreSent n sent c.args.self.now.newest c.send_readers.new.self.newest c.in-Ok.station c.send_readers.new.past.station)
          (sym number) are;
      number = number ∙ c.saturating_add-number.ensures;
      follows = (ap (λ (one : Past _). one.next) past_is, ap (λ (one : Past _). one.meeting) past_is);
      last = ap (λ (one : Stations _). one.last) rest ∙ sym number;
      pasts = pushed c.push.result c.send_readers.new.self.past.items c.push.new.self.items c.send_readers.new.past
          (c.push.ensures.succeeds (subst (λ (one : Stations _). vec_len one.past < vec_capacity one.past) (sym rest) room.past)) c.push.ensures.items
          ∙ ap (λ (one : Stations _). one.past.items ++ c.send_readers.new.past ∷ []) rest;
      moves = moves;
    })
