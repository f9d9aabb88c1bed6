use Rattle.std.proofs.Common.{◌≡◌, ℕ, ap, subst, ◌∙◌}
use Rattle.station_files.specs.Moving.{SendsIf}
use Rattle.station_files.specs.declared.seats.Past.{Past}
use Rattle.station_files.specs.declared.seats.Stations.{Stations}
use Rattle.station_files.proofs.Sent.{sent_from, sent_next}
use Rattle.station_files.proofs.seats.Stations.send_readers.Goals as goal

pub loop-key-preserved : goal.loop-key-preserved
loop-key-preserved g c =
    let so_far = c.loop-key.invariant in
    let old = c.args.self.now in
    let mid = c.loop-key.self in
    let new = c.send_reader.new.self in
    let key = c.loop-key.key in
    let before = c.args.past.now.station in
    let between = c.loop-key.past.station in
    let after = c.send_reader.new.past.station in
    let number : c.loop-key.past.number ≡ c.args.past.now.number = ap (λ (one : Past _). one.number) so_far.past in
    let sends : SendsIf c.args.past.now.number key mid new between after =
    subst (λ (n : ℕ). SendsIf n key mid new between after) number c.send_reader.ensures.sent in
    record {
      leave = sent_from c.args.past.now.number key old mid new between after so_far.leave sends c.send_reader.ensures.others;
      sent = sent_next c.args.past.now.number c.keys-key-end.result key old mid new before between after c.loop-key-test.true so_far.sent sends
          c.send_reader.ensures.room.0 c.send_reader.ensures.room.1;
      past = c.send_reader.ensures.past ∙ ap (λ (one : Past _). record one { station = after }) so_far.past;
      rest = c.send_reader.ensures.rest ∙ ap (λ (one : Stations _). record one { newest = new.newest; moves = new.moves }) so_far.rest;
      bound = so_far.bound;
      below = so_far.below;
    }
