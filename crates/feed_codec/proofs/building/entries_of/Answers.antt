use Rattle.std.proofs.Common.{◌≡◌, ◌<◌, ◌++◌, List, [], ℕ, drop, length, sym, ap, ◌∙◌, subst}
use Rattle.ogg_command.specs.declared.command.Entry.{Entry}
use Rattle.feed_records.specs.Record.{entry_bytes}
use Rattle.feed_codec.specs.Payload.{IsEntryOfFeed, BeginsNone}
use Rattle.feed_codec.proofs.Spellings.{same_entry}
use Rattle.feed_codec.proofs.Built.{part_built}
use Rattle.feed_codec.proofs.PayloadFacts.{stands, left_stands, left_behind, built_more}
use Rattle.std.specs.Prelude.{slice_index, vec_capacity}
use Rattle.std.proofs.lemmas.List.{drop-drop}
use Rattle.std.proofs.lemmas.Result.{err_from_is_err_and}
use Rattle.feed_codec.specs.Room.{rooms_of}
use Rattle.feed_codec.proofs.RoomFacts.{entry_lacks}
use Rattle.feed_codec.proofs.building.entries_of.Goals as goal

pub unwrap-requires : goal.unwrap-requires
unwrap-requires c =
    stands c.split_entry.result (BeginsNone IsEntryOfFeed entry_bytes c.loop.rest.now) _ c.split_entry.ensures
    (left_stands IsEntryOfFeed entry_bytes c.loop.rest.now [] c.loop.counter c.args.count c.loop-test.true c.loop.invariant.0.2)

pub loop-preserved : goal.loop-preserved
loop-preserved c =
    let rest : List ℕ = c.loop.rest.now in
    let behind : List ℕ = c.unwrap.result.1.now in
    let with : List ℕ → Entry = λ packet. record { serial = c.unwrap.result.0.serial; position = c.unwrap.result.0.position; packet = packet } in
    let entry : Entry = with c.in_ok-packet.packet in
    let split = rw c.unwrap.ensures at c.split_entry.ensures in
    let one : IsEntryOfFeed entry = subst (λ p. IsEntryOfFeed (with p)) (sym c.in_ok-packet.ensures.ok) split.0 in
    let front : rest ≡ entry_bytes entry ++ behind = split.1 ∙ ap (λ p. entry_bytes (with p) ++ behind) (sym c.in_ok-packet.ensures.ok) in (
      part_built IsEntryOfFeed entry_bytes same_entry c.args.count c.loop.counter c.args.bytes.now rest behind [] c.loop.entries c.push_reserved.new.self entry
          c.loop-test.true c.loop.invariant.0 one front c.push_reserved.ensures.items c.push_reserved.ensures.len c.push_reserved.ensures.capacity,
      c.packet_of.ensures.packets ∙ ap (λ l. drop 1 l) c.loop.invariant.1 ∙ drop-drop 1 c.loop.counter (rooms_of c.args.spare.now.packets.items),
    )

pub returns-in_err-packet-clause-full : goal.returns-in_err-packet-clause-full
returns-in_err-packet-clause-full c =
    let bytes : List ℕ = c.args.bytes.now in
    let rest : List ℕ = c.loop.rest.now in
    let behind : List ℕ = c.unwrap.result.1.now in
    let entry : Entry = record { serial = c.unwrap.result.0.serial; position = c.unwrap.result.0.position; packet = c.unwrap.result.0.packet.now } in
    let ((many, whole, left, len, room), rooms) = c.loop.invariant in
    let split = rw c.unwrap.ensures at c.split_entry.ensures in
    let built = built_more IsEntryOfFeed entry_bytes bytes rest behind c.loop.counter c.loop.entries.items entry many whole split.0 split.1 in
    let later = left_behind IsEntryOfFeed entry_bytes same_entry rest behind [] c.loop.counter c.args.count entry c.loop-test.true left split.0 split.1 in
    let short = subst (λ l. slice_index l 0 < length entry.packet) rooms c.in_err-packet.ensures.full in
    let p = err_from_is_err_and c.from_residual-in_err-packet.result c.from_residual-in_err-packet.ensures.1 in
    rw p.1 (
    entry_lacks (vec_capacity c.args.spare.now.entries) (rooms_of c.args.spare.now.packets.items) bytes behind c.loop.counter c.args.count c.loop.entries.items entry
    c.loop-test.true many.0 built.0 built.1 later short
    )
