use Rattle.std.proofs.Common.{◌≡◌, ◌++◌, Option, List, [], ℕ, None, Some, Ok, Err, false, sym, ap, ◌∙◌, subst, refl}
use Rattle.std.specs.Prelude.{◌==◌}
use Rattle.std.specs.Io.Buffered.{reader_buffer, reader_capacity, reader_inner, reader_remaining}
use Rattle.std.specs.Io.KnownBytes.{Consumes}
use Rattle.ogg_command.specs.declared.command.Command.TheVariants.{Put as PutOf}
use Rattle.feed_records.specs.declared.item.Record.TheVariants.{Command as CommandOf}
use Rattle.feed_replies.specs.declared.fault.FeedFault.TheVariants.{Memory}
use Rattle.feed_codec.specs.Feed.{FeedWithRoom, TakesWhereMemoryEnds}
use Rattle.feed_codec.specs.Reading.{BeginsWithPut, head_bytes, put_head}
use Rattle.feed_codec.specs.Room.{feed_room}
use Rattle.feed_codec.proofs.FeedFacts.{gives_at_hand, none_made, put_consumed, record_made}
use Rattle.feed_codec.proofs.reading.Feed.next_at_hand.Goals as goal

pub returns-in_default-put-clause-memory : goal.returns-in_default-put-clause-memory
returns-in_default-put-clause-memory g c =
    let payload : List ℕ = c.in-Some.payload.now in
    let old : Option (List ℕ) = reader_remaining g.R.Read.remaining c.args.reader.now in
    let new : Option (List ℕ) = reader_remaining g.R.Read.remaining c.consume.new.self in
    let begins = subst (λ l. BeginsWithPut c.in-Some-None.version l payload) c.buffer.ensures c.in-Some.ensures in
    let taken : Consumes old new (head_bytes (put_head payload) ++ payload) =
    put_consumed (reader_capacity c.args.reader.now == 0) (g.R.Read.remaining (reader_inner c.args.reader.now)) new (reader_buffer c.args.reader.now) payload c.in-Some-None.version _ begins refl c.consume.ensures.bytes in
    let room = feed_room c.self.inside.payload c.self.inside.spare.entries c.self.inside.spare.packets.items in
    let full = none_made room false c.in-Some-None.version old new (put_head payload) payload (Err Memory) begins.put taken (refl, c.in_default-put.ensures.full) in
    λ _. subst (λ (s : FeedWithRoom). s.feed.outcome ≡ None → TakesWhereMemoryEnds s.room s.feed.version old new) c.self.view_is (λ _. rw c.in-Some-None.is-0 (full refl))

pub returns-clause-record : goal.returns-clause-record
returns-clause-record g c =
    let payload : List ℕ = c.in-Some.payload.now in
    let old : Option (List ℕ) = reader_remaining g.R.Read.remaining c.args.reader.now in
    let new : Option (List ℕ) = reader_remaining g.R.Read.remaining c.consume.new.self in
    let begins = subst (λ l. BeginsWithPut c.in-Some-None.version l payload) c.buffer.ensures c.in-Some.ensures in
    let taken : Consumes old new (head_bytes (put_head payload) ++ payload) =
    put_consumed (reader_capacity c.args.reader.now == 0) (g.R.Read.remaining (reader_inner c.args.reader.now)) new (reader_buffer c.args.reader.now) payload c.in-Some-None.version _ begins refl c.consume.ensures.bytes in
    gives_at_hand c.args.self.now.feed (record { version = c.self.inside.version; outcome = c.self.inside.outcome }) c.in-Some-None.version old new (Ok (Some (CommandOf (PutOf c.in-Ok.put))))
    (ap (λ (s : FeedWithRoom). s.feed.outcome) (sym c.self.view_is) ∙ c.in-Some-None.is-1) c.in-Some-None.is-1
    (ap (λ (s : FeedWithRoom). s.feed.version) (sym c.self.view_is) ∙ c.in-Some-None.is-0) c.in-Some-None.is-0
    (record_made 0 [] false c.in-Some-None.version old new (put_head payload) payload (Ok (Some (CommandOf (PutOf c.in-Ok.put)))) begins.put taken c.in-Ok.ensures.ok)
