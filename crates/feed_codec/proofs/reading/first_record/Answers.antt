use Rattle.std.proofs.Common.{Option, List, ℕ, take, subst, None, true, inl}
use Rattle.std.specs.Prelude.{vec_capacity}
use Rattle.std.proofs.KnownBytes.{Consumes-nil}
use Rattle.std.proofs.lemmas.Result.{IfErr-weaker}
use Rattle.feed_records.specs.declared.version.Version.TheVariants.{One, Two}
use Rattle.feed_codec.specs.Building.{Makes}
use Rattle.feed_codec.specs.RecordKind.{number_of}
use Rattle.feed_codec.specs.Room.{feed_room, rooms_of}
use Rattle.feed_codec.proofs.FeedFacts.{announcement_read, end_behind_announcement, end_here, fault_behind_announcement, gives_behind, makes_no_end, makes_no_fault, memory_behind_announcement, none_made, record_made}
use Rattle.feed_codec.proofs.reading.first_record.Goals as goal

pub returns-in-Ok-None-clause-end : goal.returns-in-Ok-None-clause-end
returns-in-Ok-None-clause-end g c =
    let end = rw c.in-Ok-None.field-0-is at c.in-Ok-None.ensures.end in
    end_here (g.R.Read.remaining c.args.reader.now) (g.R.Read.remaining c.next_payload.new.reader) end

pub returns-in-Announcement-clause-record : goal.returns-in-Announcement-clause-record
returns-in-Announcement-clause-record g c =
    let (long, has, taken) = rw c.in-Ok-Some.field-0-is at c.in-Ok-Some.ensures.head in
    let before : Option (List ℕ) = g.R.Read.remaining c.args.reader.now in
    let left : Option (List ℕ) = g.R.Read.remaining c.next_payload.new.reader in
    let read = announcement_read true before left c.in-Ok-Some.head _ has c.in-Announcement.is taken in
    gives_behind None Two before left (g.R.Read.remaining c.later_record.new.reader) c.later_record.result tt read c.later_record.ensures.record

pub returns-in-Announcement-clause-end : goal.returns-in-Announcement-clause-end
returns-in-Announcement-clause-end g c =
    let (long, has, taken) = rw c.in-Ok-Some.field-0-is at c.in-Ok-Some.ensures.head in
    let before : Option (List ℕ) = g.R.Read.remaining c.args.reader.now in
    let left : Option (List ℕ) = g.R.Read.remaining c.next_payload.new.reader in
    let read = announcement_read true before left c.in-Ok-Some.head _ has c.in-Announcement.is taken in
    end_behind_announcement before left (g.R.Read.remaining c.later_record.new.reader) c.later_record.result read c.later_record.ensures.end

pub returns-in-Announcement-clause-fault : goal.returns-in-Announcement-clause-fault
returns-in-Announcement-clause-fault g c =
    let (long, has, taken) = rw c.in-Ok-Some.field-0-is at c.in-Ok-Some.ensures.head in
    let before : Option (List ℕ) = g.R.Read.remaining c.args.reader.now in
    let left : Option (List ℕ) = g.R.Read.remaining c.next_payload.new.reader in
    let read = announcement_read true before left c.in-Ok-Some.head _ has c.in-Announcement.is taken in
    fault_behind_announcement before left c.later_record.result read c.later_record.ensures.fault

pub returns-in-Announcement-clause-memory : goal.returns-in-Announcement-clause-memory
returns-in-Announcement-clause-memory g c =
    let (long, has, taken) = rw c.in-Ok-Some.field-0-is at c.in-Ok-Some.ensures.head in
    let before : Option (List ℕ) = g.R.Read.remaining c.args.reader.now in
    let left : Option (List ℕ) = g.R.Read.remaining c.next_payload.new.reader in
    let read = announcement_read true before left c.in-Ok-Some.head _ has c.in-Announcement.is taken in
    memory_behind_announcement (vec_capacity c.args.payload.now) (vec_capacity c.next_payload.new.payload) (vec_capacity c.args.spare.now.entries) (rooms_of c.args.spare.now.packets.items)
    before left (g.R.Read.remaining c.later_record.new.reader) c.later_record.result read c.in-Ok-Some.ensures.room c.later_record.ensures.memory

pub returns-in_default-clause-record : goal.returns-in_default-clause-record
returns-in_default-clause-record g c =
    let (long, has, taken) = rw c.in-Ok-Some.field-0-is at c.in-Ok-Some.ensures.head in
    let before : Option (List ℕ) = g.R.Read.remaining c.args.reader.now in
    let behind : Option (List ℕ) = g.R.Read.remaining c.next_payload.new.reader in
    let made =
    subst (λ l. Makes (vec_capacity c.args.spare.now.entries) (rooms_of c.args.spare.now.packets.items) One (number_of c.in-Ok-Some.head.kind) (take c.in-Ok-Some.head.length l) c.build_record.result) c.deref.ensures.value c.build_record.ensures in
    gives_behind None One before before behind c.build_record.result tt (Consumes-nil before)
    (record_made _ _ true One before behind c.in-Ok-Some.head _ c.build_record.result has taken made)

pub returns-in_default-clause-end : goal.returns-in_default-clause-end
returns-in_default-clause-end g c = makes_no_end _ _ _ One _ _ c.build_record.result c.build_record.ensures

pub returns-in_default-clause-fault : goal.returns-in_default-clause-fault
returns-in_default-clause-fault g c = makes_no_fault _ _ _ One _ _ c.build_record.result c.build_record.ensures

pub returns-in_default-clause-memory : goal.returns-in_default-clause-memory
returns-in_default-clause-memory g c =
    let (long, has, taken) = rw c.in-Ok-Some.field-0-is at c.in-Ok-Some.ensures.head in
    let made =
    subst (λ l. Makes (vec_capacity c.args.spare.now.entries) (rooms_of c.args.spare.now.packets.items) One (number_of c.in-Ok-Some.head.kind) (take c.in-Ok-Some.head.length l) c.build_record.result) c.deref.ensures.value c.build_record.ensures in
    IfErr-weaker c.build_record.result _ _ (λ fault full memory. inl (full memory))
    (none_made (feed_room c.args.payload.now c.args.spare.now.entries c.args.spare.now.packets.items) true One
    (g.R.Read.remaining c.args.reader.now) (g.R.Read.remaining c.next_payload.new.reader) c.in-Ok-Some.head _ c.build_record.result has taken made)
