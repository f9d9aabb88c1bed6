use Rattle.std.proofs.Common.{◌≡◌, ℕ, List, length, take, ap, ◌∙◌, sym, subst, arith}
use Rattle.std.specs.Prelude.{vec_capacity}
use Rattle.std.proofs.lemmas.List.{length-take-le}
use Rattle.std.specs.Io.KnownBytes.{Consumes}
use Rattle.feed_codec.proofs.FeedFacts.{fault_of_head, payload_fault, payload_memory, bad_payload}
use Rattle.feed_codec.proofs.reading.next_payload.Goals as goal

pub returns-in-Err-clause-fault : goal.returns-in-Err-clause-fault
returns-in-Err-clause-fault g c = λ read memory. fault_of_head c.args.first c.args.version (g.R.Read.remaining c.args.reader.now) c.in-Err.fault (c.in-Err.ensures.fault read)

pub returns-in-Err-read_payload-clause-fault : goal.returns-in-Err-read_payload-clause-fault
returns-in-Err-read_payload-clause-fault g c =
    let head = rw c.in-Ok-Some.field-0-is at c.in-Ok-Some.ensures.head in
    λ read memory.
    payload_fault c.args.first c.args.version (g.R.Read.remaining c.args.reader.now) (g.R.Read.remaining c.next_head.new.reader) c.in-Ok-Some.head c.in-Err-read_payload.fault _ _
    head.0 head.1 read memory c.in-Err-read_payload.ensures.fault

pub returns-in-Err-read_payload-clause-memory : goal.returns-in-Err-read_payload-clause-memory
returns-in-Err-read_payload-clause-memory g c =
    let head = rw c.in-Ok-Some.field-0-is at c.in-Ok-Some.ensures.head in
    λ memory.
    payload_memory (vec_capacity c.args.payload.now) c.args.first (g.R.Read.remaining c.args.reader.now) (g.R.Read.remaining c.next_head.new.reader) (g.R.Read.remaining c.read_payload.new.reader)
    c.in-Ok-Some.head c.in-Err-read_payload.fault (c.read_payload.new.reader ≡ c.next_head.new.reader)
    head.0 head.1 (λ same. ap (λ r. g.R.Read.remaining r) same) memory c.in-Err-read_payload.ensures.fault

pub returns-else-is_payload-clause-fault : goal.returns-else-is_payload-clause-fault
returns-else-is_payload-clause-fault g c =
    let head = rw c.in-Ok-Some.field-0-is at c.in-Ok-Some.ensures.head in
    let n : ℕ = c.in-Ok-Some.head.length in
    let buffer : List ℕ = c.deref.result.now in
    let taken : Consumes (g.R.Read.remaining c.next_head.new.reader) (g.R.Read.remaining c.read_payload.new.reader) (take n buffer) =
    subst (λ l. Consumes (g.R.Read.remaining c.next_head.new.reader) (g.R.Read.remaining c.read_payload.new.reader) (take n l)) (sym c.deref.ensures.value) c.in-Ok.ensures.ok.1 in
    let whole : length (take n buffer) ≡ n = length-take-le n buffer (omega (arith, c.deref.ensures.len, c.in-Ok.ensures.ok.0)) in
    λ read memory.
    bad_payload c.args.first c.args.version (g.R.Read.remaining c.args.reader.now) (g.R.Read.remaining c.next_head.new.reader) (g.R.Read.remaining c.read_payload.new.reader)
    c.in-Ok-Some.head (take n buffer) head.0 head.1 taken whole
    (λ spelled. let both = sym c.if-is_payload.false ∙ c.is_payload.ensures.1 spelled in cc both)
