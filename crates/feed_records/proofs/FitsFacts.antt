-- Which commands fit a record of version 2.
use Rattle.std.proofs.Common.{ℕ, ◌^◌, ◌<◌, List, [], ◌∷◌, length, arith, length-append}
use Rattle.std.specs.List.{AllByRecursion, flat_map}
use Rattle.ogg_command.specs.declared.command.Begin.{Begin}
use Rattle.ogg_command.specs.declared.command.Put.{Put}
use Rattle.ogg_command.specs.declared.command.Command.{Command}
use Rattle.ogg_command.specs.declared.command.Command.TheVariants.{Begin as BeginOf, Put as PutOf, End as EndOf}
use Rattle.ogg_command.specs.declared.command.NewStream.{NewStream}
use Rattle.ogg_command.specs.declared.command.Entry.{Entry}
use Rattle.ogg_page.specs.Laws.NumberBytes.{length-u32_bytes}
use Rattle.feed_records.specs.Record.{FitsEntry, FitsHeader, FitsRecord, FitsStream, packet_bytes, stream_bytes, entry_bytes}
use Rattle.feed_records.specs.declared.version.Version.TheVariants.{Two}
use Rattle.feed_records.specs.Fits.{BeginFits, HasFewParts, PutFits}
use Rattle.feed_records.proofs.SizeFacts.{length-begin, length-entry_bytes, length-packet_bytes, length-put, length-stream_bytes}

abbrev pub Fits : Command → Type 0
Fits command = FitsRecord Two command

-- short records have short parts
headers_fit : (headers : List (List ℕ)) → length (flat_map packet_bytes headers) < 2 ^ 32 → AllByRecursion FitsHeader headers
headers_fit [] short = tt
headers_fit (header ∷ headers) short =
    let size = length-append (packet_bytes header) (flat_map packet_bytes headers) in
    let own = length-packet_bytes header in
    (omega (arith, size, own, short), headers_fit headers (omega (arith, size, short)))

entries_fit : (entries : List Entry) → length (flat_map entry_bytes entries) < 2 ^ 32 → AllByRecursion FitsEntry entries
entries_fit [] short = tt
entries_fit (entry ∷ entries) short =
    let size = length-append (entry_bytes entry) (flat_map entry_bytes entries) in
    let own = length-entry_bytes entry in
    (omega (arith, size, own, short), entries_fit entries (omega (arith, size, short)))

streams_fit : (streams : List NewStream) → length (flat_map (stream_bytes Two) streams) < 2 ^ 32 → AllByRecursion HasFewParts streams → AllByRecursion (FitsStream Two) streams
streams_fit [] short few = tt
streams_fit (stream ∷ streams) short few =
    let size = length-append (stream_bytes Two stream) (flat_map (stream_bytes Two) streams) in
    let own = length-stream_bytes Two stream in (
      record {
        headers = few.0.headers;
        each = headers_fit stream.headers (omega (arith, size, own, short));
        media = few.0.media;
        fields = (few.0.fields, few.0.each);
      },
      streams_fit streams (omega (arith, size, short)) few.1,
    )

have_few : (streams : List NewStream) → AllByRecursion (FitsStream Two) streams → AllByRecursion HasFewParts streams
have_few [] fit = tt
have_few (stream ∷ streams) fit = (
  record { headers = fit.0.headers; media = fit.0.media; fields = fit.0.fields.0; each = fit.0.fields.1 },
  have_few streams fit.1,
)

pub begin_fits : (begin : Begin) → BeginFits begin → Fits (BeginOf begin)
begin_fits begin fits = record {
  fields = (fits.streams, streams_fit begin.streams (omega (arith, fits.size)) fits.few);
  payload = omega (arith, length-begin Two begin, fits.size);
}

pub begin_of_fits : (begin : Begin) → Fits (BeginOf begin) → BeginFits begin
begin_of_fits begin fits = record {
  streams = fits.fields.0;
  size = omega (arith, length-begin Two begin, fits.payload);
  few = have_few begin.streams fits.fields.1;
}

pub put_fits : (put : Put) → PutFits put → Fits (PutOf put)
put_fits put fits = record {
  fields = (fits.entries, entries_fit put.entries (omega (arith, fits.size)));
  payload = omega (arith, length-put Two put, fits.size);
}

pub put_of_fits : (put : Put) → Fits (PutOf put) → PutFits put
put_of_fits put fits = record { entries = fits.fields.0; size = omega (arith, length-put Two put, fits.payload) }

pub end_fits : (serial : ℕ) → Fits (EndOf serial)
end_fits serial = record { fields = tt; payload = omega (arith, length-u32_bytes serial) }
