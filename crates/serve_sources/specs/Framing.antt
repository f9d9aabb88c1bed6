-- Where a source's body ends (RFC 9112, section 6.3), and what isn't accepted.
use Rattle.std.specs.Prelude.{ℕ, ◌^◌, Bool, not, ◌&&◌, ◌||◌, ◌==◌, nat_lt, if◌then◌else◌, Option, Some, None}
use Rattle.http1.specs.declared.fields.ContentLength.{ContentLength}
use Rattle.http1.specs.declared.fields.ContentLength.TheVariants as Length
use Rattle.http1.specs.declared.fields.TransferEncoding.{TransferEncoding}
use Rattle.http1.specs.declared.fields.TransferEncoding.TheVariants as Coding
use Rattle.http1.specs.declared.fields.KnownFields.{KnownFields}
use Rattle.http1.specs.declared.framing.Framing.{Framing}
use Rattle.http1.specs.declared.framing.Framing.TheVariants.{Length as Sized, Chunked, UntilClose}

-- one Host field, or none in HTTP/1.0 (section 3.2)
abbrev pub has_host : Bool → ℕ → Bool
has_host http11 hosts = hosts == 1 || (not http11 && hosts == 0)

-- The framing, by the one field that says it: a length, or the coding `chunked` alone, which HTTP/1.0 doesn't have
-- (section 6.1).
-- Ours: without such a field the body ends with the connection, as encoders mean it; a length is below 2 ^ 63.
abbrev pub framing_by : Bool → TransferEncoding → Bool → ContentLength → Option Framing
framing_by http11 Coding.Absent other Length.Absent = Some UntilClose
framing_by http11 Coding.Absent other (Length.Value length) = if nat_lt length (2 ^ 63) then Some (Sized length) else None
framing_by http11 Coding.Chunked other Length.Absent = if http11 && not other then Some Chunked else None
framing_by http11 _ other _ = None

-- Two fields that say it are refused, even if they say the same (section 6.3), and so is a request without its Host.
abbrev pub framing_of : Bool → KnownFields → Option Framing
framing_of http11 known =
    if has_host http11 known.hosts && not (nat_lt 1 known.framing_fields)
    then framing_by http11 known.transfer_encoding known.other_coding known.content_length else None
