use Rattle.std.proofs.Common.{◌≡◌, ◌≤◌, take, map}
use Rattle.httparse.specs.Spans.{header_bytes}
use Rattle.ogg_http.specs.Fields.{count_of}
use Rattle.ogg_http.proofs.fields.count_of.Given as goal

-- the count of the fields so far
abbrev pub invariant-loop-field : goal.invariant-loop-field
invariant-loop-field l =
    (l.count ≤ l.field-index)
    × (l.count ≡ count_of l.wanted (map (header_bytes l.bytes) (take l.field-index l.fields)))
