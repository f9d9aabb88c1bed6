use Rattle.std.proofs.Common.{List, refl, sym, ap, length, arith}
use Rattle.std.specs.List.{flat_map}
use Rattle.ogg_page.specs.Numbers.{u16_bytes}
use Rattle.skeleton3.specs.Fields.{NamedValue}
use Rattle.feed_records.specs.Record.{packet_bytes, fields_bytes}
use Rattle.feed_records.specs.Laws.{stream_parts}
use Rattle.feed_records.proofs.WritingFacts.{grows_more, grows_as}
use Rattle.feed_records.proofs.writing.put_stream.Goals as goal

pub returns : goal.returns
returns c =
    let s = c.args.stream.now in
    let v = c.args.version in
    let headers = grows_as _ _ _ (flat_map packet_bytes s.headers) _ (length (flat_map packet_bytes s.headers))
    (ap (flat_map packet_bytes) c.as_slice.ensures) (ap (λ l. length (flat_map packet_bytes l)) c.as_slice.ensures) c.put_headers.ensures in
    let fields = grows_as _ _ _ (fields_bytes v s.fields) _ (length (fields_bytes v s.fields))
    (ap (λ (l : List NamedValue). fields_bytes v l) c.as_slice-2.ensures) (ap (λ (l : List NamedValue). length (fields_bytes v l)) c.as_slice-2.ensures) c.put_fields.ensures in
    let count = grows_as _ _ _ (u16_bytes (length s.headers)) _ 2 (ap u16_bytes c.len.ensures) refl c.put_u16.ensures in
    let ends = grows_more _ _ _ _ _ _ _ c.put_tail.ensures fields in
    let behind = grows_more _ _ _ _ _ _ _ headers ends in
    let counted = grows_more _ _ _ _ _ _ _ count behind in
    let whole = grows_more _ _ _ _ _ _ _ c.put_u32.ensures counted in
    grows_as _ _ _ _ _ _ (sym (stream_parts v s)) (omega arith) whole
