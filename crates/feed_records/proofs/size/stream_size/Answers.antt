use Rattle.std.proofs.Common.{ap, length, arith}
use Rattle.std.specs.List.{flat_map}
use Rattle.skeleton3.specs.Fields.{NamedValue}
use Rattle.std.proofs.Common.{List}
use Rattle.feed_records.specs.Record.{packet_bytes, fields_bytes}
use Rattle.feed_records.proofs.SizeFacts.{length-stream_bytes}
use Rattle.feed_records.proofs.size.stream_size.Goals as goal

pub headers_size-requires : goal.headers_size-requires
headers_size-requires c =
    let whole = length-stream_bytes c.args.version c.args.stream.now in
    let same = ap (λ l. length (flat_map packet_bytes l)) c.as_slice.ensures in
    omega (arith, c.requires, whole, same)

pub overflow_add-result : goal.overflow_add-result
overflow_add-result c =
    let whole = length-stream_bytes c.args.version c.args.stream.now in
    let same = ap (λ l. length (flat_map packet_bytes l)) c.as_slice.ensures in
    omega (arith, c.requires, whole, same, c.headers_size.ensures)

pub overflow_add-result-2 : goal.overflow_add-result-2
overflow_add-result-2 c =
    let whole = length-stream_bytes c.args.version c.args.stream.now in
    let same = ap (λ l. length (flat_map packet_bytes l)) c.as_slice.ensures in
    omega (arith, c.requires, whole, same, c.headers_size.ensures, c.len.ensures)

pub fields_size-requires : goal.fields_size-requires
fields_size-requires c =
    let whole = length-stream_bytes c.args.version c.args.stream.now in
    let same = ap (λ (l : List NamedValue). length (fields_bytes c.args.version l)) c.as_slice-2.ensures in
    omega (arith, c.requires, whole, same)

pub overflow_add-result-3 : goal.overflow_add-result-3
overflow_add-result-3 c =
    let whole = length-stream_bytes c.args.version c.args.stream.now in
    let headers = ap (λ l. length (flat_map packet_bytes l)) c.as_slice.ensures in
    let fields = ap (λ (l : List NamedValue). length (fields_bytes c.args.version l)) c.as_slice-2.ensures in
    omega (arith, c.requires, whole, headers, fields, c.headers_size.ensures, c.len.ensures, c.fields_size.ensures)

pub returns : goal.returns
returns c =
    let whole = length-stream_bytes c.args.version c.args.stream.now in
    let headers = ap (λ l. length (flat_map packet_bytes l)) c.as_slice.ensures in
    let fields = ap (λ (l : List NamedValue). length (fields_bytes c.args.version l)) c.as_slice-2.ensures in
    omega (arith, whole, headers, fields, c.headers_size.ensures, c.len.ensures, c.fields_size.ensures)
