use Rattle.std.proofs.Common.{◌≡◌, ◌+◌, ◌∙◌, ap, sym, List, ℕ, take, arith}
use Rattle.page_checksum.specs.Checksum.{checksum_of}
use Rattle.ogg_page.specs.Reading.{blanked}
use Rattle.ogg_page.specs.Laws.Headers.{header_found, body_is_short, checksum_is_wrong, page_is_right}
use Rattle.ogg_page.proofs.reading.sizes_of_page.Goals as goal

pub returns-then-bytes-size : goal.returns-then-bytes-size
returns-then-bytes-size c =
    let found = header_found c.args.bytes.now c.in_ok-header.header (sym c.read_header.ensures.exact ∙ c.in_ok-header.was) in
    body_is_short c.args.bytes.now c.in_ok-header.header found (omega (arith, c.if-bytes-size.true))

pub returns-then-header-blanked_checksum : goal.returns-then-header-blanked_checksum
returns-then-header-blanked_checksum c =
    let bytes : List ℕ = c.args.bytes.now in
    let header = c.in_ok-header.header in
    let found = header_found bytes header (sym c.read_header.ensures.exact ∙ c.in_ok-header.was) in
    let sum : c.blanked_checksum.result ≡ checksum_of (blanked (take (27 + header.values + header.body) bytes)) =
    c.blanked_checksum.ensures ∙ ap (λ l. checksum_of (blanked l)) c.split_at.ensures.front in
    checksum_is_wrong bytes header found (omega (arith, c.if-bytes-size.false)) (λ is. c.if-header-blanked_checksum.true (is ∙ sym sum))

pub returns : goal.returns
returns c =
    let bytes : List ℕ = c.args.bytes.now in
    let header = c.in_ok-header.header in
    let found = header_found bytes header (sym c.read_header.ensures.exact ∙ c.in_ok-header.was) in
    let sum : c.blanked_checksum.result ≡ checksum_of (blanked (take (27 + header.values + header.body) bytes)) =
    c.blanked_checksum.ensures ∙ ap (λ l. checksum_of (blanked l)) c.split_at.ensures.front in
    record {
      page = page_is_right bytes header found (omega (arith, c.if-bytes-size.false)) (c.if-header-blanked_checksum.false ∙ sum);
      table = found.values;
      body = found.body;
      whole = omega (arith, c.if-bytes-size.false);
    }
