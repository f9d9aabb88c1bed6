use Rattle.std.proofs.Common.{◌≤◌, take, length, arith, rules, ap, sym, ◌∙◌, subst, Err, inl, inr, refl, codes, map}
use Rattle.std.specs.Str.{bytes_eq}
use Rattle.httparse.specs.Grammar.{ReadsRequest}
use Rattle.httparse.specs.Spans.{IsRequestOf, IsRequestAt, header_bytes}
use Rattle.serve_sources.specs.Credentials.{authorizes}
use Rattle.serve_sources.specs.Fields.{only}
use Rattle.ogg_http.specs.Head.{most_fields}
use Rattle.serve_sources.proofs.Saying.{no_head, no_head_fits, hopeless, has_head, says}
use Rattle.ogg_http.specs.Laws.{front_is, on_partial, if_complete, is_complete_and}
use Rattle.serve_sources.proofs.offer.Offer.of.Goals as goal

pub returns-in-Ok-Complete-clause-says : goal.returns-in-Ok-Complete-clause-says
returns-in-Ok-Complete-clause-says c head has =
    let bytes = take c.min.result c.args.front.now in
    let spans = c.parse_request.new.headers in
    let found = c.in-Ok-Complete.head in
    let reads : ReadsRequest bytes head has.0 =
    subst (λ b. ReadsRequest b head has.0) (sym (front_is c.min.result _ c.min.ensures)) has.1 in
    let covers : IsRequestAt bytes spans found head =
    is_complete_and c.in-Ok-Complete.field-0 found _ c.in-Ok-Complete.field-0-is (c.in-Ok-Complete.ensures.found head has.0 reads has.2) in
    says bytes spans found head _ c.says_source-is_source.result c.authorizes-authorized.result c.from_spans-known.result c.decide.result
    covers
    (c.says_source-is_source.ensures ∙ ap (λ m. bytes_eq m (codes "SOURCE")) c.of.ensures)
    c.from_spans-known.ensures
    (c.authorizes-authorized.ensures ∙ ap (authorizes (only (codes "authorization") (map (header_bytes bytes) (take found.headers spans)))) c.as_slice.ensures)
    c.decide.ensures

pub returns-in-Ok-Complete-clause-each : goal.returns-in-Ok-Complete-clause-each
returns-in-Ok-Complete-clause-each c =
    let bytes = take c.min.result c.args.front.now in
    let spans = c.parse_request.new.headers in
    let found = c.in-Ok-Complete.head in
    let (head, covers) = if_complete c.in-Ok-Complete.field-0 found (IsRequestOf bytes spans) c.in-Ok-Complete.field-0-is c.in-Ok-Complete.ensures.complete in
    let room : length spans ≤ most_fields = omega (arith, c.parse_request.auto.headers) in
    inl (
      head,
      has_head c.min.result c.args.front.now spans found head c.min.ensures room covers,
      says bytes spans found head _ c.says_source-is_source.result c.authorizes-authorized.result c.from_spans-known.result c.decide.result
          covers
          (c.says_source-is_source.ensures ∙ ap (λ m. bytes_eq m (codes "SOURCE")) c.of.ensures)
          c.from_spans-known.ensures
          (c.authorizes-authorized.ensures ∙ ap (authorizes (only (codes "authorization") (map (header_bytes bytes) (take found.headers spans)))) c.as_slice.ensures)
          c.decide.ensures,
    )

pub returns-then-front-lt-MOST_BYTES-clause-says : goal.returns-then-front-lt-MOST_BYTES-clause-says
returns-then-front-lt-MOST_BYTES-clause-says c head has =
    absurd (no_head c.min.result c.args.front.now c.min.ensures
    (on_partial c.in-Ok-Partial.field-0 _ c.in-Ok-Partial.field-0-is c.in-Ok-Partial.ensures.partial) head has)

pub returns-else-front-lt-MOST_BYTES-clause-says : goal.returns-else-front-lt-MOST_BYTES-clause-says
returns-else-front-lt-MOST_BYTES-clause-says c head has =
    absurd (no_head c.min.result c.args.front.now c.min.ensures
    (on_partial c.in-Ok-Partial.field-0 _ c.in-Ok-Partial.field-0-is c.in-Ok-Partial.ensures.partial) head has)

pub returns-in-Err-clause-says : goal.returns-in-Err-clause-says
returns-in-Err-clause-says c head has =
    absurd (no_head_fits c.min.result c.args.front.now c.min.ensures c.in-Err.ensures.no_room head has)

pub returns-in-Err-clause-each : goal.returns-in-Err-clause-each
returns-in-Err-clause-each c =
    inr (
      refl,
      hopeless c.min.result c.args.front.now c.in-Err.field-0 c.min.ensures c.in-Err.ensures.invalid
          (λ e. c.in-Err.ensures.too_many (ap Err e)) c.in-Err.ensures.no_room,
    )

pub returns-else-front-lt-MOST_BYTES-clause-each : goal.returns-else-front-lt-MOST_BYTES-clause-each
returns-else-front-lt-MOST_BYTES-clause-each c =
    let past : 8192 ≤ length c.args.front.now = search rules in
    inr (
      refl,
      record {
        none = no_head c.min.result c.args.front.now c.min.ensures
            (on_partial c.in-Ok-Partial.field-0 _ c.in-Ok-Partial.field-0-is c.in-Ok-Partial.ensures.partial);
        cause = inr past;
      },
    )
