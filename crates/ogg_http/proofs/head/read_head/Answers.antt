use Rattle.std.proofs.Common.{◌≤◌, ◌==◌, take, length, arith, refl, ap, sym, ◌∙◌, subst, Err}
use Rattle.httparse.specs.Grammar.{ReadsRequest}
use Rattle.httparse.specs.Spans.{IsRequestOf, IsRequestAt}
use Rattle.ogg_http.specs.declared.head.Request.{Request}
use Rattle.ogg_http.specs.Head.{HoldsRequest, IsHopeless, most_fields, verb_of}
use Rattle.ogg_http.proofs.HeadParts.{none_found, none_fits, holds_request}
use Rattle.ogg_http.specs.Laws.{front_is, front_is_all, on_partial, if_complete, is_complete_and, by_error}
use Rattle.ogg_http.proofs.head.read_head.Goals as goal

pub returns-in-Ok-Complete-clause-whole : goal.returns-in-Ok-Complete-clause-whole
returns-in-Ok-Complete-clause-whole c =
    let spans = c.parse_request.new.headers in
    let found = c.in-Ok-Complete.head in
    let same = front_is c.min.result c.args.bytes.now c.min.ensures in
    let (head, covers) = if_complete c.in-Ok-Complete.field-0 found (IsRequestOf (take c.min.result c.args.bytes.now) spans) c.in-Ok-Complete.field-0-is c.in-Ok-Complete.ensures.complete in
    let few : length spans ≤ most_fields = omega (arith, c.parse_request.auto.headers) in
    let request : Request = record { verb = c.verb_of.result; target = c.of-in-Ok-Complete.result; http11 = found.version == 1; hosts = c.count_of.result; range = c.range_in.result; used = found.len } in (
      head,
      subst (λ b. HoldsRequest b head request) same
          (holds_request _ spans found head request covers few refl
          (c.verb_of.ensures ∙ ap verb_of c.of.ensures) c.of-in-Ok-Complete.ensures refl c.count_of.ensures c.range_in.ensures),
    )

pub returns-in-Ok-Complete-clause-found : goal.returns-in-Ok-Complete-clause-found
returns-in-Ok-Complete-clause-found c head rest reads fits =
    let spans = c.parse_request.new.headers in
    let found = c.in-Ok-Complete.head in
    let same = front_is c.min.result c.args.bytes.now c.min.ensures in
    let covers : IsRequestAt (take c.min.result c.args.bytes.now) spans found head =
    is_complete_and c.in-Ok-Complete.field-0 found _ c.in-Ok-Complete.field-0-is
    (c.in-Ok-Complete.ensures.found head rest (subst (λ b. ReadsRequest b head rest) (sym same) reads) fits) in
    let few : length spans ≤ most_fields = omega (arith, c.parse_request.auto.headers) in
    let request : Request = record { verb = c.verb_of.result; target = c.of-in-Ok-Complete.result; http11 = found.version == 1; hosts = c.count_of.result; range = c.range_in.result; used = found.len } in
    subst (λ b. HoldsRequest b head request) same
    (holds_request _ spans found head request covers few refl
    (c.verb_of.ensures ∙ ap verb_of c.of.ensures) c.of-in-Ok-Complete.ensures refl c.count_of.ensures c.range_in.ensures)

pub returns-then-front-lt-MOST_BYTES-clause-found :
    goal.returns-then-front-lt-MOST_BYTES-clause-found
returns-then-front-lt-MOST_BYTES-clause-found c head rest reads fits =
    none_found c.min.result c.args.bytes.now c.min.ensures
    (on_partial c.in-Ok-Partial.field-0 _ c.in-Ok-Partial.field-0-is c.in-Ok-Partial.ensures.partial) head rest reads

pub returns-else-front-lt-MOST_BYTES-clause-found :
    goal.returns-else-front-lt-MOST_BYTES-clause-found
returns-else-front-lt-MOST_BYTES-clause-found c head rest reads fits =
    none_found c.min.result c.args.bytes.now c.min.ensures
    (on_partial c.in-Ok-Partial.field-0 _ c.in-Ok-Partial.field-0-is c.in-Ok-Partial.ensures.partial) head rest reads

pub returns-in-Err-clause-found : goal.returns-in-Err-clause-found
returns-in-Err-clause-found c head rest reads fits =
    none_fits c.min.result c.args.bytes.now c.min.ensures c.in-Err.ensures.no_room head rest reads fits

pub returns-in-Err-clause-bad : goal.returns-in-Err-clause-bad
returns-in-Err-clause-bad c bad short =
    subst IsHopeless (front_is_all c.min.result c.args.bytes.now c.min.ensures short)
    record {
      cause = by_error c.in-Err.field-0 c.in-Err.ensures.invalid (λ e. c.in-Err.ensures.too_many (ap Err e));
      never_read = c.in-Err.ensures.no_room;
    }
