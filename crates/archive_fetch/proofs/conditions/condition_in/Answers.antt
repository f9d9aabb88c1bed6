use Rattle.std.proofs.Common.{◌≡◌, ℕ, ◌≤◌, List, [], ◌++◌, length, take, min, codes, arith, ap, sym, ◌∙◌, subst, append-nil}
use Rattle.httparse.specs.Grammar.{RequestHead, ReadsRequest, HasNoRequest}
use Rattle.httparse.specs.Spans.{RequestOverflows, IsRequestAt}
use Rattle.ogg_http.specs.Fields.{first_of_name}
use Rattle.ogg_http.specs.Head.{head_bytes, most_fields}
use Rattle.ogg_http.specs.Laws.{front_is, is_complete_and, on_partial}
use Rattle.archive_fetch.proofs.conditions.condition_in.Goals as goal

-- if no head is in the front, none is found
none_found : (n : ℕ) (bytes : List ℕ) → n ≡ min (length bytes) 8192 → HasNoRequest (take n bytes) → (head : RequestHead) (rest : List ℕ) → ReadsRequest (head_bytes bytes) head rest → ⊥
none_found n bytes e none head rest reads =
    none head rest (subst (λ b. ReadsRequest b head rest) (sym (front_is n bytes e)) reads)

-- if each head has too many fields, no head with few fields is found
none_fits : (n : ℕ) (bytes : List ℕ) → n ≡ min (length bytes) 8192 → RequestOverflows most_fields (take n bytes) → (head : RequestHead) (rest : List ℕ) → ReadsRequest (head_bytes bytes) head rest → length head.fields ≤ most_fields → ⊥
none_fits n bytes e over head rest reads few =
    let same : head_bytes bytes ≡ take n bytes ++ [] = sym (front_is n bytes e) ∙ sym (append-nil (take n bytes)) in
    absurd (omega (arith, few, over [] head rest (subst (λ b. ReadsRequest b head rest) same reads)))

pub returns-in-Ok-Complete : goal.returns-in-Ok-Complete
returns-in-Ok-Complete c head rest reads few =
    let spans = c.parse_request.new.headers in
    let same = front_is c.min.result c.args.front.now c.min.ensures in
    let covers : IsRequestAt (take c.min.result c.args.front.now) spans c.in-Ok-Complete.head head =
    is_complete_and c.in-Ok-Complete.field-0 c.in-Ok-Complete.head _ c.in-Ok-Complete.field-0-is
    (c.in-Ok-Complete.ensures.found head rest (subst (λ b. ReadsRequest b head rest) (sym same) reads) few) in
    c.first_of_name.ensures ∙ ap (first_of_name (codes "if-none-match")) covers.fields

pub returns-in-Ok-Partial : goal.returns-in-Ok-Partial
returns-in-Ok-Partial c head rest reads few =
    absurd (none_found c.min.result c.args.front.now c.min.ensures
    (on_partial c.in-Ok-Partial.field-0 _ c.in-Ok-Partial.field-0-is c.in-Ok-Partial.ensures.partial) head rest reads)

pub returns-in-Err : goal.returns-in-Err
returns-in-Err c head rest reads few =
    absurd (none_fits c.min.result c.args.front.now c.min.ensures c.in-Err.ensures.no_room head rest reads few)
