-- From the answers of `httparse` to the request that they make.
use Rattle.std.proofs.Common.{◌≡◌, ℕ, ◌≤◌, List, [], ◌++◌, length, take, drop, min, map, ◌==◌, codes, option_copied, arith, ap, sym, ◌∙◌, subst, append-nil}
use Rattle.httparse.specs.Grammar.{RequestHead, ReadsRequest, HasNoRequest}
use Rattle.httparse.specs.Spans.{RequestOverflows, IsRequestAt, span_bytes, header_bytes}
use Rattle.httparse.specs.declared.spans.HeaderSpan.{HeaderSpan}
use Rattle.httparse.specs.declared.spans.RequestSpans.{RequestSpans}
use Rattle.ogg_http.specs.declared.head.Request.{Request}
use Rattle.ogg_http.specs.Fields.{count_of, range_in}
use Rattle.ogg_http.specs.Head.{HoldsRequest, head_bytes, most_fields, verb_of}
use Rattle.ogg_http.specs.Laws.{front_is, few_fields}

-- if no head is in the front, none is found
pub none_found : (n : ℕ) (bytes : List ℕ) → n ≡ min (length bytes) 8192 → HasNoRequest (take n bytes) → (head : RequestHead) (rest : List ℕ) → ReadsRequest (head_bytes bytes) head rest → ⊥
none_found n bytes e none head rest reads =
    none head rest (subst (λ b. ReadsRequest b head rest) (sym (front_is n bytes e)) reads)

-- if each head has too many fields, no head with few fields is found
pub none_fits : (n : ℕ) (bytes : List ℕ) → n ≡ min (length bytes) 8192 → RequestOverflows most_fields (take n bytes) → (head : RequestHead) (rest : List ℕ) → ReadsRequest (head_bytes bytes) head rest → length head.fields ≤ most_fields → ⊥
none_fits n bytes e over head rest reads few =
    let same : head_bytes bytes ≡ take n bytes ++ [] = sym (front_is n bytes e) ∙ sym (append-nil (take n bytes)) in
    absurd (omega (arith, few, over [] head rest (subst (λ b. ReadsRequest b head rest) same reads)))

-- the parts of the request are those that the spans cover
pub holds_request : (bytes : List ℕ) (spans : List HeaderSpan) (found : RequestSpans) (head : RequestHead) (request : Request)
    → IsRequestAt bytes spans found head
    → length spans ≤ most_fields
    → request.used ≡ found.len
    → request.verb ≡ verb_of (span_bytes bytes found.method)
    → request.target.now ≡ span_bytes bytes found.path
    → request.http11 ≡ (found.version == 1)
    → request.hosts ≡ count_of (codes "host") (map (header_bytes bytes) (take found.headers spans))
    → option_copied request.range ≡ range_in (map (header_bytes bytes) (take found.headers spans))
    → HoldsRequest bytes head request
holds_request bytes spans found head request covers few used verb target http11 hosts range = record {
  reads = subst (λ n. ReadsRequest bytes head (drop n bytes)) (sym used) covers.reads;
  used = used ∙ covers.len;
  room = few_fields bytes spans found.headers head.fields covers.fields few;
  verb = verb ∙ ap verb_of covers.method;
  target = target ∙ covers.path;
  http11 = http11 ∙ ap (λ n. n == 1) covers.version;
  hosts = hosts ∙ ap (count_of (codes "host")) covers.fields;
  range = range ∙ ap range_in covers.fields;
}
