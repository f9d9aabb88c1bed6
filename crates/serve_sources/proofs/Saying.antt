-- From the answers of `httparse` to what a source's head says.
use Rattle.std.proofs.Common.{◌≡◌, ◌≢◌, ℕ, ◌≤◌, Bool, List, [], ◌++◌, length, take, drop, min, map, inl, inr, ◌==◌, codes, arith, ap, sym, ◌∙◌, subst, subst₂, append-nil}
use Rattle.std.proofs.lemmas.Bool.{cases_lt}
use Rattle.std.specs.Str.{bytes_eq}
use Rattle.httparse.specs.Grammar.{RequestHead, ReadsRequest, HasNoRequest, NeverHasRequest}
use Rattle.httparse.specs.Spans.{RequestOverflows, RequestExceeds, IsRequestAt, span_bytes, header_bytes, name_and_value}
use Rattle.httparse.specs.declared.Error.{Error}
use Rattle.httparse.specs.declared.Error.TheVariants.{TooManyHeaders}
use Rattle.httparse.specs.declared.spans.HeaderSpan.{HeaderSpan}
use Rattle.httparse.specs.declared.spans.RequestSpans.{RequestSpans}
use Rattle.http1.specs.Fields.{known_fields}
use Rattle.http1.specs.declared.fields.KnownFields.{KnownFields}
use Rattle.ogg_http.specs.Head.{IsHopeless, head_bytes, most_bytes, most_fields}
use Rattle.serve_sources.specs.declared.offer.Offer.{Offer}
use Rattle.serve_sources.specs.Asking.{HasHead, LacksHead}
use Rattle.serve_sources.specs.Credentials.{authorizes}
use Rattle.serve_sources.specs.Fields.{only}
use Rattle.serve_sources.specs.Offer.{IsOffer, Says, decision_by, decision_of}
use Rattle.ogg_http.specs.Laws.{front_is, front_is_all, by_error, few_fields}

-- no head is there, or each has too many fields
pub no_head : (n : ℕ) (bytes : List ℕ) → n ≡ min (length bytes) 8192 → HasNoRequest (take n bytes) → (head : RequestHead) → HasHead bytes head → ⊥
no_head n bytes e none head has =
    none head has.0 (subst (λ b. ReadsRequest b head has.0) (sym (front_is n bytes e)) has.1)

pub no_head_fits : (n : ℕ) (bytes : List ℕ) → n ≡ min (length bytes) 8192 → RequestOverflows most_fields (take n bytes) → (head : RequestHead) → HasHead bytes head → ⊥
no_head_fits n bytes e over head has =
    let same : head_bytes bytes ≡ take n bytes ++ [] = sym (front_is n bytes e) ∙ sym (append-nil (take n bytes)) in
    absurd (omega (arith, has.2, over [] head has.0 (subst (λ b. ReadsRequest b head has.0) same has.1)))

-- after an error no head comes, if not all the limit is there
pub hopeless : (n : ℕ) (bytes : List ℕ) (e : Error) → n ≡ min (length bytes) 8192 → (e ≢ TooManyHeaders → NeverHasRequest (take n bytes)) → (e ≡ TooManyHeaders → RequestExceeds most_fields (take n bytes)) → RequestOverflows most_fields (take n bytes) → LacksHead bytes
hopeless n bytes e is invalid many over =
    record {
      none = no_head_fits n bytes is over;
      cause = elim (cases_lt (length bytes) most_bytes) [
        | inr past ↦ inr past
        | inl short ↦ inl (subst IsHopeless (front_is_all n bytes is short) (record { cause = by_error e invalid many; never_read = over }))
      ];
    }

-- the spans are those of a head that is there
pub has_head : (n : ℕ) (bytes : List ℕ) (spans : List HeaderSpan) (found : RequestSpans) (head : RequestHead) → n ≡ min (length bytes) 8192 → length spans ≤ most_fields → IsRequestAt (take n bytes) spans found head → HasHead bytes head
has_head n bytes spans found head is room covers = (
  drop found.len (take n bytes),
  subst (λ b. ReadsRequest b head (drop found.len (take n bytes))) (front_is n bytes is) covers.reads,
  few_fields (take n bytes) spans found.headers head.fields covers.fields room,
)

-- the decision by the spans is that on the head
pub says : (bytes : List ℕ) (spans : List HeaderSpan) (found : RequestSpans) (head : RequestHead) (password : List ℕ) (is_source authorized : Bool) (known : KnownFields) (offer : Offer)
    → IsRequestAt bytes spans found head
    → is_source ≡ bytes_eq (span_bytes bytes found.method) (codes "SOURCE")
    → known ≡ known_fields (map (header_bytes bytes) (take found.headers spans))
    → authorized ≡ authorizes (only (codes "authorization") (map (header_bytes bytes) (take found.headers spans))) password
    → IsOffer found.len (decision_by is_source (found.version == 1) known authorized) offer
    → Says password head offer
says bytes spans found head password is_source authorized known offer covers source fields given decided =
    let by_source : is_source ≡ bytes_eq head.method (codes "SOURCE") = source ∙ ap (λ m. bytes_eq m (codes "SOURCE")) covers.method in
    let by_version : (found.version == 1) ≡ (head.minor == 1) = ap (λ n. n == 1) covers.version in
    let by_fields : known ≡ known_fields (map name_and_value head.fields) = fields ∙ ap known_fields covers.fields in
    let by_password : authorized ≡ authorizes (only (codes "authorization") (map name_and_value head.fields)) password =
    given ∙ ap (λ fs. authorizes (only (codes "authorization") fs) password) covers.fields in
    let decision : decision_by is_source (found.version == 1) known authorized ≡ decision_of password head =
    λ i. decision_by (by_source i) (by_version i) (by_fields i) (by_password i) in
    subst₂ (λ n d. IsOffer n d offer) covers.len decision decided
