-- What was asked for stays, whatever follows.
use Rattle.std.proofs.Common.{◌≡◌, ℕ, ◌+◌, ◌-◌, ◌<◌, ◌≤◌, Bool, true, false, cond, nat_eq, List, [], ◌∷◌, ◌++◌, ◌⊎◌, Option, Some, None, ◌&&◌, ◌==◌, not, map, length, take, drop, slice_index, codes, inl, inr, arith, refl, ap, sym, ◌∙◌, subst, append_assoc, append-nil}
use Rattle.std.proofs.lemmas.Bool.{and_parts, cases_lt, or_cases, or_left, or_right}
use Rattle.std.proofs.lemmas.List.{take-append-le, take_all, drop-take, drop-append-le, length-append, length-take}
use Rattle.std.proofs.lemmas.List.Elements.{All-cons, All-nil}
use Rattle.std.proofs.Math.Seq.{take-append-add}
use Rattle.std.specs.List.{starts_with}
use Rattle.httparse.specs.Grammar.{LineEnd, crlf, lf, AllPass, is_token_byte, RequestHead, IsRequestHead, ReadsRequest, print_request, print_blank, print_version, print_end, print_section}
use Rattle.httparse.proofs.GrammarLemmas.{print_request-append, request_unique, ReadsRequest-append}
use Rattle.httparse.proofs.PieceLemmas.{space_ends_token}
use Rattle.httparse.proofs.RunLemmas.{run_unique}
use Rattle.ogg_http.specs.Head.{head_bytes}
use Rattle.serve_sources.specs.Asking.{HasHead, IsOther, IsOwn, AsksOther, LacksHead, named, named_by, is_source, listener_method, may_be_listener, may_be_own, may_be_source, may_name_own}
use Rattle.ogg_http.specs.Fields.{count_of}
use Rattle.httparse.specs.Spans.{name_and_value}
use Rattle.serve_sources.specs.Own.{own_of}
use Rattle.serve_sources.specs.declared.own.OwnResource.{OwnResource}
use Rattle.serve_sources.proofs.Fronts.{began, starts_grown, starts_so}
use Rattle.serve_sources.proofs.Methods.{begins, first_of, one_method}
use Rattle.serve_sources.proofs.Targets.{names_on}

-- ---- sources
pub source_stays : (front more : List ℕ) → is_source front ≡ true → is_source (front ++ more) ≡ true
source_stays front more source =
    elim (or_cases _ _ source) [
      | inl put ↦ or_left _ _ (starts_grown front (codes "PUT ") more put)
      | inr other ↦ or_right _ _ (starts_grown front (codes "SOURCE ") more other)
    ]

-- a method that comes was there, or a front of it was
source_began : (front more : List ℕ) → is_source (front ++ more) ≡ true → (is_source front ≡ true) ⊎ (may_be_source front ≡ true)
source_began front more source =
    elim (or_cases _ _ source) [
      | inl put ↦ elim (began front more (codes "PUT ") put) [
        | inl whole ↦ inl (or_left _ _ whole)
        | inr part ↦ inr (or_left _ _ part.1)
      ]
      | inr other ↦ elim (began front more (codes "SOURCE ") other) [
        | inl whole ↦ inl (or_right _ _ whole)
        | inr part ↦ inr (or_right _ _ part.1)
      ]
    ]

no_source_comes : (front more : List ℕ) → is_source front ≡ false → may_be_source front ≡ false → is_source (front ++ more) ≡ true → ⊥
no_source_comes front more none nor source =
    elim (source_began front more source) [
      | inl h ↦ absurd (cc (sym h ∙ none))
      | inr h ↦ absurd (cc (sym h ∙ nor))
    ]

-- ---- heads
-- the bytes in which a head is looked for go on
head_grows : (front more : List ℕ) → (rest : List ℕ) × (head_bytes (front ++ more) ≡ head_bytes front ++ rest)
head_grows front more =
    elim (cases_lt (length front) 8192) [
      | inl short ↦
          let most : 8192 ≡ length front + (8192 - length front) = omega (arith, short) in (
            take (8192 - length front) more,
            ap (λ n. take n (front ++ more)) most
                ∙ take-append-add front more (8192 - length front)
                ∙ ap (λ t. t ++ take (8192 - length front) more) (sym (take_all 8192 front (omega (arith, short)))),
          )
      | inr long ↦ ([], take-append-le 8192 front more long ∙ sym (append-nil (head_bytes front)))
    ]

pub has_grown : (front more : List ℕ) (request : RequestHead) → HasHead front request → HasHead (front ++ more) request
has_grown front more request has =
    let (rest, grown) = head_grows front more in
    (has.0 ++ rest, subst (λ b. ReadsRequest b request (has.0 ++ rest)) (sym grown) (ReadsRequest-append (head_bytes front) request has.0 rest has.1), has.2)

pub own_stays : (resource : OwnResource) (head : Bool) (front more : List ℕ) → IsOwn resource head front → IsOwn resource head (front ++ more)
own_stays resource head front more own = record {
  method = starts_grown front (listener_method head) more own.method;
  request = own.request;
  has = has_grown front more own.request own.has;
  names = own.names;
}

-- if no head is there within the limit, none comes
pub no_head_comes : (front more : List ℕ) → LacksHead front → (request : RequestHead) → HasHead (front ++ more) request → ⊥
no_head_comes front more lacks request has =
    elim (cases_lt (length front) 8192) [
      | inl short ↦
          let most : 8192 ≡ length front + (8192 - length front) = omega (arith, short) in
          let grown : head_bytes (front ++ more) ≡ front ++ take (8192 - length front) more =
          ap (λ n. take n (front ++ more)) most ∙ take-append-add front more (8192 - length front) in
          let reads : ReadsRequest (front ++ take (8192 - length front) more) request has.0 =
          subst (λ b. ReadsRequest b request has.0) grown has.1 in
          elim lacks.cause [
            | inl hopeless ↦ absurd (omega (arith, has.2, hopeless.never_read (take (8192 - length front) more) request has.0 reads))
            | inr past ↦ absurd (omega (arith, short, past))
          ]
      | inr long ↦
          lacks.none request (has.0, subst (λ b. ReadsRequest b request has.0) (take-append-le 8192 front more long) has.1, has.2)
    ]

-- ---- the request line
-- no line end is the first byte of a method
no_line_end_first : (blank : List LineEnd) (c : ℕ) (p text rest : List ℕ) → 13 < c → slice_index text 0 ≡ c → text ≡ print_blank blank ++ rest → print_blank blank ≡ []
no_line_end_first [] c p text rest visible first e = refl
no_line_end_first (crlf ∷ blank) c p text rest visible first e =
    let here : slice_index text 0 ≡ 13 = ap (λ l. slice_index l 0) e in absurd (omega (arith, visible, first, here))
no_line_end_first (lf ∷ blank) c p text rest visible first e =
    let here : slice_index text 0 ≡ 10 = ap (λ l. slice_index l 0) e in absurd (omega (arith, visible, first, here))

-- what follows the method in the bytes of a head
behind_method : (word text : List ℕ) (request : RequestHead) (rest : List ℕ) → AllPass is_token_byte word → print_blank request.blank ≡ [] → ReadsRequest text request rest → starts_with nat_eq text (word ++ 32 ∷ []) ≡ true → (after : List ℕ) × (drop (length word + 1) text ≡ request.target ++ 32 ∷ after)
behind_method word text request rest pass plain reads starts =
    let after : List ℕ = print_version request.minor ++ (print_end request.line_end ++ (print_section request.fields request.last ++ rest)) in
    let spelt : text ≡ request.method ++ 32 ∷ (request.target ++ 32 ∷ after) =
    reads.1 ∙ print_request-append request rest ∙ ap (λ b. b ++ (request.method ++ 32 ∷ (request.target ++ 32 ∷ after))) plain in
    let behind : List ℕ = drop (length (word ++ 32 ∷ [])) text in
    let begun : text ≡ word ++ 32 ∷ behind = begins text (word ++ 32 ∷ []) starts ∙ append_assoc word (32 ∷ []) behind in
    let (same, rests) = run_unique is_token_byte request.method word (32 ∷ (request.target ++ 32 ∷ after)) (32 ∷ behind)
    reads.0.method.1 pass space_ends_token space_ends_token (sym spelt ∙ begun) in
    let size : length (word ++ 32 ∷ []) ≡ length word + 1 = length-append word (32 ∷ []) in
    (after, ap (λ n. drop n text) (sym size) ∙ ap (λ l. drop 1 l) (sym rests))

-- the bytes after the method come first, and then those that follow
drop_front : (n : ℕ) (front more : List ℕ) → n ≤ length front → n ≤ 8192 → drop n (take 8192 (front ++ more)) ≡ take (8192 - n) (drop n front ++ more)
drop_front n front more within most =
    let whole : 8192 ≡ n + (8192 - n) = omega (arith, most) in
    ap (λ k. drop n (take k (front ++ more))) whole
    ∙ drop-take n (8192 - n) (front ++ more)
    ∙ ap (take (8192 - n)) (drop-append-le n front more within)

-- what begins a text begins its first 8,192 bytes
starts_in_head : (text front : List ℕ) → length front ≤ 8192 → starts_with nat_eq text front ≡ true → starts_with nat_eq (take 8192 text) front ≡ true
starts_in_head text front within starts =
    let whole : 8192 ≡ length front + (8192 - length front) = omega (arith, within) in
    let behind : List ℕ = drop (length front) text in
    starts_so (take 8192 text) front (take (8192 - length front) behind)
    (ap (take 8192) (begins text front starts) ∙ ap (λ k. take k (front ++ behind)) whole ∙ take-append-add front behind (8192 - length front))

-- if a head comes after this method that names this, the line may name it
named_in_line : (resource : OwnResource) (c : ℕ) (p front more : List ℕ) (request : RequestHead) → 13 < c → length p ≤ 100 → AllPass is_token_byte (c ∷ p) → starts_with nat_eq front ((c ∷ p) ++ 32 ∷ []) ≡ true → HasHead (front ++ more) request → own_of request.target ≡ Some resource → may_name_own (drop (length (c ∷ p) + 1) front) ≡ true
named_in_line resource c p front more request visible few pass starts has own =
    let n : ℕ = length (c ∷ p) + 1 in
    let word : List ℕ = (c ∷ p) ++ 32 ∷ [] in
    let size : length word ≡ n = length-append (c ∷ p) (32 ∷ []) in
    let text : List ℕ = head_bytes (front ++ more) in
    let begun : starts_with nat_eq text word ≡ true = starts_in_head (front ++ more) word (omega (arith, size, few)) (starts_grown front word more starts) in
    let plain : print_blank request.blank ≡ [] =
    no_line_end_first request.blank c (p ++ 32 ∷ []) text _ visible (first_of c (p ++ 32 ∷ []) text begun) (has.1.1 ∙ print_request-append request has.0) in
    let (after, line) = behind_method (c ∷ p) text request has.0 pass plain has.1 begun in
    let sizes : length front ≡ length word + length (drop (length word) front) = ap length (begins front word starts) ∙ length-append word (drop (length word) front) in
    names_on resource (drop n front) more request.target after (8192 - n)
    (sym (drop_front n front more (omega (arith, size, sizes)) (omega (arith, few))) ∙ line)
    has.1.0.target.1 own

-- ---- other requests
is_false : (b : Bool) → (b ≡ true → ⊥) → b ≡ false
is_false true h = absurd (h refl)
is_false false h = refl

by_first : (l g x z : Bool) → g ≡ true → x ≡ true → cond l true (cond g x z) ≡ true
by_first true g x z is live = refl
by_first false true x z is live = live
by_first false false x z is live = absurd (cc is)

by_second : (l g h x y z : Bool) → g ≡ false → h ≡ true → y ≡ true → cond l true (cond g x (cond h y z)) ≡ true
by_second true g h x y z other is live = refl
by_second false true h x y z other is live = absurd (cc other)
by_second false false true x y z other is live = live
by_second false false false x y z other is live = absurd (cc is)

get_is_token : AllPass is_token_byte (codes "GET")
unfolding is_token_byte
get_is_token =
    let P : ℕ → Type 0 = λ b. is_token_byte b ≡ true in
    All-cons P 71 (codes "ET") refl (All-cons P 69 (codes "T") refl (All-cons P 84 [] refl (All-nil P)))

head_is_token : AllPass is_token_byte (codes "HEAD")
unfolding is_token_byte
head_is_token =
    let P : ℕ → Type 0 = λ b. is_token_byte b ≡ true in
    All-cons P 72 (codes "EAD") refl (All-cons P 69 (codes "AD") refl (All-cons P 65 (codes "D") refl (All-cons P 68 [] refl (All-nil P))))

-- what a head names, its target names
by_target : (strict : Bool) (found : Option OwnResource) (resource : OwnResource) → cond strict None found ≡ Some resource → found ≡ Some resource
by_target true found resource e = absurd (cc e)
by_target false found resource e = e

target_names : (resource : OwnResource) (request : RequestHead) → named_by request ≡ Some resource → own_of request.target ≡ Some resource
target_names resource request e =
    by_target ((request.minor == 1) && not (count_of (codes "host") (map name_and_value request.fields) == 1)) (own_of request.target) resource e

-- the line of such a head that comes may be one
line_may : (resource : OwnResource) (head : Bool) (front more : List ℕ) → IsOwn resource head (front ++ more) → may_be_own front ≡ true
line_may resource false front more own =
    elim (began front more (codes "GET ") own.method) [
      | inl whole ↦ by_first (may_be_listener front) (starts_with nat_eq front (codes "GET ")) (may_name_own (drop 4 front)) _ whole
          (named_in_line resource 71 (codes "ET") front more own.request (omega arith) (omega arith) get_is_token whole own.has (target_names resource own.request own.names))
      | inr part ↦ ap (λ l. cond l true (cond (starts_with nat_eq front (codes "GET ")) (may_name_own (drop 4 front))
          (cond (starts_with nat_eq front (codes "HEAD ")) (may_name_own (drop 5 front)) false))) (or_left _ _ part.1)
    ]
line_may resource true front more own =
    elim (began front more (codes "HEAD ") own.method) [
      | inl whole ↦ by_second (may_be_listener front) (starts_with nat_eq front (codes "GET ")) (starts_with nat_eq front (codes "HEAD ")) (may_name_own (drop 4 front)) (may_name_own (drop 5 front)) false
          (is_false _ (λ other. absurd (cc (one_method front false true other whole)))) whole
          (named_in_line resource 72 (codes "EAD") front more own.request (omega arith) (omega arith) head_is_token whole own.has (target_names resource own.request own.names))
      | inr part ↦ ap (λ l. cond l true (cond (starts_with nat_eq front (codes "GET ")) (may_name_own (drop 4 front))
          (cond (starts_with nat_eq front (codes "HEAD ")) (may_name_own (drop 5 front)) false))) (or_right _ _ part.1)
    ]

-- a head has more bytes than a method and a space
long_enough : (request : RequestHead) → IsRequestHead request → 5 < length (print_request request)
long_enough request is =
    let after : List ℕ = print_end request.line_end ++ (print_section request.fields request.last ++ []) in
    let line : List ℕ = print_version request.minor ++ after in
    let target : List ℕ = request.target ++ 32 ∷ line in
    let sizes : length (print_request request ++ []) ≡ length (print_blank request.blank ++ (request.method ++ 32 ∷ target)) = ap length (print_request-append request []) in
    omega (
      arith,
      sizes,
      length-append (print_request request) [],
      length-append (print_blank request.blank) (request.method ++ 32 ∷ target),
      length-append request.method (32 ∷ target),
      length-append request.target (32 ∷ line),
      length-append (print_version request.minor) after,
      version_size request.minor,
      is.method.0,
      is.target.0,
    )
  where
    version_size : (minor : ℕ) → length (print_version minor) ≡ 8
    version_size minor = refl

method_size : (head : Bool) → length (listener_method head) ≤ 5
method_size false = omega arith
method_size true = omega arith

-- the head that is there stays the one that is there
head_stays : (resource : OwnResource) (head : Bool) (front more : List ℕ) → AsksOther front → IsOwn resource head (front ++ more) → ⊥
head_stays resource head front more (request, has, none) own =
    let same : request ≡ own.request =
    (request_unique (head_bytes (front ++ more)) request own.request _ _ (has_grown front more request has).1 own.has.1).0 in
    elim (began front more (listener_method head) own.method) [
      | inl whole ↦ none resource head whole (ap named_by same ∙ own.names)
      | inr part ↦
          absurd (omega (
            arith,
            part.0,
            method_size head,
            long_enough request has.1.0,
            ap length has.1.1,
            length-append (print_request request) has.0,
            length-take 8192 front,
          ))
    ]

pub no_own_comes : (resource : OwnResource) (head : Bool) (front more : List ℕ) → IsOther front → IsOwn resource head (front ++ more) → ⊥
no_own_comes resource head front more other own =
    elim other.cause [
      | inl line ↦ absurd (cc (sym (line_may resource head front more own) ∙ line))
      | inr (inl asks) ↦ head_stays resource head front more asks own
      | inr (inr lacks) ↦ no_head_comes front more lacks own.request own.has
    ]

pub no_source_is : (front more : List ℕ) → IsOther front → is_source (front ++ more) ≡ false
no_source_is front more other = is_false _ (λ source. no_source_comes front more other.no_source other.nor_front source)

pub one_head : (front : List ℕ) (head other : RequestHead) → HasHead front head → HasHead front other → head ≡ other
one_head front head other a b = (request_unique (head_bytes front) head other a.0 b.0 a.1 b.1).0
