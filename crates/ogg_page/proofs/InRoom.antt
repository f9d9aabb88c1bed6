-- A page in its room, part by part.
use Rattle.std.proofs.Common.{◌≡◌, ℕ, ◌+◌, ◌≤◌, List, [], ◌∷◌, ◌++◌, length, take, drop, sum, refl, sym, ◌∙◌, ap, subst, arith, append_assoc, length-append, append-nil, add-zero, Option, Some, None}
use Rattle.std.proofs.lemmas.List.{take-append-drop, length-take-le, length-drop, take-take, take_at, drop_at, drop-drop}
use Rattle.page_checksum.specs.Checksum.{checksum_of}
use Rattle.ogg_page.specs.Page.{Page, AreBytes, fixed_part, page_bytes, page_of, bytes_with}
use Rattle.ogg_page.specs.PageInWork.{IsInRoom, lacing_in, body_in, page_in, finished_in}
use Rattle.ogg_page.specs.Laws.Prefixes.{parts}
use Rattle.ogg_page.specs.Laws.ReadAgain.{length-page_bytes}
use Rattle.ogg_page.specs.Laws.Sight.{sum_small}
use Rattle.ogg_page.specs.declared.head.PageHead.{PageHead}

-- the head's place, the values, the body and what follows it
pub in_parts : (values size : ℕ) (room : List ℕ) →
    room ≡ take 27 room ++ (lacing_in values room ++ (body_in values size room ++ drop (27 + values + size) room))
in_parts values size room =
    let behind : List ℕ = drop (27 + values) room in
    sym (take-append-drop 27 room)
    ∙ ap (λ l. take 27 room ++ l) (sym (take-append-drop values (drop 27 room)))
    ∙ ap (λ l. take 27 room ++ (lacing_in values room ++ l)) (drop-drop values 27 room ∙ sym (take-append-drop size behind))
    ∙ ap (λ l. take 27 room ++ (lacing_in values room ++ (body_in values size room ++ l))) (drop-drop size (27 + values) room)

-- what lies in a room of these parts
pub record HasParts (l b r : List ℕ) (values size : ℕ) (room : List ℕ) : Type 0 where
  pub lacing : lacing_in values room ≡ l
  pub body : body_in values size room ≡ b
  pub rest : drop (27 + values + size) room ≡ r

pub of_parts : (front lacing body rest room : List ℕ) (values size : ℕ) → length front ≡ 27 → length lacing ≡ values → length body ≡ size →
    room ≡ front ++ (lacing ++ (body ++ rest)) → HasParts lacing body rest values size room
of_parts front lacing body rest room values size f l b is =
    let behind_front : drop 27 room ≡ lacing ++ (body ++ rest) = ap (drop 27) is ∙ drop_at front (lacing ++ (body ++ rest)) 27 f in
    let behind_lacing : drop (27 + values) room ≡ body ++ rest =
    sym (drop-drop values 27 room) ∙ ap (drop values) behind_front ∙ drop_at lacing (body ++ rest) values l in
    record {
      lacing = ap (take values) behind_front ∙ take_at lacing (body ++ rest) values l;
      body = ap (take size) behind_lacing ∙ take_at body rest size b;
      rest = sym (drop-drop size (27 + values) room) ∙ ap (drop size) behind_lacing ∙ drop_at body rest size b;
    }

pub length-lacing_in : (values : ℕ) (room : List ℕ) → 27 + values ≤ length room → length (lacing_in values room) ≡ values
length-lacing_in values room long = length-take-le values (drop 27 room) (omega (arith, length-drop 27 room))

pub length-body_in : (values size : ℕ) (room : List ℕ) → 27 + values + size ≤ length room → length (body_in values size room) ≡ size
length-body_in values size room long = length-take-le size (drop (27 + values) room) (omega (arith, length-drop (27 + values) room))

-- ---- values put in

pub starts : (room bytes again : List ℕ) → length room ≡ 65308 → length bytes ≤ 255 → AreBytes bytes →
    again ≡ take 27 room ++ (bytes ++ drop (27 + length bytes) room) → IsInRoom None (length bytes) 0 again × (lacing_in (length bytes) again ≡ bytes)
starts room bytes again whole few small is =
    let n : ℕ = length bytes in
    let front : length (take 27 room) ≡ 27 = length-take-le 27 room (omega (arith, whole)) in
    let has : HasParts bytes [] (drop (27 + n) room) n 0 again = of_parts (take 27 room) bytes [] (drop (27 + n) room) again n 0 front refl refl is in (
      record {
        whole = ap length is ∙ length-append (take 27 room) (bytes ++ drop (27 + n) room)
            ∙ omega (arith, front, whole, few, length-append bytes (drop (27 + n) room), length-drop (27 + n) room);
        few = few;
        small = omega (arith, ap sum has.lacing, sum_small bytes small, few);
        fits = omega arith;
        closed = tt;
      },
      has.lacing,
    )

-- ---- a piece of the body put in

pub record HasPut (head : Option PageHead) (values size : ℕ) (room bytes again : List ℕ) : Type 0 where
  pub is : IsInRoom head values (size + length bytes) again
  pub lacing : lacing_in values again ≡ lacing_in values room
  pub body : body_in values (size + length bytes) again ≡ body_in values size room ++ bytes
  pub finished : finished_in head values (size + length bytes) again ≡ finished_in head values size room

open_put : (values size : ℕ) (room bytes again : List ℕ) → IsInRoom None values size room → size + length bytes ≤ sum (lacing_in values room) →
    again ≡ take (27 + values + size) room ++ (bytes ++ drop (27 + values + size + length bytes) room) → HasPut None values size room bytes again
open_put values size room bytes again before most is =
    let n : ℕ = 27 + values + size in
    let k : ℕ = length bytes in
    let rest : List ℕ = drop (n + k) room in
    let front : List ℕ = take 27 room in
    let lacing : List ℕ = lacing_in values room in
    let body : List ℕ = body_in values size room in
    let lf : length front ≡ 27 = length-take-le 27 room (omega (arith, before.whole)) in
    let ll : length lacing ≡ values = length-lacing_in values room (omega (arith, before.whole, before.few)) in
    let lb : length body ≡ size = length-body_in values size room (omega (arith, before.whole, before.few, before.small, before.fits)) in
    let whole_front : take n room ≡ front ++ (lacing ++ body) =
    ap (take n) (in_parts values size room
    ∙ ap (λ l. front ++ l) (sym (append_assoc lacing body (drop n room)))
    ∙ sym (append_assoc front (lacing ++ body) (drop n room)))
    ∙ take_at (front ++ (lacing ++ body)) (drop n room) n (omega (arith, length-append front (lacing ++ body), length-append lacing body, lf, ll, lb)) in
    let split : again ≡ front ++ (lacing ++ ((body ++ bytes) ++ rest)) =
    is
    ∙ ap (λ l. l ++ (bytes ++ rest)) whole_front
    ∙ append_assoc front (lacing ++ body) (bytes ++ rest)
    ∙ ap (λ l. front ++ l) (append_assoc lacing body (bytes ++ rest) ∙ ap (λ l. lacing ++ l) (sym (append_assoc body bytes rest))) in
    let has : HasParts lacing (body ++ bytes) rest values (size + k) again =
    of_parts front lacing (body ++ bytes) rest again values (size + k) lf ll (length-append body bytes ∙ ap (λ m. m + k) lb) split in
    record {
      is = record {
        whole = ap length is ∙ length-append (take n room) (bytes ++ rest)
            ∙ omega (arith, before.whole, before.few, before.small, most, length-append bytes rest, length-drop (n + k) room, ap length whole_front, length-append front (lacing ++ body), length-append lacing body, lf, ll, lb);
        few = before.few;
        small = omega (arith, ap sum has.lacing, before.small);
        fits = omega (arith, ap sum has.lacing, most);
        closed = tt;
      };
      lacing = has.lacing;
      body = has.body;
      finished = refl;
    }

-- nothing put in
same_put : (head : Option PageHead) (values size n : ℕ) (room : List ℕ) → n ≡ size → IsInRoom head values size room →
    IsInRoom head values n room × (body_in values n room ≡ body_in values size room ++ []) × (finished_in head values n room ≡ finished_in head values size room)
same_put head values size n room is before = (
  subst (λ m. IsInRoom head values m room) (sym is) before,
  ap (λ m. body_in values m room) is ∙ sym (append-nil (body_in values size room)),
  ap (λ m. finished_in head values m room) is,
)

none_put : (head : Option PageHead) (values size : ℕ) (room again : List ℕ) → IsInRoom head values size room →
    again ≡ take (27 + values + size) room ++ drop (27 + values + size + 0) room → HasPut head values size room [] again
none_put head values size room again before is =
    let same : room ≡ again =
    sym (take-append-drop (27 + values + size) room) ∙ ap (λ n. take (27 + values + size) room ++ drop n room) (sym (add-zero (27 + values + size))) ∙ sym is in
    let kept = same_put head values size (size + 0) room (add-zero size) before in
    subst (λ (l : List ℕ). HasPut head values size room [] l) same
    (record { is = kept.0; lacing = refl; body = kept.1; finished = kept.2 })

pub has_put : (head : Option PageHead) (values size : ℕ) (room bytes again : List ℕ) → IsInRoom head values size room →
    size + length bytes ≤ sum (lacing_in values room) →
    again ≡ take (27 + values + size) room ++ (bytes ++ drop (27 + values + size + length bytes) room) → HasPut head values size room bytes again
has_put None values size room bytes again before most is = open_put values size room bytes again before most is
has_put (Some head) values size room [] again before most is = none_put (Some head) values size room again before is
has_put (Some head) values size room (x ∷ bytes) again before most is = absurd (omega (arith, before.closed.0, most))

-- ---- a page made

pub record HasClosed (head : PageHead) (values size : ℕ) (room again : List ℕ) : Type 0 where
  pub is : IsInRoom (Some head) values size again
  pub lacing : lacing_in values again ≡ lacing_in values room
  pub body : body_in values size again ≡ body_in values size room

pub has_closed : (was : Option PageHead) (head : PageHead) (values size : ℕ) (room again : List ℕ) → IsInRoom was values size room → size ≡ sum (lacing_in values room) →
    again ≡ page_bytes (page_in head values size room) ++ 0 ∷ drop (28 + values + size) room → HasClosed head values size room again
unfolding page_bytes fixed_part
has_closed was head values size room again before full is =
    let page : Page = page_in head values size room in
    let c : ℕ = checksum_of (bytes_with 0 page) in
    let rest : List ℕ = 0 ∷ drop (28 + values + size) room in
    let ll : length page.lacing ≡ values = length-lacing_in values room (omega (arith, before.whole, before.few)) in
    let lb : length page.body ≡ size = length-body_in values size room (omega (arith, before.whole, before.few, before.small, before.fits)) in
    let has : HasParts page.lacing page.body rest values size again =
    of_parts (fixed_part c page) page.lacing page.body rest again values size refl ll lb (is ∙ parts c page rest) in
    let size_is : length (page_bytes page) ≡ 27 + values + size = length-page_bytes page ∙ omega (arith, ll, lb) in
    let closed : List ℕ = page_bytes page ++ 0 ∷ [] in
    let behind : List ℕ = drop (28 + values + size) room in
    let front : take (28 + values + size) again ≡ closed =
    ap (take (28 + values + size)) (is ∙ sym (append_assoc (page_bytes page) (0 ∷ []) behind))
    ∙ take_at closed behind (28 + values + size) (omega (arith, length-append (page_bytes page) (0 ∷ []), size_is)) in
    let same : page_in head values size again ≡ page = (λ i. page_of head (has.lacing i) (has.body i)) in
    record {
      is = record {
        whole = ap length is ∙ length-append (page_bytes page) rest ∙ omega (arith, size_is, length-drop (28 + values + size) room, before.whole, before.few, before.small, before.fits);
        few = before.few;
        small = omega (arith, ap sum has.lacing, before.small);
        fits = omega (arith, ap sum has.lacing, before.fits);
        closed = (full ∙ ap sum (sym has.lacing), front ∙ ap (λ p. page_bytes p ++ 0 ∷ []) (sym same));
      };
      lacing = has.lacing;
      body = has.body;
    }

-- ---- the page that is finished

pub finished_bytes : (head : Option PageHead) (values size : ℕ) (room : List ℕ) (page : Page) → IsInRoom head values size room →
    finished_in head values size room ≡ Some page → take (27 + values + size) room ≡ page_bytes page
finished_bytes None values size room page is e = absurd (none_some page e)
  where
    none_some : (page : Page) → (let none : Option Page = None in none) ≡ Some page → ⊥
    none_some page e = cc
finished_bytes (Some head) values size room page is e =
    let p : Page = page_in head values size room in
    let same : p ≡ page = some_same p page e in
    let ll : length p.lacing ≡ values = length-lacing_in values room (omega (arith, is.whole, is.few)) in
    let lb : length p.body ≡ size = length-body_in values size room (omega (arith, is.whole, is.few, is.small, is.fits)) in
    sym (take-take (27 + values + size) (28 + values + size) room (omega arith))
    ∙ ap (take (27 + values + size)) is.closed.1
    ∙ take_at (page_bytes p) (0 ∷ []) (27 + values + size) (length-page_bytes p ∙ omega (arith, ll, lb))
    ∙ ap page_bytes same
  where
    some_same : (p q : Page) → (let some : Option Page = Some p in some) ≡ Some q → p ≡ q
    some_same p q e = cc

-- ---- pieces of a room

pub cut : (n k : ℕ) (room : List ℕ) → room ≡ take n room ++ (take k (drop n room) ++ drop (n + k) room)
cut n k room =
    sym (take-append-drop n room)
    ∙ ap (λ l. take n room ++ l) (sym (take-append-drop k (drop n room)) ∙ ap (λ l. take k (drop n room) ++ l) (drop-drop k n room))

pub length-cut : (n k : ℕ) (room : List ℕ) → n + k ≤ length room → length (take k (drop n room)) ≡ k
length-cut n k room long = length-take-le k (drop n room) (omega (arith, long, length-drop n room))

pub length-front : (n : ℕ) (room : List ℕ) → n ≤ length room → length (take n room) ≡ n
length-front n room long = length-take-le n room long
