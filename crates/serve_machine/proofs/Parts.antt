-- Parts of bytes by their places.
use Rattle.std.proofs.Common.{◌≡◌, ℕ, ◌+◌, ◌-◌, ◌≤◌, ◌<◌, true, false, List, [], ◌∷◌, ◌++◌, length, take, drop, refl, sym, ◌∙◌, ap, subst, arith, append_assoc, length-append, length-drop, drop-drop}
use Rattle.std.specs.Prelude.{nat_eq}
use Rattle.std.specs.List.{AllByRecursion}
use Rattle.std.proofs.lemmas.Bool.{cond-true, cond-false}
use Rattle.std.proofs.lemmas.List.{take-append-le, drop-append-le, drop-take, take-take, drop_at}
use Rattle.ogg_page.specs.Page.{Page, IsPage, page_bytes, bytes_of_pages}
use Rattle.link_chain.specs.Links.{pages_with}
use Rattle.serve_machine.specs.Places.{part_at, IsStreamRest}

-- bytes that follow change no part
pub part_stays : (place count : ℕ) (bytes more : List ℕ) → place + count ≤ length bytes → part_at place count (bytes ++ more) ≡ part_at place count bytes
part_stays place count bytes more inside =
    let left = length-drop place bytes in
    ap (take count) (drop-append-le place bytes more (omega (arith, inside)))
    ∙ take-append-le count (drop place bytes) more (omega (arith, inside, left))

-- the front of a part, and what follows it
pub part_front : (place n m : ℕ) (bytes : List ℕ) → take n (part_at place (n + m) bytes) ≡ part_at place n bytes
part_front place n m bytes = grind (arith, take-take)

pub part_rest : (place n m : ℕ) (bytes : List ℕ) → drop n (part_at place (n + m) bytes) ≡ part_at (place + n) m bytes
part_rest place n m bytes = drop-take n m (drop place bytes) ∙ ap (take m) (drop-drop n place bytes ∙ ap (λ k. drop k bytes) (omega arith))

-- a part of what follows a front
part_behind : (skip count : ℕ) (front bytes : List ℕ) → part_at (length front + skip) count (front ++ bytes) ≡ part_at skip count bytes
part_behind skip count front bytes =
    ap (take count) (sym (drop-drop skip (length front) (front ++ bytes) ∙ ap (λ k. drop k (front ++ bytes)) (omega arith))
    ∙ ap (drop skip) (drop_at front bytes (length front) refl))

-- ---- the pages of a stream
own_page : (serial : ℕ) (page : Page) (pages : List Page) → nat_eq page.serial serial ≡ true → bytes_of_pages (pages_with serial (page ∷ pages)) ≡ page_bytes page ++ bytes_of_pages (pages_with serial pages)
own_page serial page pages e = ap bytes_of_pages (cond-true (nat_eq page.serial serial) (page ∷ pages_with serial pages) (pages_with serial pages) e)

other_page : (serial : ℕ) (page : Page) (pages : List Page) → nat_eq page.serial serial ≡ false → bytes_of_pages (pages_with serial (page ∷ pages)) ≡ bytes_of_pages (pages_with serial pages)
other_page serial page pages e = ap bytes_of_pages (cond-false (nat_eq page.serial serial) (page ∷ pages_with serial pages) (pages_with serial pages) e)

pub rest_stays : (committed more : List ℕ) (serial place skip count : ℕ) (rest : List ℕ) → IsStreamRest committed serial place skip count rest → IsStreamRest (committed ++ more) serial place skip count rest
rest_stays committed more serial place skip count rest r = record {
  front = r.front;
  pages = r.pages;
  behind = r.behind ++ more;
  split = ap (λ l. l ++ more) r.split ∙ append_assoc r.front (bytes_of_pages r.pages ++ r.behind) more ∙ ap (λ l. r.front ++ l) (append_assoc (bytes_of_pages r.pages) r.behind more);
  place_is = r.place_is;
  are_pages = r.are_pages;
  inside = r.inside;
  rest_is = r.rest_is;
}

-- the place after the page
split_behind : (committed front behind : List ℕ) (page : Page) (pages : List Page) → committed ≡ front ++ (bytes_of_pages (page ∷ pages) ++ behind)
    → committed ≡ (front ++ page_bytes page) ++ (bytes_of_pages pages ++ behind)
split_behind committed front behind page pages e =
    e ∙ ap (λ l. front ++ l) (append_assoc (page_bytes page) (bytes_of_pages pages) behind) ∙ sym (append_assoc front (page_bytes page) (bytes_of_pages pages ++ behind))

-- A rest whose pages are these.
pub record Located (committed : List ℕ) (serial place skip count : ℕ) (rest : List ℕ) (page : Page) (pages : List Page) : Type 0 where
  pub front : List ℕ
  pub behind : List ℕ
  pub split : committed ≡ front ++ (bytes_of_pages (page ∷ pages) ++ behind)
  pub place_is : length front ≡ place
  pub are_pages : AllByRecursion IsPage (page ∷ pages)
  pub inside : skip + count ≤ length (bytes_of_pages (pages_with serial (page ∷ pages)))
  pub rest_is : rest ≡ part_at skip count (bytes_of_pages (pages_with serial (page ∷ pages)))

pub pass_other : (committed : List ℕ) (serial place skip count : ℕ) (rest : List ℕ) (page : Page) (pages : List Page) → Located committed serial place skip count rest page pages
    → nat_eq page.serial serial ≡ false → IsStreamRest committed serial (place + length (page_bytes page)) skip count rest
pass_other committed serial place skip count rest page pages l apart =
    let own = other_page serial page pages apart in
    record {
      front = l.front ++ page_bytes page;
      pages = pages;
      behind = l.behind;
      split = split_behind committed l.front l.behind page pages l.split;
      place_is = length-append l.front (page_bytes page) ∙ ap (λ n. n + length (page_bytes page)) l.place_is;
      are_pages = l.are_pages.1;
      inside = let same = ap (λ (x : List ℕ). length x) own in omega (arith, l.inside, same);
      rest_is = l.rest_is ∙ ap (part_at skip count) own;
    }

pub pass_own : (committed : List ℕ) (serial place skip count : ℕ) (rest : List ℕ) (page : Page) (pages : List Page)
    → Located committed serial place (length (page_bytes page) + skip) count rest page pages
    → nat_eq page.serial serial ≡ true → IsStreamRest committed serial (place + length (page_bytes page)) skip count rest
pass_own committed serial place skip count rest page pages l same =
    let own = own_page serial page pages same in
    record {
      front = l.front ++ page_bytes page;
      pages = pages;
      behind = l.behind;
      split = split_behind committed l.front l.behind page pages l.split;
      place_is = length-append l.front (page_bytes page) ∙ ap (λ n. n + length (page_bytes page)) l.place_is;
      are_pages = l.are_pages.1;
      inside =
          let long = ap (λ (x : List ℕ). length x) own ∙ length-append (page_bytes page) (bytes_of_pages (pages_with serial pages)) in
          omega (arith, l.inside, long);
      rest_is = l.rest_is ∙ ap (part_at (length (page_bytes page) + skip) count) own ∙ part_behind skip count (page_bytes page) (bytes_of_pages (pages_with serial pages));
    }

pub give_own : (committed : List ℕ) (serial place skip n m : ℕ) (rest : List ℕ) (page : Page) (pages : List Page)
    → Located committed serial place skip (n + m) rest page pages
    → nat_eq page.serial serial ≡ true → skip + n ≤ length (page_bytes page)
    → (take n rest ≡ part_at skip n (page_bytes page)) × IsStreamRest committed serial place (skip + n) m (drop n rest)
give_own committed serial place skip n m rest page pages l same room =
    let own = own_page serial page pages same in
    let bytes : List ℕ = bytes_of_pages (pages_with serial (page ∷ pages)) in (
      ap (take n) l.rest_is ∙ part_front skip n m bytes ∙ ap (part_at skip n) own ∙ part_stays skip n (page_bytes page) (bytes_of_pages (pages_with serial pages)) room,
      record {
        front = l.front;
        pages = page ∷ pages;
        behind = l.behind;
        split = l.split;
        place_is = l.place_is;
        are_pages = l.are_pages;
        inside = omega (arith, l.inside);
        rest_is = ap (drop n) l.rest_is ∙ part_rest skip n m bytes;
      },
    )

-- ---- the page that is read at the place is the first one
module _ (prefix_free : (p q : Page) (x y : List ℕ) → IsPage p → IsPage q → page_bytes p ++ x ≡ page_bytes q ++ y → (p ≡ q) × (x ≡ y)) where
  pub located : (committed : List ℕ) (serial place skip count : ℕ) (rest : List ℕ) (page : Page) (more : List ℕ) → IsStreamRest committed serial place skip count rest
      → 0 < count → IsPage page → drop place committed ≡ page_bytes page ++ more → (pages : List Page) × Located committed serial place skip count rest page pages
  located committed serial place skip count rest page more r some is at = by r.pages refl
    where
      from : drop place committed ≡ bytes_of_pages r.pages ++ r.behind
      from = ap (drop place) r.split ∙ drop_at r.front (bytes_of_pages r.pages ++ r.behind) place r.place_is

      by : (pages : List Page) → r.pages ≡ pages → (tail : List Page) × Located committed serial place skip count rest page tail
      by [] e =
          let none : length (bytes_of_pages (pages_with serial r.pages)) ≡ 0 = ap (λ (ps : List Page). length (bytes_of_pages (pages_with serial ps))) e in
          absurd (omega (arith, r.inside, none, some))
      by (first ∷ pages) e =
          let each : AllByRecursion IsPage (first ∷ pages) = subst (λ (ps : List Page). AllByRecursion IsPage ps) e r.are_pages in
          let here : page_bytes first ++ (bytes_of_pages pages ++ r.behind) ≡ page_bytes page ++ more =
          sym (append_assoc (page_bytes first) (bytes_of_pages pages) r.behind) ∙ sym (from ∙ ap (λ (ps : List Page). bytes_of_pages ps ++ r.behind) e) ∙ at in
          let same : first ≡ page = (prefix_free first page (bytes_of_pages pages ++ r.behind) more each.0 is here).0 in
          let now : r.pages ≡ page ∷ pages = e ∙ ap (λ (p : Page). p ∷ pages) same in (
            pages,
            record {
              front = r.front;
              behind = r.behind;
              split = r.split ∙ ap (λ (ps : List Page). r.front ++ (bytes_of_pages ps ++ r.behind)) now;
              place_is = r.place_is;
              are_pages = subst (λ (ps : List Page). AllByRecursion IsPage ps) now r.are_pages;
              inside = subst (λ (ps : List Page). skip + count ≤ length (bytes_of_pages (pages_with serial ps))) now r.inside;
              rest_is = r.rest_is ∙ ap (λ (ps : List Page). part_at skip count (bytes_of_pages (pages_with serial ps))) now;
            },
          )
