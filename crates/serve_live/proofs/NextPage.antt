-- The page that is heard next, and what is left after some of its bytes.
use Rattle.std.proofs.Common.{◌≡◌, ℕ, ◌+◌, ◌-◌, ◌≤◌, ◌<◌, Bool, true, false, cond, List, [], ◌∷◌, ◌++◌, length, take, drop, refl, sym, ◌∙◌, ap, subst, arith, append_assoc, length-append, length-take, length-drop, drop-drop, take-append-drop, inl, inr}
use Rattle.std.specs.Prelude.{◌||◌}
use Rattle.std.specs.List.{AllByRecursion}
use Rattle.std.proofs.lemmas.List.{append-nil, take-append-le, drop-append-le, drop_at, length-take-le}
use Rattle.std.proofs.lemmas.Bool.{cond_both, cases_lt}
use Rattle.std.proofs.Math.Seq.{drop-append-add, take-add}
use Rattle.byteorder.specs.Endian.{little_bytes}
use Rattle.ogg_page.specs.Page.{Page, IsPage, page_bytes, page_size, bytes_of_pages}
use Rattle.ogg_page.specs.LogicalStream.{is_first}
use Rattle.ogg_page.specs.PageLaws.{length-page_bytes}
use Rattle.serve_live.specs.Heard.{named_page, named_after}
use Rattle.serve_live.specs.Names.{name_in}
use Rattle.serve_live.specs.Heads.{next_heard, IsHeadOf}
use Rattle.serve_live.specs.Listening.{ArePagesLeft, IsWithin, part_at}
use Rattle.serve_live.specs.Pulling.{ArePulled, names_kept}
use Rattle.serve_live.specs.Renaming.{back_of, head_of, names_of}
use Rattle.ogg_page.specs.Head.{Stands, head_size, checksum_in}
use Rattle.serve_live.specs.declared.names.StreamName.{StreamName}
use Rattle.serve_live.specs.declared.heads.HeardHead.{HeardHead}
use Rattle.serve_live.specs.declared.pages.PageLeft.{PageLeft}
use Rattle.serve_live.specs.RenamingLaws.{old_names}
use Rattle.page_heads.specs.Laws.{front_two, part_of_page}

-- ---- what is heard of the next page, and of those after it
abbrev pub names_after : List StreamName → Page → List StreamName
names_after names page = cond (is_first page) [] names

unchanged : (pages : List Page) → named_after (name_in []) pages ≡ pages
unchanged [] = refl
unchanged (page ∷ pages) =
    let same : 0 + (page.sequence - 0) ≡ page.sequence = omega arith in
    cond_both (is_first page) (page ∷ pages) (named_page (name_in []) page ∷ named_after (name_in []) pages) (λ l. l ≡ page ∷ pages)
    (λ _. refl)
    (λ _. ap (λ l. named_page (name_in []) page ∷ l) (unchanged pages) ∙ ap (λ n. record page { sequence = n } ∷ pages) same)

pub next_is : (names : List StreamName) (page : Page) (more : List Page) →
    named_after (name_in names) (page ∷ more) ≡ next_heard (name_in names) page ∷ named_after (name_in (names_after names page)) more
next_is names page more = by_case (is_first page)
  where
    by_case : (b : Bool) → cond b (page ∷ more) (named_page (name_in names) page ∷ named_after (name_in names) more)
        ≡ cond b page (named_page (name_in names) page) ∷ named_after (name_in (cond b [] names)) more
    by_case true = ap (λ l. page ∷ l) (sym (unchanged more))
    by_case false = refl

pub heard_size : (names : ℕ → StreamName) (page : Page) → length (page_bytes (next_heard names page)) ≡ page_size page
heard_size names page = length-page_bytes (next_heard names page) ∙ by_case (is_first page)
  where
    by_case : (b : Bool) → page_size (cond b page (named_page names page)) ≡ page_size page
    by_case true = refl
    by_case false = refl

-- the page at the place, and what is to be heard from it on
pub record HasNext (committed : List ℕ) (names : List StreamName) (place skip : ℕ) (rest : List ℕ) : Type 0 where
  pub page : Page
  pub more : List Page
  pub front : List ℕ
  pub split : committed ≡ front ++ (page_bytes page ++ bytes_of_pages more)
  pub place_is : length front ≡ place
  pub is_page : IsPage page
  pub are_pages : AllByRecursion IsPage more
  pub inside : skip < page_size page
  pub rest_is : rest ≡ drop skip (page_bytes (next_heard (name_in names) page) ++ bytes_of_pages (named_after (name_in (names_after names page)) more))

pub next_of : (committed : List ℕ) (names : List StreamName) (place skip : ℕ) (rest : List ℕ) → ArePagesLeft committed names place skip rest →
    place < length committed → HasNext committed names place skip rest
next_of committed names place skip rest left some = from left.pages left.split left.are_pages left.inside left.rest_is
  where
    from : (pages : List Page) → committed ≡ left.front ++ bytes_of_pages pages → AllByRecursion IsPage pages → IsWithin skip pages →
        rest ≡ drop skip (bytes_of_pages (named_after (name_in names) pages)) → HasNext committed names place skip rest
    from [] split are inside is = absurd (omega (arith, ap length (split ∙ append-nil left.front), left.place_is, some))
    from (page ∷ more) split are inside is = record {
      page = page;
      more = more;
      front = left.front;
      split = split;
      place_is = left.place_is;
      is_page = are.0;
      are_pages = are.1;
      inside = inside;
      rest_is = is ∙ ap (λ l. drop skip (bytes_of_pages l)) (next_is names page more);
    }

-- it stands there
pub stands : (committed bytes tail : List ℕ) (names : List StreamName) (place skip : ℕ) (rest : List ℕ) (h : HasNext committed names place skip rest) →
    bytes ≡ committed ++ tail → Stands (drop place bytes) h.page
stands committed bytes tail names place skip rest h is = record {
  is_page = h.is_page;
  tail = bytes_of_pages h.more ++ tail;
  spelled = ap (drop place) (is ∙ ap (λ l. l ++ tail) h.split ∙ append_assoc h.front (page_bytes h.page ++ bytes_of_pages h.more) tail)
      ∙ drop_at h.front ((page_bytes h.page ++ bytes_of_pages h.more) ++ tail) place h.place_is
      ∙ append_assoc (page_bytes h.page) (bytes_of_pages h.more) tail;
}

-- ---- some bytes of it
pub taken_of : (committed : List ℕ) (names : List StreamName) (place skip n : ℕ) (rest : List ℕ) (h : HasNext committed names place skip rest) →
    skip + n ≤ page_size h.page → take n rest ≡ part_at skip n (page_bytes (next_heard (name_in names) h.page))
taken_of committed names place skip n rest h le =
    let own : List ℕ = page_bytes (next_heard (name_in names) h.page) in
    let others : List ℕ = bytes_of_pages (named_after (name_in (names_after names h.page)) h.more) in
    let size : length own ≡ page_size h.page = heard_size (name_in names) h.page in
    ap (take n) (h.rest_is ∙ drop-append-le skip own others (omega (arith, size, le)))
    ∙ take-append-le n (drop skip own) others (omega (arith, length-drop skip own, size, le))

pub some_left : (committed : List ℕ) (names : List StreamName) (place skip n : ℕ) (rest : List ℕ) (h : HasNext committed names place skip rest) →
    skip + n ≤ page_size h.page → n ≤ length rest
some_left committed names place skip n rest h le =
    let own : List ℕ = page_bytes (next_heard (name_in names) h.page) in
    let others : List ℕ = bytes_of_pages (named_after (name_in (names_after names h.page)) h.more) in
    let size : length own ≡ page_size h.page = heard_size (name_in names) h.page in
    omega (arith, ap length h.rest_is, length-drop skip (own ++ others), length-append own others, size, le)

pub within : (committed : List ℕ) (names : List StreamName) (place skip n : ℕ) (rest : List ℕ) (h : HasNext committed names place skip rest) →
    skip + n < page_size h.page → ArePagesLeft committed names place (skip + n) (drop n rest)
within committed names place skip n rest h lt = record {
  front = h.front;
  pages = h.page ∷ h.more;
  split = h.split;
  place_is = h.place_is;
  are_pages = (h.is_page, h.are_pages);
  inside = lt;
  rest_is = ap (drop n) h.rest_is ∙ drop-drop n skip _ ∙ ap (λ l. drop (skip + n) (bytes_of_pages l)) (sym (next_is names h.page h.more));
}

pub behind : (committed : List ℕ) (names : List StreamName) (place skip n : ℕ) (rest : List ℕ) (h : HasNext committed names place skip rest) →
    skip + n ≡ page_size h.page → ArePagesLeft committed (names_after names h.page) (place + page_size h.page) 0 (drop n rest)
behind committed names place skip n rest h all =
    let own : List ℕ = page_bytes (next_heard (name_in names) h.page) in
    let others : List ℕ = bytes_of_pages (named_after (name_in (names_after names h.page)) h.more) in
    let size : length own ≡ page_size h.page = heard_size (name_in names) h.page in
    let to : skip + n ≡ length own + 0 = omega (arith, size, all) in
    record {
      front = h.front ++ page_bytes h.page;
      pages = h.more;
      split = h.split ∙ sym (append_assoc h.front (page_bytes h.page) (bytes_of_pages h.more));
      place_is = length-append h.front (page_bytes h.page) ∙ omega (arith, h.place_is, length-page_bytes h.page);
      are_pages = h.are_pages;
      inside = none h.more;
      rest_is = ap (drop n) h.rest_is ∙ drop-drop n skip (own ++ others) ∙ ap (λ k. drop k (own ++ others)) to ∙ drop-append-add own others 0;
    }
  where
    none : (pages : List Page) → IsWithin 0 pages
    none [] = refl
    none (p ∷ pages) = omega arith

-- ---- a page's bytes as they are heard
-- a part of what is in front
pub part_in_front : (bytes : List ℕ) (skip n size : ℕ) → skip + n ≤ size → size ≤ length bytes → part_at skip n (take size bytes) ≡ part_at skip n bytes
part_in_front bytes skip n size le long =
    let front : List ℕ = take size bytes in
    let len : length front ≡ size = grind (arith, length-take, long) in
    sym
    (ap (λ l. take n (drop skip l)) (sym (take-append-drop size bytes))
    ∙ ap (take n) (drop-append-le skip front (drop size bytes) (omega (arith, len, le)))
    ∙ take-append-le n (drop skip front) (drop size bytes) (omega (arith, length-drop skip front, len, le)))

-- behind its checksum a page is as it was
drop_back : (page : Page) (k : ℕ) → drop (26 + k) (page_bytes page) ≡ drop k (back_of page)
drop_back page k =
    let front : List ℕ = head_of page ++ (names_of page.serial page.sequence ++ little_bytes 4 (checksum_in page)) in
    ap (drop (26 + k)) (old_names page) ∙ drop-append-add front (back_of page) k

pub body_same : (names : ℕ → StreamName) (page : Page) (skip : ℕ) → 26 ≤ skip → drop skip (page_bytes (next_heard names page)) ≡ drop skip (page_bytes page)
body_same names page skip le = by_case (is_first page)
  where
    at : skip ≡ 26 + (skip - 26)
    at = omega (arith, le)

    by_case : (b : Bool) → drop skip (page_bytes (cond b page (named_page names page))) ≡ drop skip (page_bytes page)
    by_case true = refl
    by_case false =
        ap (λ k. drop k (page_bytes (named_page names page))) at ∙ drop_back (named_page names page) (skip - 26)
        ∙ sym (drop_back page (skip - 26)) ∙ ap (λ k. drop k (page_bytes page)) (sym at)

-- ---- how far a pull has come
pub more_pulled : (committed rest : List ℕ) (names : List StreamName) (left after : PageLeft) (given n : ℕ) (before part now : List ℕ) →
    ArePulled committed rest names left given before → given ≤ length before → n ≤ length (drop given rest) →
    now ≡ take given before ++ (part ++ drop (given + n) before) → part ≡ take n (drop given rest) →
    ArePagesLeft committed (names_kept names after) after.place after.skip (drop n (drop given rest)) →
    ArePulled committed rest names after (given + n) now
more_pulled committed rest names left after given n before part now b room some copied is next =
    let size : length part ≡ n = ap length is ∙ length-take-le n (drop given rest) some in
    record {
      some = omega (arith, b.some, some, length-drop given rest);
      taken = ap (take (given + n)) copied
          ∙ front_two (take given before) part (drop (given + n) before) given n (length-take-le given before room) size
          ∙ ap (λ l. l ++ part) b.taken ∙ ap (λ l. take given rest ++ l) is ∙ sym (take-add given n rest);
      left_is = subst (ArePagesLeft committed (names_kept names after) after.place after.skip) (drop-drop n given rest) next;
    }

pub kept_after : (names : List StreamName) (anew begins : Bool) → cond (anew || begins) [] names ≡ cond begins [] (cond anew [] names)
kept_after names true true = refl
kept_after names true false = refl
kept_after names false true = refl
kept_after names false false = refl

-- ---- one step
moved : (committed rest : List ℕ) (names others : List StreamName) (place place' skip skip' : ℕ) → ArePagesLeft committed names place skip rest → others ≡ names → place' ≡ place → skip' ≡ skip →
    ArePagesLeft committed others place' skip' rest
moved committed rest names others place place' skip skip' left g p s = record {
  front = left.front;
  pages = left.pages;
  split = left.split;
  place_is = left.place_is ∙ sym p;
  are_pages = left.are_pages;
  inside = subst (λ n. IsWithin n left.pages) (sym s) left.inside;
  rest_is = left.rest_is ∙ ap (λ n. drop n (bytes_of_pages (named_after (name_in names) left.pages))) (sym s)
      ∙ ap (λ l. drop skip' (bytes_of_pages (named_after (name_in l) left.pages))) (sym g);
}

-- what is left after some bytes of the page
pub record IsAfter (left after : PageLeft) (begins : Bool) (size n : ℕ) : Type 0 where
  pub within : left.skip + n < size → (after.place ≡ left.place) × (after.skip ≡ left.skip + n) × (after.anew ≡ left.anew)
  pub behind : left.skip + n ≡ size → (after.place ≡ left.place + size) × (after.skip ≡ 0) × (after.anew ≡ (left.anew || begins))

pub is_after : (left after : PageLeft) (begins : Bool) (size n : ℕ) →
    (left.skip + n < size → (after.place ≡ left.place) × (after.skip ≡ left.skip + n) × (after.anew ≡ left.anew)) →
    (left.skip + n ≡ size → (after.place ≡ left.place + size) × (after.skip ≡ 0) × (after.anew ≡ (left.anew || begins))) → IsAfter left after begins size n
is_after left after begins size n w b = record { within = w; behind = b }

pub pulled_some : (committed rest : List ℕ) (names : List StreamName) (left after : PageLeft) (begins : Bool) (given n size : ℕ) (before part now : List ℕ) →
    ArePulled committed rest names left given before → (h : HasNext committed (names_kept names left) left.place left.skip (drop given rest)) →
    given ≤ length before → left.skip + n ≤ size → size ≡ page_size h.page → begins ≡ is_first h.page →
    now ≡ take given before ++ (part ++ drop (given + n) before) → part ≡ part_at left.skip n (page_bytes (next_heard (name_in (names_kept names left)) h.page)) →
    IsAfter left after begins size n → ArePulled committed rest names after (given + n) now
pulled_some committed rest names left after begins given n size before part now b h room le size_is begins_is copied part_is a =
    let kept : List StreamName = names_kept names left in
    let fits : left.skip + n ≤ page_size h.page = omega (arith, le, size_is) in
    more_pulled committed rest names left after given n before part now b room
    (some_left committed kept left.place left.skip n (drop given rest) h fits) copied
    (part_is ∙ sym (taken_of committed kept left.place left.skip n (drop given rest) h fits))
    (elim (cases_lt (left.skip + n) size) [
      | inl lt ↦
          (let w = a.within lt in
          moved committed (drop n (drop given rest)) kept (names_kept names after) left.place after.place (left.skip + n) after.skip
          (within committed kept left.place left.skip n (drop given rest) h (let k : left.skip + n < page_size h.page = omega (arith, lt, size_is) in k))
          (ap (λ t. cond t [] names) w.2) w.0 w.1)
      | inr ge ↦
          (let all : left.skip + n ≡ size = omega (arith, ge, le) in
          let w = a.behind all in
          moved committed (drop n (drop given rest)) (names_after kept h.page) (names_kept names after) (left.place + page_size h.page) after.place 0 after.skip
          (behind committed kept left.place left.skip n (drop given rest) h (all ∙ size_is))
          (ap (λ t. cond t [] names) w.2 ∙ kept_after names left.anew begins ∙ ap (λ t. cond t [] kept) begins_is)
          (w.0 ∙ ap (λ k. left.place + k) size_is) w.1)
    ])

-- a part of the head that is kept
pub part_of_head : (names : ℕ → StreamName) (page : Page) (head : HeardHead) (skip n : ℕ) → IsHeadOf names page head → skip + n ≤ head.len →
    part_at skip n (take head.len head.bytes) ≡ part_at skip n (page_bytes (next_heard names page))
part_of_head names page head skip n h le =
    let len : head.len ≡ head_size page = h.len in
    ap (λ k. part_at skip n (take k head.bytes)) len
    ∙ ap (part_at skip n) h.bytes
    ∙ part_in_front (page_bytes (next_heard names page)) skip n (head_size page) (omega (arith, le, len)) (omega (arith, heard_size names page))

-- a part of the body, as it stands in the file
pub part_of_body : (names : ℕ → StreamName) (bytes : List ℕ) (page : Page) (place skip n : ℕ) → Stands (drop place bytes) page → 26 ≤ skip → skip + n ≤ page_size page →
    part_at (place + skip) n bytes ≡ part_at skip n (page_bytes (next_heard names page))
part_of_body names bytes page place skip n s le fits =
    part_of_page bytes page place skip n s (omega (arith, fits, length-page_bytes page)) ∙ ap (take n) (sym (body_same names page skip le))

-- at the end of what is committed nothing is left
pub none_left : (committed rest : List ℕ) (names : List StreamName) (left : PageLeft) (given : ℕ) (buffer : List ℕ) → ArePulled committed rest names left given buffer →
    length committed ≤ left.place → given ≡ length rest
none_left committed rest names left given buffer b end = from b.left_is.pages b.left_is.split b.left_is.inside b.left_is.rest_is
  where
    from : (pages : List Page) → committed ≡ b.left_is.front ++ bytes_of_pages pages → IsWithin left.skip pages →
        drop given rest ≡ drop left.skip (bytes_of_pages (named_after (name_in (names_kept names left)) pages)) → given ≡ length rest
    from [] split inside is =
        let none : length (drop given rest) ≡ 0 = ap length (is ∙ ap (λ n. drop n []) inside) in
        omega (arith, b.some, length-drop given rest, none)
    from (page ∷ pages) split inside is =
        absurd (omega (
          arith,
          ap length split,
          length-append b.left_is.front (bytes_of_pages (page ∷ pages)),
          length-append (page_bytes page) (bytes_of_pages pages),
          length-page_bytes page,
          b.left_is.place_is,
          end,
        ))

-- before the end of what is committed something is left
pub some_more : (committed rest : List ℕ) (names : List StreamName) (left : PageLeft) (given : ℕ) (buffer : List ℕ) → ArePulled committed rest names left given buffer →
    left.place < length committed → given < length rest
some_more committed rest names left given buffer b inside =
    let kept : List StreamName = names_kept names left in
    let h : HasNext committed kept left.place left.skip (drop given rest) = next_of committed kept left.place left.skip (drop given rest) b.left_is inside in
    let own : List ℕ = page_bytes (next_heard (name_in kept) h.page) in
    let more : List ℕ = bytes_of_pages (named_after (name_in (names_after kept h.page)) h.more) in
    let size : length own ≡ page_size h.page = heard_size (name_in kept) h.page in
    let all : length (drop given rest) ≡ length (own ++ more) - left.skip = ap length h.rest_is ∙ length-drop left.skip (own ++ more) in
    omega (arith, all, size, h.inside, length-append own more, length-drop given rest)
