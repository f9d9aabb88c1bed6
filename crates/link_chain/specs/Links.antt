-- Links: groups of logical bitstreams, one link after the other (RFC 3533, section 4).
use Rattle.std.specs.Prelude.{◌≡◌, ◌≢◌, ℕ, ◌<◌, ◌≤◌, Bool, true, false, nat_eq, IsTrue, List, [], ◌∷◌, ◌++◌, length, map, filter, ⊤}
use Rattle.std.specs.List.{flat_map, list_all, list_any, AllByRecursion, IsDistinct}
use Rattle.ogg_page.specs.Page.{Page, IsPage, bytes_of_pages}
use Rattle.ogg_page.specs.LogicalStream.{FlagsFit, EachBehind, is_first, is_last}
use Rattle.link_chain.specs.Limits.{most_streams, most_links}

-- the pages of the stream with this serial
abbrev pub pages_with : ℕ → List Page → List Page
pages_with serial pages = filter (λ page. nat_eq page.serial serial) pages

-- the serials of the streams, in the order of their first pages
abbrev pub serials_of : List Page → List ℕ
serials_of pages = map (λ page. page.serial) (filter is_first pages)

-- there is a stream with this serial
abbrev pub has_stream : List Page → ℕ → Bool
has_stream pages serial = list_any (nat_eq serial) (serials_of pages)

-- the stream has its last page
abbrev pub has_ended : List Page → ℕ → Bool
has_ended pages serial = list_any is_last (pages_with serial pages)

-- so has each stream that has a page here
abbrev pub all_ended : List Page → Bool
all_ended pages = list_all (λ page. has_ended pages page.serial) pages

-- Pages that are a link: one first page for each of its streams, and then further pages of these streams only.
pub record IsLink (pages : List Page) : Type 0 where
  pub first_pages : List Page
  pub others : List Page
  pub split : pages ≡ first_pages ++ others
  pub marked : AllByRecursion (λ page. IsTrue (is_first page)) first_pages
  pub some : 0 < length first_pages
  pub few : length first_pages ≤ most_streams
  pub distinct : IsDistinct nat_eq (serials_of pages)
  pub unmarked : AllByRecursion (λ page. is_first page ≡ false) others
  pub known : AllByRecursion (λ page. has_stream pages page.serial ≡ true) others
  pub streams : (serial : ℕ) → FlagsFit (pages_with serial pages)
  -- each page but the first comes while a stream has not ended: after that a new link begins
  pub one : EachBehind (λ before page. before ≢ [] → all_ended before ≡ false) [] pages

-- each but the last
abbrev pub AllButLast : (List Page → Type 0) → List (List Page) → Type 0
AllButLast P [] = ⊤
AllButLast P (link ∷ []) = ⊤
AllButLast P (link ∷ next ∷ links) = P link × AllButLast P (next ∷ links)

-- The bytes are the pages of these links; in each but the last all streams have ended.
pub record AreLinks (bytes : List ℕ) (links : List (List Page)) : Type 0 where
  pub spelled : bytes ≡ flat_map bytes_of_pages links
  pub pages : AllByRecursion (AllByRecursion IsPage) links
  pub few : length links ≤ most_links
  pub each : AllByRecursion IsLink links
  pub ended : AllButLast (λ link. all_ended link ≡ true) links

-- the pages of all links
abbrev pub flattened : List (List Page) → List Page
flattened links = flat_map (λ link. link) links

-- the last link has these further pages
abbrev pub with_pages : List (List Page) → List Page → List (List Page)
with_pages [] pages = []
with_pages (link ∷ []) pages = (link ++ pages) ∷ []
with_pages (link ∷ next ∷ links) pages = link ∷ with_pages (next ∷ links) pages
