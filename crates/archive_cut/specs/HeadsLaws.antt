-- The next of the pages that stand up to a place.
use Rattle.std.proofs.Common.{◌≡◌, ℕ, ◌+◌, ◌<◌, List, [], ◌∷◌, ◌++◌, length, drop, refl, sym, ◌∙◌, ap, arith, append_assoc, length-append, drop-drop}
use Rattle.std.proofs.lemmas.List.{drop_at}
use Rattle.ogg_page.specs.Head.{Stands}
use Rattle.ogg_page.specs.Page.{Page, page_bytes, page_size, bytes_of_pages}
use Rattle.ogg_page.specs.PageLaws.{length-page_bytes}
use Rattle.archive_cut.specs.Heads.{StandUpTo}

-- the page that stands next, and those after it
pub record NextPage (bytes : List ℕ) (place end : ℕ) (pages : List Page) : Type 0 where
  pub page : Page
  pub more : List Page
  pub split : pages ≡ page ∷ more
  pub stands : Stands (drop place bytes) page
  pub after : StandUpTo bytes (place + page_size page) end more

pub next_page : (bytes : List ℕ) (place end : ℕ) (pages : List Page) → StandUpTo bytes place end pages → place < end → NextPage bytes place end pages
next_page bytes place end [] s some = absurd (let e : place + 0 ≡ end = s.ends in omega (arith, e, some))
next_page bytes place end (page ∷ pages) s some =
    let own : List ℕ = page_bytes page in
    let size : length own ≡ page_size page = length-page_bytes page in
    let more : List ℕ = bytes_of_pages pages ++ s.rest in
    let spelled : drop place bytes ≡ own ++ more = s.stand ∙ append_assoc own (bytes_of_pages pages) s.rest in
    let ends : place + length (own ++ bytes_of_pages pages) ≡ end = s.ends in
    record {
      page = page;
      more = pages;
      split = refl;
      stands = record { is_page = s.are_pages.0; tail = more; spelled = spelled };
      after = record {
        are_pages = s.are_pages.1;
        rest = s.rest;
        stand = sym (drop-drop (page_size page) place bytes) ∙ ap (drop (page_size page)) spelled ∙ drop_at own more (page_size page) size;
        ends = omega (arith, ends, length-append own (bytes_of_pages pages), size);
      };
    }
