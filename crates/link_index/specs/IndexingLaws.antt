-- What is left of bytes that were added when further pages are. These are laws, to be cited.
use Rattle.std.proofs.Common.{◌≡◌, ℕ, List, [], ◌∷◌, ◌++◌, Ok, refl, sym, ◌∙◌, ap, subst, append-nil}
use Rattle.std.specs.List.{AllByRecursion}
use Rattle.ogg_page.specs.Page.{Page, IsPage, bytes_of_pages}
use Rattle.ogg_page.specs.PageLaws.{pages_both, bytes_both}
use Rattle.link_chain.specs.Taking.{AreTaken, links_with}
use Rattle.link_chain.specs.TakerLaws.{AreAllTaken}
use Rattle.link_index.specs.Adding.{AddsPages, IndexState}
use Rattle.link_index.specs.Indexing.{indexing}

-- further pages that may follow in turn
pub taken_on : (start : List (List Page)) (pages more : List Page) (after last : List (List Page)) → AreTaken start pages after → AreTaken after more last → AreTaken start (pages ++ more) last
taken_on start [] more after last t u = subst (λ (s : List (List Page)). AreTaken s more last) t u
taken_on start (page ∷ pages) more after last t u = (t.0, taken_on (links_with start page) pages more after last t.1 u)

-- bytes that were added as a whole, and the pages after them
pub adds_on : (links : List (List Page)) (bytes : List ℕ) (pages : List Page) (old new : IndexState) → AddsPages links bytes old (Ok tt) → AllByRecursion IsPage pages
    → AreAllTaken indexing old pages new → AddsPages links (bytes ++ bytes_of_pages pages) new (Ok tt)
adds_on links bytes pages old new a are more =
    let (after, taken, is_index) = more.links a.after a.is_index in
    record {
      pages = a.pages ++ pages;
      rest = [];
      after = after;
      are_pages = pages_both a.pages pages a.are_pages are;
      spelled = ap (λ (l : List ℕ). l ++ bytes_of_pages pages) (a.spelled ∙ ap (λ (l : List ℕ). bytes_of_pages a.pages ++ l) a.left ∙ append-nil (bytes_of_pages a.pages))
          ∙ sym (bytes_both a.pages pages) ∙ sym (append-nil (bytes_of_pages (a.pages ++ pages)));
      taken = taken_on links a.pages pages a.after after a.taken taken;
      is_index = is_index;
      left = refl;
    }

-- a page that is refused leaves what was added
pub same_added : (links : List (List Page)) (bytes : List ℕ) (old new : IndexState) → AddsPages links bytes old (Ok tt)
    → new.chain.chain ≡ old.chain.chain → new.entries ≡ old.entries → AddsPages links bytes new (Ok tt)
same_added links bytes old new a chain entries = record {
  pages = a.pages;
  rest = a.rest;
  after = a.after;
  are_pages = a.are_pages;
  spelled = a.spelled;
  taken = a.taken;
  is_index = record { chain_is = chain ∙ a.is_index.chain_is; entries_are = entries ∙ a.is_index.entries_are };
  left = a.left;
}
