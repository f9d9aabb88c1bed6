-- What stands at the place of a stream's rest.
use Rattle.std.proofs.Common.{◌≡◌, ℕ, ◌+◌, ◌≤◌, ◌<◌, List, [], ◌∷◌, ◌++◌, length, drop, ◌∙◌, ap, arith, append_assoc, length-append}
use Rattle.std.specs.List.{AllByRecursion}
use Rattle.std.proofs.lemmas.List.{drop-append-le, drop_at}
use Rattle.ogg_page.specs.Page.{Page, IsPage, page_bytes, bytes_of_pages}
use Rattle.link_chain.specs.Links.{pages_with}
use Rattle.serve_machine.specs.Places.{IsStreamRest}
use Rattle.ogg_page.specs.Head.{Stands}

first_of : (committed : List ℕ) (serial place skip count : ℕ) (front behind : List ℕ) (pages : List Page) → committed ≡ front ++ (bytes_of_pages pages ++ behind)
    → length front ≡ place → AllByRecursion IsPage pages → skip + count ≤ length (bytes_of_pages (pages_with serial pages)) → 0 < count
    → (page : Page) × Stands (drop place committed) page × (place ≤ length committed)
first_of committed serial place skip count front behind [] split at are inside some = absurd (omega (arith, inside, some))
first_of committed serial place skip count front behind (page ∷ pages) split at are inside some = (
  page,
  record {
    is_page = are.0;
    tail = bytes_of_pages pages ++ behind;
    spelled = ap (drop place) split ∙ drop_at front (bytes_of_pages (page ∷ pages) ++ behind) place at ∙ append_assoc (page_bytes page) (bytes_of_pages pages) behind;
  },
  (let n = ap length split ∙ length-append front (bytes_of_pages (page ∷ pages) ++ behind) in omega (arith, n, at)),
)

-- a rest that isn't empty has a page at its place
pub record HasPage (bytes committed : List ℕ) (place : ℕ) : Type 0 where
  pub page : Page
  pub stands : Stands (drop place committed) page
  pub in_all : Stands (drop place bytes) page

pub ahead : (bytes committed more : List ℕ) (serial place skip count : ℕ) (rest : List ℕ) → bytes ≡ committed ++ more → IsStreamRest committed serial place skip count rest
    → 0 < count → HasPage bytes committed place
ahead bytes committed more serial place skip count rest is r some =
    let (page, stands, le) = first_of committed serial place skip count r.front r.behind r.pages r.split r.place_is r.are_pages r.inside some in
    record {
      page = page;
      stands = stands;
      in_all = record {
        is_page = stands.is_page;
        tail = stands.tail ++ more;
        spelled = ap (drop place) is ∙ drop-append-le place committed more le ∙ ap (λ l. l ++ more) stands.spelled
            ∙ append_assoc (page_bytes page) stands.tail more;
      };
    }
