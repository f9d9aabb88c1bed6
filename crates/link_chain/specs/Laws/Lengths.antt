-- The size of pages and of links is the length of their bytes.
use Rattle.std.proofs.Common.{◌≡◌, List, [], ◌∷◌, length, sum_by, refl, arith, length-append}
use Rattle.std.specs.List.{flat_map}
use Rattle.std.proofs.lemmas.List.Sums.{sum_by-cons}
use Rattle.ogg_page.specs.Page.{Page, page_bytes, page_size, bytes_of_pages}
use Rattle.ogg_page.specs.PageLaws.{length-page_bytes}
use Rattle.link_chain.specs.ChainState.{chain_state_of}

pub size_is : (pages : List Page) → sum_by page_size pages ≡ length (bytes_of_pages pages)
size_is [] = refl
size_is (page ∷ pages) =
    omega (arith, sum_by-cons page_size page pages, size_is pages, length-page_bytes page, length-append (page_bytes page) (bytes_of_pages pages))

pub sizes_are : (links : List (List Page)) → (chain_state_of links).length_of ≡ length (flat_map bytes_of_pages links)
sizes_are [] = refl
sizes_are (link ∷ links) =
    omega (arith, sum_by-cons (λ (l : List Page). sum_by page_size l) link links, sizes_are links, size_is link, length-append (bytes_of_pages link) (flat_map bytes_of_pages links))
