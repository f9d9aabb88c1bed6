-- What holds of bytes as pages, one after the other. These are laws, to be cited.
use Rattle.std.proofs.Common.{◌≡◌, ◌≢◌, ℕ, ◌+◌, Ok, Err, List, [], ◌∷◌, ◌++◌, length, refl, sym, ap}
use Rattle.std.specs.List.{AllByRecursion}
use Rattle.ogg_page.specs.Page.{Page, IsPage, AreBytes, page_bytes, page_size, bytes_of_pages}
use Rattle.ogg_page.specs.Reading.{page_at}
use Rattle.ogg_page.specs.Pages.{BeginsWithPages, AreFoundIn, located, found_in}
use Rattle.ogg_page.specs.declared.fault.PageFault.{PageFault}
use Rattle.ogg_page.specs.Laws.Found
use Rattle.ogg_page.specs.Laws.Prefixes
use Rattle.ogg_page.specs.Laws.Walk

-- bytes have one longest prefix of pages
pub one_prefix : (p q : List Page) (bytes x y : List ℕ) → BeginsWithPages bytes p x → BeginsWithPages bytes q y
    → (p ≡ q) × (x ≡ y)
one_prefix p q bytes x y a b = Walk.one_prefix p q bytes x y a b

-- what is found in no bytes, in bytes that begin with no page, and in bytes that begin with one
pub found-nothing : (offset : ℕ) → found_in offset [] ≡ []
found-nothing offset = Found.found-nothing offset

pub found-fault : (offset : ℕ) (bytes : List ℕ) (fault : PageFault) → bytes ≢ [] → page_at bytes ≡ Err fault
    → found_in offset bytes ≡ Err (offset, fault) ∷ []
found-fault offset bytes fault some read = Found.found-fault offset bytes fault some read

pub found-page : (offset : ℕ) (page : Page) (rest : List ℕ) → IsPage page →
    found_in offset (page_bytes page ++ rest) ≡ Ok (offset, page) ∷ found_in (offset + page_size page) rest
found-page offset page rest is = Found.found-page offset page rest is

-- pages in front are found, and then what follows
pub found-pages : (offset : ℕ) (pages : List Page) (rest : List ℕ) → AllByRecursion IsPage pages →
    found_in offset (bytes_of_pages pages ++ rest) ≡ located offset pages ++ found_in (offset + length (bytes_of_pages pages)) rest
found-pages offset pages rest are = Found.found-pages offset pages rest are

-- what is found is the longest prefix of pages, and then a fault if bytes remain
pub are_found : (bytes : List ℕ) → AreBytes bytes → AreFoundIn bytes (found_in 0 bytes)
are_found bytes small = Found.are_found bytes small

-- ---- the first of pages
-- bytes of pages that begin with this page: what follows it are the others
pub record Follows (page : Page) (rest : List ℕ) (pages : List Page) : Type 0 where
  pub more : List Page
  pub is : pages ≡ page ∷ more
  pub rest_is : rest ≡ bytes_of_pages more
  pub are : AllByRecursion IsPage more

pub follows : (pages : List Page) (page : Page) (rest : List ℕ) → AllByRecursion IsPage pages → IsPage page → bytes_of_pages pages ≡ page_bytes page ++ rest
    → Follows page rest pages
follows [] page rest are is e = absurd (Walk.nothing_is_no_page page rest e)
follows (p ∷ ps) page rest are is e =
    let same : (p ≡ page) × (bytes_of_pages ps ≡ rest) = Prefixes.one_page p page (bytes_of_pages ps) rest are.0 is e in
    record { more = ps; is = ap (λ (q : Page). q ∷ ps) same.0; rest_is = sym same.1; are = are.1 }

-- no bytes are no pages
pub no_pages : (pages : List Page) → bytes_of_pages pages ≡ [] → pages ≡ []
no_pages [] e = refl
no_pages (p ∷ ps) e = absurd (Walk.nothing_is_no_page p (bytes_of_pages ps) (sym e))
