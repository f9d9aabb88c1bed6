-- Bytes as pages, one after the other (RFC 3533, section 6).
use Rattle.std.specs.Prelude.{◌≡◌, ◌≢◌, ℕ, zero, suc, ◌+◌, Option, Some, None, Result, Ok, Err, List, [], ◌∷◌, ◌++◌, length, drop}
use Rattle.std.specs.List.{AllByRecursion}
use Rattle.ogg_page.specs.Page.{Page, IsPage, page_bytes, page_size, bytes_of_pages}
use Rattle.ogg_page.specs.Reading.{page_at}
use Rattle.ogg_page.specs.declared.fault.PageFault.{PageFault}

-- The bytes are these pages and then a rest that begins with no page: the longest prefix that is joined pages.
pub record BeginsWithPages (bytes : List ℕ) (pages : List Page) (rest : List ℕ) : Type 0 where
  pub are_pages : AllByRecursion IsPage pages
  pub joined : bytes ≡ bytes_of_pages pages ++ rest
  pub longest : (page : Page) (more : List ℕ) → IsPage page → rest ≢ page_bytes page ++ more

-- a page and the offset where it begins; or the offset where none begins, and the first thing that is wrong there
abbrev pub FoundPage : Type 0
FoundPage = Result (ℕ × Page) (ℕ × PageFault)

-- the pages, the first of which begins at this offset
abbrev pub located : ℕ → List Page → List FoundPage
located offset [] = []
located offset (page ∷ pages) = Ok (offset, page) ∷ located (offset + page_size page) pages

-- the fault at this offset, if bytes are left
abbrev pub fault_of : ℕ → Result Page PageFault → List FoundPage
fault_of offset (Ok page) = []
fault_of offset (Err fault) = Err (offset, fault) ∷ []

abbrev pub fault_at : ℕ → List ℕ → List FoundPage
fault_at offset [] = []
fault_at offset (byte ∷ rest) = fault_of offset (page_at (byte ∷ rest))

-- all that is found in these bytes: their longest prefix of pages, and then one fault if bytes remain
pub record AreFoundIn (bytes : List ℕ) (found : List FoundPage) : Type 0 where
  pub pages : List Page
  pub rest : List ℕ
  pub begins : BeginsWithPages bytes pages rest
  pub all : found ≡ located 0 pages ++ fault_at (length (bytes_of_pages pages)) rest

-- The same, found from page to page: the first of these bytes is at this offset, and at most this number of steps is
-- made.
unfoldable pub found_within : ℕ → ℕ → List ℕ → List FoundPage
found_within zero offset bytes = []
found_within (suc steps) offset [] = []
found_within (suc steps) offset (byte ∷ bytes) =
    elim (page_at (byte ∷ bytes)) [
      | Ok page ↦ Ok (offset, page) ∷ found_within steps (offset + page_size page) (drop (page_size page) (byte ∷ bytes))
      | Err fault ↦ Err (offset, fault) ∷ []
    ]

-- no page is empty, so there are as many steps at most as bytes
abbrev pub found_in : ℕ → List ℕ → List FoundPage
found_in offset bytes = found_within (length bytes) offset bytes

-- how far a walk over bytes has come, and the bytes that it hasn't passed yet
pub record PagesLeft : Type 0 where
  pub offset : ℕ
  pub bytes : List ℕ

-- One step of the walk: a page in front is passed. If none begins, the fault ends the walk, as the end of the bytes
-- does.
abbrev pub NextPage : PagesLeft → Option FoundPage → PagesLeft → Type 0
NextPage old None new = (old.bytes ≡ []) × (new.bytes ≡ [])
NextPage old (Some (Ok found)) new =
    (found.0 ≡ old.offset) × IsPage found.1 × (old.bytes ≡ page_bytes found.1 ++ new.bytes) × (new.offset ≡ old.offset + page_size found.1)
NextPage old (Some (Err found)) new =
    (found.0 ≡ old.offset) × (old.bytes ≢ []) × (page_at old.bytes ≡ Err found.1) × (new.bytes ≡ [])
