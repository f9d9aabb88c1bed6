-- What holds of reading a page. These are laws, to be cited.
use Rattle.std.specs.Prelude.{◌≡◌, ◌≢◌, ℕ, ◌≤◌, Ok, Err, List, ◌++◌, take}
use Rattle.ogg_page.specs.Page.{Page, IsPage, AreBytes, page_bytes}
use Rattle.ogg_page.specs.Reading.{page_at}
use Rattle.ogg_page.specs.declared.fault.PageFault.{PageFault}
use Rattle.ogg_page.specs.Laws.Sight
use Rattle.ogg_page.specs.Laws.ReadAgain
use Rattle.ogg_page.specs.Sizes.{longest_page}

-- a page's bytes are read as that page, whatever follows
pub page_is_read : (page : Page) (more : List ℕ) → IsPage page → page_at (page_bytes page ++ more) ≡ Ok page
page_is_read page more is = ReadAgain.page_is_read page more is

-- what is read is a page, and its bytes stand in front
pub read_is_page : (bytes : List ℕ) (page : Page) → AreBytes bytes → page_at bytes ≡ Ok page →
    IsPage page × (more : List ℕ) × (bytes ≡ page_bytes page ++ more)
read_is_page bytes page small read = Sight.found_there bytes page small read

-- if there is a fault in front, no page stands there
pub fault_is_no_page : (bytes : List ℕ) (fault : PageFault) → page_at bytes ≡ Err fault
    → (page : Page) (more : List ℕ) → IsPage page → bytes ≢ page_bytes page ++ more
fault_is_no_page bytes fault read page more is = Sight.no_page bytes fault read page more is

-- what stands in front shows in as many bytes as the longest page has, or in all of them
pub shows_in_front : (n : ℕ) (bytes : List ℕ) → AreBytes (take n bytes) → longest_page ≤ n → page_at (take n bytes) ≡ page_at bytes
shows_in_front n bytes small long = Sight.shows_in_front n bytes small long

-- a page shows in as many bytes as it has
pub page_in_front : (n : ℕ) (bytes : List ℕ) (page : Page) → AreBytes (take n bytes) → page_at (take n bytes) ≡ Ok page
    → page_at bytes ≡ Ok page
page_in_front n bytes page small read = Sight.page_in_front n bytes page small read
