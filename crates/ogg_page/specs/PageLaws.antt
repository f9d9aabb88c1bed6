-- What holds of every page's bytes (RFC 3533, section 6). These are laws, to be cited.
use Rattle.std.specs.Prelude.{◌≡◌, ℕ, ◌≤◌, List, ◌∷◌, ◌++◌, length}
use Rattle.std.specs.List.{AllByRecursion}
use Rattle.ogg_page.specs.Page.{Page, IsPage, IsByte, AreBytes, page_bytes, page_size, bytes_of_pages}
use Rattle.ogg_page.specs.Laws.PageBytes
use Rattle.ogg_page.specs.Laws.Prefixes
use Rattle.ogg_page.specs.Laws.ReadAgain
use Rattle.ogg_page.specs.Sizes.{longest_page}

-- how many bytes a page has, and at most
pub length-page_bytes : (page : Page) → length (page_bytes page) ≡ page_size page
length-page_bytes page = ReadAgain.length-page_bytes page

pub page_fits : (page : Page) → IsPage page → page_size page ≤ longest_page
page_fits page is = PageBytes.page_fits page is

-- each of them is below 256
pub all_bytes : (page : Page) → IsPage page → AllByRecursion IsByte (page_bytes page)
all_bytes page is = PageBytes.all_bytes page is

pub are_bytes : (page : Page) → IsPage page → AreBytes (page_bytes page)
are_bytes page is = PageBytes.each_of_all (page_bytes page) (PageBytes.all_bytes page is)

-- a page begins with `O`, and has a second byte
pub page_begins : (page : Page) → (next : ℕ) × (rest : List ℕ) × (page_bytes page ≡ 0x4F ∷ next ∷ rest)
page_begins page = PageBytes.page_begins page

-- the bytes of no page begin those of another
pub one_page : (p q : Page) (x y : List ℕ) → IsPage p → IsPage q → page_bytes p ++ x ≡ page_bytes q ++ y
    → (p ≡ q) × (x ≡ y)
one_page p q x y hp hq same = Prefixes.one_page p q x y hp hq same

-- pages that follow pages are pages, and their bytes follow
pub pages_both : (p q : List Page) → AllByRecursion IsPage p → AllByRecursion IsPage q → AllByRecursion IsPage (p ++ q)
pages_both p q hp hq = PageBytes.all_both IsPage p q hp hq

pub bytes_both : (p q : List Page) → bytes_of_pages (p ++ q) ≡ bytes_of_pages p ++ bytes_of_pages q
bytes_both p q = PageBytes.bytes_both p q

pub all_bytes_of_pages : (pages : List Page) → AllByRecursion IsPage pages → AllByRecursion IsByte (bytes_of_pages pages)
all_bytes_of_pages pages are = PageBytes.all_bytes_of_pages pages are

pub are_bytes_of_pages : (pages : List Page) → AllByRecursion IsPage pages → AreBytes (bytes_of_pages pages)
are_bytes_of_pages pages are = PageBytes.each_of_all (bytes_of_pages pages) (PageBytes.all_bytes_of_pages pages are)
