-- How many bytes pages have.
use Rattle.std.specs.Prelude.{ℕ, ◌^◌, Bool, nat_le, if◌then◌else◌, Option, Some, None, List, sum_by}
use Rattle.std.specs.List.{list_any}
use Rattle.ogg_page.specs.Page.{Page, page_size}

-- the page would need a sequence number that doesn't fit its field
abbrev pub has_no_number : Page → Bool
has_no_number page = nat_le (2 ^ 32) page.sequence

abbrev pub size_of_pages : List Page → ℕ
size_of_pages pages = sum_by page_size pages

-- their size, if each page can have its number
abbrev pub numbered_size : List Page → Option ℕ
numbered_size pages = if list_any has_no_number pages then None else Some (size_of_pages pages)
