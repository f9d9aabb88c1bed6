-- Links in which each ended stream has its mark of the last page on a page with a packet. RFC 3533 (section 6, field
-- 3) lets the mark stand on a page without packets too, but many players then play too much, or too little, of the
-- stream's end. Which page is marked is ours.
use Rattle.std.specs.Prelude.{ℕ, ◌+◌, ◌-◌, ◌^◌, Bool, not, ◌&&◌, ◌||◌, nat_eq, nat_lt, if◌then◌else◌, Option, None, Some, List, [], ◌∷◌, length, map}
use Rattle.std.specs.List.{flat_map, fold, list_any}
use Rattle.ogg_page.specs.Page.{Page}
use Rattle.ogg_page.specs.LogicalStream.{is_first, is_last}
use Rattle.link_chain.specs.Links.{pages_with}
use Rattle.ogg_finish.specs.declared.stream_end.Mark.{Mark}

-- ---- where the mark goes
-- The page can carry the mark: it has lacing values, and isn't its stream's first. (If a stream has no page but its
-- first, the mark stays on a distinct page: on a link's first page it would end the link there, as section 4 says.)
abbrev pub is_full : Page → Bool
is_full page = nat_lt 0 (length page.lacing) && not (is_first page)

abbrev pub mark_on : Page → Mark
mark_on page = record { sequence = page.sequence; position = page.position }

-- the position of a page in which no packet ends (section 6, field 4)
abbrev pub no_position : ℕ
no_position = 2 ^ 64 - 1

-- a later page without packets has no other position, so that it may go
abbrev pub repeats : Mark → Page → Bool
repeats mark page = nat_eq page.position mark.position || nat_eq page.position no_position

-- the same mark, unless the later page has another position: without that page the stream's end would be lost
abbrev pub kept_at : Page → Option Mark → Option Mark
kept_at page None = None
kept_at page (Some mark) = if repeats mark page then Some mark else None

-- where the mark is to stand, after one page more
abbrev pub mark_after : Option Mark → Page → Option Mark
mark_after found page = if is_full page then Some (mark_on page) else kept_at page found

-- the mark is to stand on the last of these pages that can carry it, if the pages after that one have no other
-- position
abbrev pub mark_in : List Page → Option Mark
mark_in own = fold mark_after None own

-- the same, in a stream that has ended; otherwise there is no mark
abbrev pub end_mark : List Page → Option Mark
end_mark own = if list_any is_last own then mark_in own else None

-- ---- pages, finished
-- the page, marked as its stream's last
abbrev pub marked_last : Page → Page
marked_last page = record page { flags = if is_last page then page.flags else page.flags + 4 }

-- Pages before the mark's place stay, the one at its place is marked, and those after it go: they have no lacing
-- values.
abbrev pub up_to : Option Mark → Page → List Page
up_to None page = page ∷ []
up_to (Some mark) page =
    if nat_lt page.sequence mark.sequence then page ∷ [] else (if nat_eq page.sequence mark.sequence then marked_last page ∷ [] else [])

-- a stream's first page stays as it is
abbrev pub finished_page : Option Mark → Page → List Page
finished_page mark page = if is_first page then page ∷ [] else up_to mark page

-- one stream's pages
abbrev pub finished_stream : List Page → List Page
finished_stream own = flat_map (finished_page (end_mark own)) own

-- a link's pages, each by its stream
abbrev pub finished_link : List Page → List Page
finished_link link = flat_map (λ page. finished_page (end_mark (pages_with page.serial link)) page) link

abbrev pub finished_links : List (List Page) → List (List Page)
finished_links links = map finished_link links
