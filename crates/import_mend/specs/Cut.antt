-- The pages of a link without the unfinished packet of one of its streams. What the pages hold else stays (RFC 3533,
-- sections 5 and 6).
use Rattle.std.specs.Prelude.{ℕ, ◌-◌, Bool, not, ◌&&◌, nat_eq, if◌then◌else◌, List, [], ◌∷◌}
use Rattle.ogg_page.specs.Page.{Page}
use Rattle.ogg_page.specs.LogicalStream.{is_continued, joined_lacing}
use Rattle.link_chain.specs.Links.{pages_with}
use Rattle.import_mend.specs.Mended.{ends_some, whole_values, with_values}

-- a packet ends in one of these pages of a stream
abbrev pub some_ends : List Page → Bool
some_ends pages = ends_some (joined_lacing pages)

-- A page after which no packet of its stream ends keeps the packets that end in it. If none does, a packet that goes
-- on from the page before is the unfinished one too.
abbrev pub cut_flags : Page → ℕ
cut_flags page = if is_continued page && not (ends_some page.lacing) then page.flags - 1 else page.flags

abbrev pub cut_page : Page → Page
cut_page page = record (with_values (whole_values page.lacing) page) { flags = cut_flags page }

-- one of the pages of a stream, before these
abbrev pub cut_before : List Page → Page → Page
cut_before later page = if some_ends later then page else cut_page page

-- the pages of a stream
abbrev pub cut_pages : List Page → List Page
cut_pages [] = []
cut_pages (page ∷ pages) = cut_before pages page ∷ cut_pages pages

-- the pages of a link, without the unfinished packet of the stream with this serial
abbrev pub cut_back : ℕ → List Page → List Page
cut_back serial [] = []
cut_back serial (page ∷ pages) =
    (if nat_eq page.serial serial then cut_before (pages_with serial pages) page else page) ∷ cut_back serial pages

-- the same of the last link
abbrev pub cut_links : ℕ → List (List Page) → List (List Page)
cut_links serial [] = []
cut_links serial (link ∷ []) = cut_back serial link ∷ []
cut_links serial (link ∷ next ∷ links) = link ∷ cut_links serial (next ∷ links)
