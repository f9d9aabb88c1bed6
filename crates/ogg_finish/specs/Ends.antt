-- What is kept of a link's streams while its pages are read, in turn. Ours.
use Rattle.std.specs.Prelude.{◌≡◌, ℕ, ◌||◌, false, nat_eq, if◌then◌else◌, Option, None, List, [], ◌∷◌, map}
use Rattle.std.specs.Borrow.{MutBor}
use Rattle.std.specs.List.{flat_map, fold}
use Rattle.ogg_page.specs.Page.{Page, bytes_of_pages}
use Rattle.ogg_page.specs.Window.{LentAt}
use Rattle.ogg_page.specs.declared.visiting.Visit.{Visit}
use Rattle.ogg_page.specs.declared.visiting.Visit.TheVariants.{GoesOn}
use Rattle.ogg_page.specs.LogicalStream.{is_last}
use Rattle.link_index.specs.declared.info.StreamInfo.{StreamInfo}
use Rattle.ogg_finish.specs.declared.stream_end.Mark.{Mark}
use Rattle.ogg_finish.specs.declared.stream_end.StreamEnd.{StreamEnd}
use Rattle.ogg_finish.specs.Finishing.{mark_after, finished_page}

-- what is kept of a stream before its first page
abbrev pub without_pages : StreamInfo → StreamEnd
without_pages info = record { serial = info.serial; ended = false; mark = None }

-- what is kept after one page more, if it is one of the stream's own
abbrev pub after_page : Page → StreamEnd → StreamEnd
after_page page end =
    if nat_eq page.serial end.serial
    then record { serial = end.serial; ended = end.ended || is_last page; mark = mark_after end.mark page }
    else end

abbrev pub ends_after : List Page → List StreamEnd → List StreamEnd
ends_after pages ends = fold (λ found page. map (after_page page) found) ends pages

-- where the mark of the stream with this serial is to stand
abbrev pub mark_for : List StreamEnd → ℕ → Option Mark
mark_for [] serial = None
mark_for (end ∷ ends) serial =
    if nat_eq end.serial serial then (if end.ended then end.mark else None) else mark_for ends serial

-- the pages, finished by what is known of their streams
abbrev pub finished_by : List StreamEnd → List Page → List Page
finished_by ends pages = flat_map (λ page. finished_page (mark_for ends page.serial) page) pages

-- what the finished link has of a page
abbrev pub finished_part : List StreamEnd → Page → List ℕ
finished_part ends page = bytes_of_pages (finished_page (mark_for ends page.serial) page)

-- a visitor that notes the ends of streams behind a reference: what it sees
pub record NotesPage {V : Type 0} (ends : V → MutBor (List StreamEnd)) (old : V) (at : LentAt) (visit : Visit) (new : V) : Type 0 where
  pub goes_on : visit ≡ GoesOn
  pub same : (ends new).ghost_name ≡ (ends old).ghost_name
  pub noted : (ends new).now ≡ map (after_page at.1) (ends old).now
