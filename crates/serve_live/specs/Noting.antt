-- What pages of a link say of a stream that is joined. Ours.
use Rattle.std.specs.Prelude.{◌≡◌, ℕ, ◌+◌, false, ◌||◌, min, nat_eq, if◌then◌else◌, List, [], ◌∷◌, ◌++◌, length, map, drop}
use Rattle.std.specs.List.{AllByRecursion}
use Rattle.ogg_page.specs.Page.{Page, IsPage, bytes_of_pages}
use Rattle.page_heads.specs.Fronts.{facts_of}
use Rattle.page_heads.specs.declared.front.PageFacts.{PageFacts}
use Rattle.serve_live.specs.declared.joined.JoinedStream.{JoinedStream}
use Rattle.serve_live.specs.declared.joined.LinkPart.{LinkPart}
use Rattle.serve_live.specs.declared.joined.LinkPart.TheVariants.{Beginning, Since}

-- the stream with one of its pages: at the beginning the last page counts, since the boundary the lowest number
abbrev pub stream_by : LinkPart → PageFacts → JoinedStream → JoinedStream
stream_by Beginning page stream = record stream { begun_next = page.number + 1; begun_ended = stream.begun_ended || page.ends }
stream_by Since page stream = record stream { next = min stream.next page.number; ended = false }

-- with any page of the link
abbrev pub stream_with : LinkPart → PageFacts → JoinedStream → JoinedStream
stream_with part page stream = if nat_eq stream.serial page.serial then stream_by part page stream else stream

-- with these pages, one after the other
abbrev pub noted : LinkPart → List Page → JoinedStream → JoinedStream
noted part [] stream = stream
noted part (page ∷ pages) stream = noted part pages (stream_with part (facts_of page) stream)

-- These pages are still to be noted, and then all are.
pub record HasLeft (bytes : List ℕ) (part : LinkPart) (all : List JoinedStream) (rest : List ℕ) (end place : ℕ)
    (now : List JoinedStream) : Type 0 where
  pub pages : List Page
  pub are_pages : AllByRecursion IsPage pages
  pub stand : drop place bytes ≡ bytes_of_pages pages ++ rest
  pub ends : place + length (bytes_of_pages pages) ≡ end
  pub noted_all : map (noted part pages) now ≡ all

-- Of the pages that were to be noted from the start on, those from the place on are left.
abbrev pub AreLeft : List ℕ → LinkPart → ℕ → List JoinedStream → ℕ → ℕ → List JoinedStream → Type 0
AreLeft bytes part start old end place now =
    (pages : List Page) (rest : List ℕ) → AllByRecursion IsPage pages → drop start bytes ≡ bytes_of_pages pages ++ rest
    → start + length (bytes_of_pages pages) ≡ end
    → HasLeft bytes part (map (noted part pages) old) rest end place now
