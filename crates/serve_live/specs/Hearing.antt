-- A listener that joined at a moment, and what it was given since. Ours.
use Rattle.std.specs.Prelude.{◌≡◌, ℕ, ◌+◌, if◌then◌else◌, List, ◌++◌, length, drop}
use Rattle.std.specs.List.{AllByRecursion, list_any}
use Rattle.ogg_page.specs.Page.{Page, IsPage, bytes_of_pages}
use Rattle.ogg_page.specs.LogicalStream.{is_first}
use Rattle.serve_live.specs.Names.{name_in, plain}
use Rattle.serve_live.specs.Heard.{gap}
use Rattle.serve_live.specs.Listening.{IsLeft, ListenerState}
use Rattle.serve_live.specs.Live.{IsLive, Moment}

-- the gaps that count after these pages since the moment
abbrev pub gap_since : Moment → List Page → ℕ → ℕ
gap_since moment done serial = if list_any is_first done then 0 else gap moment.begin moment.passed serial

-- What was given and what is still to be heard are together what is heard since the moment, of what is committed now.
-- The listener stands behind the pages that were heard whole, and knows how streams are heard from there on.
pub record IsHearing (moment : Moment) (committed : List ℕ) (listener : ListenerState) (given : List ℕ) : Type 0 where
  pub done : List Page
  pub are_done : AllByRecursion IsPage done
  pub between : drop moment.place committed ≡ bytes_of_pages done ++ drop listener.place committed
  pub place : listener.place ≡ moment.place + length (bytes_of_pages done)
  pub names : (serial : ℕ) → name_in listener.names serial ≡ plain (gap_since moment done) serial
  pub rest : List ℕ
  pub left : IsLeft committed listener rest
  pub live : IsLive moment committed (given ++ rest)
