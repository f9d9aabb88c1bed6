-- Where a cut of a file may begin. Ours.
use Rattle.std.specs.Prelude.{◌≡◌, ◌≢◌, ℕ, List, [], ◌++◌, length, Option, Some, None}
use Rattle.std.specs.List.{flat_map}
use Rattle.ogg_page.specs.Page.{Page, bytes_of_pages}
use Rattle.serve_live.specs.Live.{Moment}
use Rattle.serve_live.specs.Places.{IsPlaceIn}
use Rattle.archive_times.specs.declared.line.Join.{Join}

-- No link is open there, and others follow.
pub record IsStartWaiting (links : List (List Page)) (moment : Moment) (start : ℕ) : Type 0 where
  pub before : List (List Page)
  pub further : List (List Page)
  pub split : links ≡ before ++ further
  pub some : further ≢ []
  pub start_is : start ≡ length (flat_map bytes_of_pages before)
  pub moment_is : moment ≡ record { place = start; begin = []; passed = [] }

-- A link is open there, which may be joined; others may follow.
pub record IsStartJoined (links : List (List Page)) (moment : Moment) (start : ℕ) (link : Join) : Type 0 where
  pub up_to : List (List Page)
  pub further : List (List Page)
  pub split : links ≡ up_to ++ further
  pub place : IsPlaceIn up_to moment (record { begin = link.begin; begun = link.begun; boundary = start })

-- by what a line of times says of the link that was open
abbrev pub IsStart : List (List Page) → Moment → ℕ → Option Join → Type 0
IsStart links moment start None = IsStartWaiting links moment start
IsStart links moment start (Some link) = IsStartJoined links moment start link
