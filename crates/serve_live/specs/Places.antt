-- Where a listener joins a link that is recorded. Ours.
use Rattle.std.specs.Prelude.{◌≡◌, ◌+◌, List, [], ◌∷◌, ◌++◌, length}
use Rattle.std.specs.List.{flat_map}
use Rattle.ogg_page.specs.Page.{Page, bytes_of_pages}
use Rattle.serve_live.specs.Joining.{AreLater, IsJoined}
use Rattle.serve_live.specs.Live.{Moment}
use Rattle.serve_live.specs.declared.listener.JoinPlace.{JoinPlace}

-- The last of these links may be joined at the place, which is that of the moment: the link has the moment's pages, and
-- then those since.
pub record IsPlaceIn (links : List (List Page)) (moment : Moment) (place : JoinPlace) : Type 0 where
  pub before : List (List Page)
  pub since : List Page
  pub split : links ≡ before ++ (moment.begin ++ (moment.passed ++ since)) ∷ []
  pub later : AreLater since
  pub joined : IsJoined moment.begin moment.passed
  pub begin_is : place.begin ≡ length (flat_map bytes_of_pages before)
  pub begun_is : place.begun ≡ place.begin + length (bytes_of_pages moment.begin)
  pub boundary_is : place.boundary ≡ place.begun + length (bytes_of_pages moment.passed)
  pub moment_is : moment.place ≡ place.boundary
