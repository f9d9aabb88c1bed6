-- What a session of a hub gets that joined at one moment, as far as the file is committed by now. Ours.
use Rattle.std.specs.Prelude.{◌≡◌, ◌⊎◌, ℕ, ◌-◌, false, List, [], ◌∷◌, ◌++◌, length}
use Rattle.std.specs.List.{AllByRecursion}
use Rattle.ogg_page.specs.Page.{Page, IsPage, bytes_of_pages}
use Rattle.link_chain.specs.Links.{AreLinks}
use Rattle.link_chain.specs.ChainState.{chain_state_of, is_open}
use Rattle.serve_live.specs.Heard.{heard_bytes}
use Rattle.serve_live.specs.Joining.{IsJoined}

-- the moment of joining: how many bytes were committed, and the pages of the link that was open, or none
pub record Moment : Type 0 where
  pub place : ℕ
  pub begin : List Page
  pub passed : List Page

-- the last link is open, and has these pages
pub record IsMidway (links : List (List Page)) (moment : Moment) : Type 0 where
  pub before : List (List Page)
  pub split : links ≡ before ++ (moment.begin ++ moment.passed) ∷ []
  pub joined : IsJoined moment.begin moment.passed

-- no link is open
pub record IsBetween (links : List (List Page)) (moment : Moment) : Type 0 where
  pub closed : is_open (chain_state_of links) ≡ false
  pub begin : moment.begin ≡ []
  pub passed : moment.passed ≡ []

-- it is the moment at which these bytes are committed
pub record IsMomentOf (committed : List ℕ) (moment : Moment) : Type 0 where
  pub links : List (List Page)
  pub are_links : AreLinks committed links
  pub place : moment.place ≡ length committed
  pub last : IsMidway links moment ⊎ IsBetween links moment

-- where the link begins that was open then
abbrev pub begin_place : Moment → ℕ
begin_place moment = moment.place - length (bytes_of_pages (moment.begin ++ moment.passed))

-- what is heard since the moment, if these bytes are committed now
pub record IsLive (moment : Moment) (committed bytes : List ℕ) : Type 0 where
  pub front : List ℕ
  pub after : List Page
  pub split : committed ≡ front ++ bytes_of_pages after
  pub place_is : length front ≡ moment.place
  pub are_pages : AllByRecursion IsPage after
  pub bytes_are : bytes ≡ heard_bytes moment.begin moment.passed after
