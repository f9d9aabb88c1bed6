-- From page to page of one stream.
use Rattle.std.specs.Prelude.{◌≡◌, ◌<◌, ◌≤◌, ℕ, ◌+◌, nat_eq, if◌then◌else◌, Option, Some, None, Result, Ok, Err, List, [], ◌∷◌, ◌++◌, length, take}
use Rattle.std.specs.List.{AllByRecursion}
use Rattle.ogg_page.specs.Page.{Page, IsPage, bytes_of_pages}
use Rattle.ogg_page.specs.Pages.{FoundPage, found_in, located}
use Rattle.packet_view.specs.Packets.{Part, PacketsLeft, with_part, is_some_part, body_place, behind_page, position_in, no_packet, after_packets, packets_from}
use Rattle.packet_view.specs.Front.{front_size, packets_left, parts_left}
use Rattle.packet_view.specs.declared.unread.Unread.{Unread}
use Rattle.packet_view.specs.declared.place.Behind.{Behind}
use Rattle.packet_view.specs.declared.place.Place.{Place}
use Rattle.packet_view.specs.declared.fault.ViewFault.{ViewFault}
use Rattle.packet_view.specs.declared.fault.ViewFault.TheVariants.{Unfinished}

-- the packets from a place on, if the first of them has these parts in the pages before
abbrev pub packets_at : ℕ → Place → List Part → PacketsLeft
packets_at serial place parts =
    after_packets (packets_left place.unread parts) (packets_from serial place.behind (parts_left place.unread parts) (found_in place.offset place.rest.now))

-- the place is another one with this left of its page
pub record IsPlaceWith (place : Place) (left : Unread) (new : Place) : Type 0 where
  pub behind : new.behind ≡ place.behind
  pub unread : new.unread ≡ left
  pub rest : new.rest ≡ place.rest
  pub offset : new.offset ≡ place.offset

-- the parts that a packet of the stream has in these pages, if each of the stream's pages begins with bytes of it
unfoldable pub parts_in : ℕ → List FoundPage → List Part
parts_in serial [] = []
parts_in serial (Err fault ∷ found) = []
parts_in serial (Ok place ∷ found) =
    if nat_eq place.1.serial serial
    then with_part [] (body_place place.0 place.1) (take (front_size place.1.lacing) place.1.body) ++ parts_in serial found
    else parts_in serial found

-- the place is in front of the lacing values and the body of the page at this offset, after which these bytes are
-- left
pub record IsBefore (page : Page) (offset : ℕ) (rest : List ℕ) (end : ℕ) (place : Place) : Type 0 where
  pub behind : place.behind ≡ behind_page page
  pub lacing : place.unread.lacing.now ≡ page.lacing
  pub body : place.unread.body.now ≡ page.body
  pub body_is_at : place.unread.place ≡ body_place offset page
  pub position : place.unread.position ≡ position_in page
  pub left : place.rest.now ≡ rest
  pub left_is_at : place.offset ≡ end

-- from these bytes on, the stream's next page is the last of `pages`, and the place is in front of its lacing
-- values and body
pub record Reaches (serial start : ℕ) (source : List ℕ) (place : Place) : Type 0 where
  pub pages : List Page
  pub are_pages : AllByRecursion IsPage pages
  pub joined : source ≡ bytes_of_pages pages ++ place.rest.now
  pub size : place.offset ≡ start + length (bytes_of_pages pages)
  pub later : start ≤ place.unread.place
  pub shorter : length place.rest.now < length source
  pub parts : parts_in serial (located start pages) ≡ with_part [] place.unread.place (take (front_size place.unread.lacing.now) place.unread.body.now)

-- A search for the stream's next page finds its place, and the packets are those from there on; or there is no next
-- page, for this reason.
abbrev pub Leads : ℕ → Behind → List Part → ℕ → List ℕ → Result (Option Place) ViewFault → Type 0
Leads serial behind parts start source (Err fault) = packets_from serial behind parts (found_in start source) ≡ no_packet (Some fault)
Leads serial behind parts start source (Ok None) =
    packets_from serial behind parts (found_in start source) ≡ no_packet (if is_some_part parts then Some Unfinished else None)
Leads serial behind parts start source (Ok (Some place)) = packets_from serial behind parts (found_in start source) ≡ packets_at serial place parts
