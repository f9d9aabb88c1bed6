-- The packets of a stream in the standard's words: those that its pages before the first page at fault hold.
use Rattle.std.specs.Prelude.{◌≡◌, ◌≢◌, ℕ, zero, suc, count_by, replicate, not, nat_eq, if◌then◌else◌, IsSome, Option, Some, None, Ok, Err, List, [], ◌∷◌, ◌++◌, map, true, false}
use Rattle.std.specs.List.{flat_map, list_any}
use Rattle.ogg_page.specs.Sizes.{full_value}
use Rattle.ogg_page.specs.Page.{Page}
use Rattle.ogg_page.specs.Pages.{FoundPage}
use Rattle.ogg_page.specs.Lacing.{ends_open}
use Rattle.ogg_page.specs.LogicalStream.{HoldsPackets, EachBehind, joined_lacing, number_behind, is_continued, is_last}
use Rattle.packet_view.specs.Packets.{PacketsLeft, joined_parts, misplaced, position_in}
use Rattle.packet_view.specs.declared.place.Behind.{Behind}
use Rattle.packet_view.specs.declared.fault.ViewFault.{ViewFault}
use Rattle.packet_view.specs.declared.fault.ViewFault.TheVariants.{Page as PageIsAtFault, Unfinished}

abbrev pub found_page : ℕ × Page → FoundPage
found_page at = Ok at

-- the stream's pages among these, each with its offset
abbrev pub pages_of_stream : ℕ → List (ℕ × Page) → List Page
pages_of_stream serial [] = []
pages_of_stream serial (at ∷ pages) = if nat_eq at.1.serial serial then at.1 ∷ pages_of_stream serial pages else pages_of_stream serial pages

-- a page fits the stream's pages before it, as far as a reader asks that it does
pub record FitsInOrder (before : List Page) (page : Page) : Type 0 where
  pub continued : is_continued page ≡ ends_open (joined_lacing before)
  pub sequence : before ≢ [] → page.sequence ≡ number_behind before
  pub last : list_any is_last before ≡ false

-- what the stream's next page must fit
abbrev pub number_after : List Page → Option ℕ
number_after [] = None
number_after (page ∷ pages) = Some (number_behind (page ∷ pages))

abbrev pub behind_pages : List Page → Behind
behind_pages before = record { number = number_after before; ended = list_any is_last before }

-- The fault after the stream's pages `before`, which leave this number of segments of a packet that goes on. The
-- rest decides it: at the end of the bytes it is an unfinished packet; if no page begins, the page's fault; or else
-- that of a page of the stream that doesn't fit.
abbrev pub IsFaultBehind : ℕ → List Page → ℕ → List FoundPage → Option ViewFault → Type 0
IsFaultBehind serial before segments [] fault = fault ≡ (if nat_eq segments 0 then None else Some Unfinished)
IsFaultBehind serial before segments (Err at ∷ rest) fault = fault ≡ Some (PageIsAtFault at.0 at.1)
IsFaultBehind serial before segments (Ok at ∷ rest) fault =
    (nat_eq at.1.serial serial ≡ true) × (fault ≡ misplaced (behind_pages before) (not (nat_eq segments 0)) at.0 at.1) × IsSome fault

-- how many packets end in these lacing values
abbrev pub packets_ended : List ℕ → ℕ
packets_ended lacing = count_by (λ value. not (nat_eq value full_value)) lacing

-- the positions of this many packets that end in one page: the last has the page's, and those before it have none
abbrev pub last_alone : Option ℕ → ℕ → List (Option ℕ)
last_alone position zero = []
last_alone position (suc n) = replicate n None ++ position ∷ []

abbrev pub positions_of : Page → List (Option ℕ)
positions_of page = last_alone (position_in page) (packets_ended page.lacing)

-- The packets are those that the stream's pages before the first page at fault hold, in order and whole, each with its
-- position.
pub record AreHeld (serial : ℕ) (found : List FoundPage) (left : PacketsLeft) : Type 0 where
  pub good : List (ℕ × Page)
  pub rest : List FoundPage
  pub split : found ≡ map found_page good ++ rest
  pub segments : ℕ
  pub unfinished : List ℕ
  pub holds : HoldsPackets (pages_of_stream serial good) (map (λ packet. joined_parts packet.parts) left.packets) segments unfinished
  pub positions : map (λ packet. packet.position) left.packets ≡ flat_map positions_of (pages_of_stream serial good)
  pub fit : EachBehind FitsInOrder [] (pages_of_stream serial good)
  pub fault : IsFaultBehind serial (pages_of_stream serial good) segments rest left.fault
