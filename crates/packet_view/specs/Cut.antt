-- How far a stream has read the page that its window lends.
use Rattle.std.specs.Prelude.{◌≡◌, ℕ, ◌+◌, ◌-◌, ◌<◌, ◌≤◌, Bool, not, Option, Some, None, Result, Ok, Err, List, [], ◌∷◌, length, take, drop, sum, IsSome, ⊤}
use Rattle.ogg_page.specs.Page.{Page, IsPage}
use Rattle.ogg_page.specs.Pages.{FoundPage, found_in}
use Rattle.ogg_page.specs.Window.{LentAt, WindowState, KeepsSource, left_of}
use Rattle.ogg_page.specs.declared.fault.WindowFault.{WindowFault}
use Rattle.packet_view.specs.Packets.{position_in}
use Rattle.packet_view.specs.StreamParts.{PagePart, PartsLeft, page_parts, goes_on, no_part, after_parts, parts_from}
use Rattle.packet_view.specs.Stream.{fault_of_window, HasReadCause}
use Rattle.packet_view.specs.declared.fault.StreamFault.{StreamFault}
use Rattle.packet_view.specs.declared.fault.StreamFault.TheVariants.{Source, View}
use Rattle.packet_view.specs.declared.place.Behind.{Behind}
use Rattle.packet_view.specs.declared.cut.Cut.{Cut}
use Rattle.packet_view.specs.declared.cut.Given.{Given}
use Rattle.packet_view.specs.declared.cut.Progress.{Progress}

-- the parts of a page that haven't been lent yet
abbrev pub parts_behind_cut : Page → Bool → Cut → List PagePart
parts_behind_cut page unfinished cut =
    page_parts (position_in page) (not unfinished) 0 (drop cut.values page.lacing) (drop cut.bytes page.body)

abbrev pub left_in : Option LentAt → Bool → Option Cut → List PagePart
left_in lent unfinished None = []
left_in None unfinished (Some cut) = []
left_in (Some lent) unfinished (Some cut) = parts_behind_cut lent.1 unfinished cut

-- whether a packet goes on after that page
abbrev pub goes_on_in : Option LentAt → Bool → Option Cut → Bool
goes_on_in lent unfinished None = unfinished
goes_on_in None unfinished (Some cut) = unfinished
goes_on_in (Some lent) unfinished (Some cut) = goes_on unfinished (drop cut.values lent.1.lacing)

-- lacing values of the page are left, and the bytes that they stand for
pub record CutFits (page : Page) (cut : Cut) : Type 0 where
  pub is_page : IsPage page
  pub values : cut.values < length page.lacing
  pub bytes : cut.bytes ≤ length page.body
  pub whole : sum (drop cut.values page.lacing) ≡ length (drop cut.bytes page.body)

abbrev pub IsCut : Option WindowFault → Option LentAt → Option Cut → Type 0
IsCut fault lent None = ⊤
IsCut fault None (Some cut) = ⊥
IsCut fault (Some lent) (Some cut) = (fault ≡ None) × CutFits lent.1 cut

-- the page is read as far as this, and these lacing values of it are left
abbrev pub rest_cut : List ℕ → ℕ → ℕ → Option Cut
rest_cut [] values bytes = None
rest_cut (value ∷ left) values bytes = Some (record { values = values; bytes = bytes })

-- the part that is lent
abbrev pub part_given : Page → Given → PagePart
part_given page given =
    record {
      bytes = take (given.end - given.start) (drop given.start page.body);
      first = given.first;
      last = given.last;
      position = given.position;
    }

abbrev pub given_in : Option LentAt → Option Given → Option PagePart
given_in lent None = None
given_in None (Some given) = None
given_in (Some lent) (Some given) = Some (part_given lent.1 given)

pub record GivenFits (page : Page) (given : Given) : Type 0 where
  pub order : given.start ≤ given.end
  pub inside : given.end ≤ length page.body

abbrev pub IsGiven : Option LentAt → Option Given → Type 0
IsGiven lent None = ⊤
IsGiven None (Some given) = ⊥
IsGiven (Some lent) (Some given) = GivenFits lent.1 given

-- the front part is cut off a page
pub record HasCut (page : Page) (old : Progress) (cut : Cut) (given : Given) (new : Progress) : Type 0 where
  pub fits : IsCut None (Some (0, page)) new.cut
  pub given_fits : GivenFits page given
  pub behind : new.behind ≡ old.behind
  pub parts : parts_behind_cut page old.unfinished cut ≡ part_given page given ∷ left_in (Some (0, page)) new.unfinished new.cut
  pub unfinished : goes_on_in (Some (0, page)) new.unfinished new.cut ≡ goes_on old.unfinished (drop cut.values page.lacing)

-- the same, of the page that a window lends
pub record CutsFront (fault : Option WindowFault) (lent : Option LentAt) (old : Progress) (given : Given) (new : Progress) : Type 0 where
  pub cut : IsCut fault lent new.cut
  pub fits : IsGiven lent (Some given)
  pub behind : new.behind ≡ old.behind
  pub part : PagePart
  pub lends : given_in lent (Some given) ≡ Some part
  pub parts : left_in lent old.unfinished old.cut ≡ part ∷ left_in lent new.unfinished new.cut
  pub unfinished : goes_on_in lent new.unfinished new.cut ≡ goes_on_in lent old.unfinished old.cut

-- the parts that are still to come of the page that is lent, and of what is found after it
abbrev pub parts_then : ℕ → Option LentAt → Progress → List FoundPage → PartsLeft
parts_then serial lent p found =
    after_parts (left_in lent p.unfinished p.cut) (parts_from serial p.behind (goes_on_in lent p.unfinished p.cut) found)

-- the same, of a window
abbrev pub parts_at : {S : Type 0} → (S → List ℕ) → ℕ → WindowState S → Progress → PartsLeft
parts_at bytes serial w p = parts_then serial w.lent p (found_in (left_of bytes w).offset (left_of bytes w).bytes)

abbrev pub calls_at : {S : Type 0} → WindowState S → Progress → ℕ
calls_at w p = length (left_in w.lent p.unfinished p.cut) + (w.to - w.at)

-- nothing of a page is read
abbrev pub at_front : Behind → Bool → Progress
at_front behind unfinished = record { behind = behind; unfinished = unfinished; cut = Some (record { values = 0; bytes = 0 }) }

-- what is left stays, and lacing values of the page that is lent are now among it; or nothing is left
abbrev pub LeadsOn : PartsLeft → (Progress → PartsLeft) → Progress → Result (Option Progress) StreamFault → Type 0
LeadsOn old new from (Ok (Some p)) = old ≡ new p
LeadsOn old new from (Ok None) = (old ≡ no_part None) × (new from ≡ no_part None)
LeadsOn old new from (Err Source) = ⊤
LeadsOn old new from (Err (View fault)) = old ≡ no_part (Some fault)

abbrev pub IsReady : {S : Type 0} → Progress → WindowState S → WindowState S → Result (Option Progress) StreamFault → Type 0
IsReady from old new (Ok (Some p)) =
    IsCut new.fault new.lent p.cut × IsSome p.cut × (new.fault ≡ None) × (calls_at new p ≤ calls_at old from)
IsReady from old new (Ok None) = (from.cut ≡ None) × (new.fault ≡ None)
IsReady from old new (Err fault) = from.cut ≡ None

-- the window is at a page of the stream of which lacing values are left, or nothing is left
pub record HasReached {S : Type 0} (bytes : S → List ℕ) (honest : S → Type 0) (size failures : S → ℕ) (only_reads : S → S → Type 0)
    (serial : ℕ) (from : Progress) (old : WindowState S) (result : Result (Option Progress) StreamFault) (new : WindowState S) : Type 0 where
  pub leads : honest old.source → old.fault ≡ None → LeadsOn (parts_at bytes serial old from) (parts_at bytes serial new) from result
  pub ready : IsReady from old new result
  pub stays : (fault : WindowFault) → old.fault ≡ Some fault → (result ≡ Err (fault_of_window fault)) × (new ≡ old)
  pub cause : old.fault ≡ None → HasReadCause (failures old.source) (failures new.source) result
  pub source : KeepsSource bytes honest size only_reads old.source new.source
  pub to : new.to ≡ old.to
