-- What a stream over a window lends: one part of a packet after the other. Ours.
use Rattle.std.specs.Prelude.{◌≡◌, ◌⊎◌, ℕ, ◌+◌, ◌-◌, ◌^◌, ◌<◌, ◌≤◌, Bool, false, Option, Some, None, Result, Ok, Err, List, [], ◌∷◌, length, ⊤}
use Rattle.ogg_page.specs.Pages.{found_in}
use Rattle.ogg_page.specs.Window.{WindowState, KeepsSource, left_of}
use Rattle.ogg_page.specs.declared.fault.WindowFault.{WindowFault}
use Rattle.ogg_page.specs.declared.fault.WindowFault.TheVariants.{Source as ReadFailed, Page as NoPage}
use Rattle.packet_view.specs.StreamParts.{PagePart, PartsLeft, no_part, after_parts, parts_from, at_start}
use Rattle.packet_view.specs.declared.place.Behind.{Behind}
use Rattle.packet_view.specs.declared.part.Part.{Part}
use Rattle.packet_view.specs.declared.fault.StreamFault.{StreamFault}
use Rattle.packet_view.specs.declared.fault.StreamFault.TheVariants.{Source, View}
use Rattle.packet_view.specs.declared.fault.ViewFault.TheVariants.{Page as PageIsAtFault}

-- Its window, and the serial of its stream; the parts of the page that is lent that haven't been lent yet, and what
-- the stream's next page must fit; the fault that ended it, and the part that is lent.
pub record StreamState (S : Type 0) : Type 0 where
  pub window : WindowState S
  pub serial : ℕ
  pub left : List PagePart
  pub behind : Behind
  pub unfinished : Bool
  pub fault : Option StreamFault
  pub given : Option PagePart

-- what a window's fault is here
abbrev pub fault_of_window : WindowFault → StreamFault
fault_of_window ReadFailed = Source
fault_of_window (NoPage offset fault) = View (PageIsAtFault offset fault)

-- the fault, or that of the window
abbrev pub first_fault : Option StreamFault → Option WindowFault → Option StreamFault
first_fault (Some fault) window = Some fault
first_fault None None = None
first_fault None (Some fault) = Some (fault_of_window fault)

-- the stream that has lent nothing of its window
abbrev pub stream : {S : Type 0} → WindowState S → ℕ → StreamState S
stream window serial =
    record {
      window = window;
      serial = serial;
      left = [];
      behind = at_start;
      unfinished = false;
      fault = first_fault None window.fault;
      given = None;
    }

-- the parts that are still to come, if reads return these bytes
abbrev pub parts_left : {S : Type 0} → (S → List ℕ) → StreamState S → PartsLeft
parts_left bytes s =
    after_parts s.left
    (parts_from s.serial s.behind s.unfinished (found_in (left_of bytes s.window).offset (left_of bytes s.window).bytes))

-- a part that is lent, as its bytes
abbrev pub part_value : Part → PagePart
part_value part = record { bytes = part.bytes.now; first = part.first; last = part.last; position = part.position }

abbrev pub lent_part : Option Part → Option PagePart
lent_part None = None
lent_part (Some part) = Some (part_value part)

abbrev pub lent_parts : Result (Option Part) StreamFault → Result (Option PagePart) StreamFault
lent_parts (Ok part) = Ok (lent_part part)
lent_parts (Err fault) = Err fault

-- what `next_part` answers if `advance` answers this
abbrev pub part_answer : Result (Unit {0}) StreamFault → Option PagePart → Result (Option PagePart) StreamFault
part_answer (Ok done) part = Ok part
part_answer (Err fault) part = Err fault

-- what ended the stream, if this is its answer
abbrev pub stream_fault_left : {T : Type 0} → Result T StreamFault → Option StreamFault
stream_fault_left (Ok value) = None
stream_fault_left (Err fault) = Some fault

-- A call lends the first of the parts that are left. If none is left it returns the fault or the end. If the source
-- fails, nothing is known.
abbrev pub TakesPart : PartsLeft → Result (Option PagePart) StreamFault → PartsLeft → Type 0
TakesPart old (Ok (Some part)) new = old ≡ after_parts (part ∷ []) new
TakesPart old (Ok None) new = (old ≡ no_part None) × (new ≡ old)
TakesPart old (Err Source) new = ⊤
TakesPart old (Err (View fault)) new = old ≡ no_part (Some fault)

-- a fault of the source has a cause
abbrev pub HasReadCause : {T : Type 0} → ℕ → ℕ → Result T StreamFault → Type 0
HasReadCause before now result = (before ≤ now) × (result ≡ Err Source → (before < now) ⊎ (now ≡ 2 ^ 64 - 1))

-- at most this many calls lend a part: the parts of the page that is lent, and the bytes of the range after it
abbrev pub calls_left : {S : Type 0} → StreamState S → ℕ
calls_left s = length s.left + (s.window.to - s.window.at)

-- what a call of `next_part` leaves
pub record HasGiven {S : Type 0} (bytes : S → List ℕ) (honest : S → Type 0) (size failures : S → ℕ) (only_reads : S → S → Type 0)
    (old : StreamState S) (result : Result (Option PagePart) StreamFault) (new : StreamState S) : Type 0 where
  -- it lends the first of the parts that are left
  pub part : honest old.window.source → old.fault ≡ None → TakesPart (parts_left bytes old) result (parts_left bytes new)
  -- fewer are left after it, honest or not, so that a walk ends
  pub fewer : (part : PagePart) → result ≡ Ok (Some part) → calls_left new < calls_left old
  -- a fault stays
  pub fault : new.fault ≡ stream_fault_left result
  pub stays : (fault : StreamFault) → old.fault ≡ Some fault → (result ≡ Err fault) × (new.window ≡ old.window)
  pub cause : old.fault ≡ None → HasReadCause (failures old.window.source) (failures new.window.source) result
  pub source : KeepsSource bytes honest size only_reads old.window.source new.window.source
  pub to : new.window.to ≡ old.window.to
  pub serial : new.serial ≡ old.serial
