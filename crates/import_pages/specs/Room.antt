-- What a page reader holds in its room. Ours.
use Rattle.std.specs.Prelude.{◌≡◌, ℕ, ◌-◌, ◌≤◌, Option, Some, None, Result, Ok, Err, List, [], ◌++◌, length, take, drop, ⊤}
use Rattle.std.specs.Io.KnownBytes.{Consumes, IsAtEnd}
use Rattle.ogg_page.specs.Reading.{page_at, fields_at}
use Rattle.ogg_page.specs.Room.{BeginsWithPage}
use Rattle.ogg_page.specs.Window.{LentAt}
use Rattle.import_pages.specs.Reader.{HasFault}
use Rattle.import_pages.specs.declared.held.Held.{Held}
use Rattle.import_pages.specs.declared.held.Lent.{Lent}
use Rattle.import_pages.specs.declared.fault.PageReaderFault.{PageReaderFault}
use Rattle.ogg_page.specs.Sizes.{longest_page}

-- the bytes of the room that are held
abbrev pub held_of : List ℕ → Held → List ℕ
held_of room held = take (held.end - held.start) (drop held.start room)

pub record IsHeld (room : List ℕ) (held : Held) : Type 0 where
  pub whole : longest_page ≤ length room
  pub ordered : held.start ≤ held.end
  pub fits : held.end ≤ length room

-- one read added this number of bytes to those that were held; the number is 0 only at the end of the input
pub record ReadsMore (before : List ℕ) (from : Option (List ℕ)) (count : ℕ) (now : List ℕ) (left : Option (List ℕ)) : Type 0 where
  pub taken : List ℕ
  pub consumed : Consumes from left taken
  pub all : now ≡ before ++ taken
  pub counted : length taken ≡ count
  pub at_end : count ≡ 0 → IsAtEnd left

-- what the bytes that are held show
abbrev pub Shows : List ℕ → Option (List ℕ) → Result (Option ℕ) PageReaderFault → Type 0
Shows now left (Ok (Some size)) = BeginsWithPage now size
Shows now left (Ok None) = (now ≡ []) × IsAtEnd left
Shows now left (Err fault) = HasFault now left fault

-- reads added bytes to those that were held, until they show this
pub record Finds (before : List ℕ) (from : Option (List ℕ)) (result : Result (Option ℕ) PageReaderFault) (now : List ℕ)
    (left : Option (List ℕ)) : Type 0 where
  pub taken : List ℕ
  pub consumed : Consumes from left taken
  pub all : now ≡ before ++ taken
  pub shows : Shows now left result

-- the bytes of the page that is lent, and the page
abbrev pub lent_bytes : List ℕ → Lent → List ℕ
lent_bytes room lent = take (lent.end - lent.start) (drop lent.start room)

abbrev pub lent_of : List ℕ → Option Lent → Option LentAt
lent_of room None = None
lent_of room (Some lent) = Some (lent.offset, fields_at (lent_bytes room lent))

abbrev pub IsLent : List ℕ → Option Lent → Type 0
IsLent room None = ⊤
IsLent room (Some lent) =
    (lent.start ≤ lent.end) × (lent.end ≤ length room) × (page_at (lent_bytes room lent) ≡ Ok (fields_at (lent_bytes room lent)))
