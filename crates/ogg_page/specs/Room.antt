-- What a window holds in its room. Ours.
use Rattle.std.specs.Prelude.{◌≡◌, ℕ, ◌+◌, ◌-◌, ◌≤◌, Option, Some, None, Result, Ok, Err, List, length, take, drop, ⊤}
use Rattle.ogg_page.specs.Page.{Page as PageValue, IsPage, AreBytes, page_size}
use Rattle.ogg_page.specs.Reading.{page_at, fields_at, size_at}
use Rattle.ogg_page.specs.Window.{LentAt}
use Rattle.ogg_page.specs.declared.fault.WindowFault.{WindowFault}
use Rattle.ogg_page.specs.declared.fault.WindowFault.TheVariants.{Source, Page}
use Rattle.ogg_page.specs.declared.held.Held.{Held}
use Rattle.ogg_page.specs.declared.held.Lent.{Lent}
use Rattle.ogg_page.specs.Sizes.{longest_page, room_size}

-- the bytes of the room that are held
abbrev pub held_of : List ℕ → Held → List ℕ
held_of room held = take (held.end - held.start) (drop held.start room)

-- Of the room the bytes from `start` to `end` are those of the source from `at` on.
pub record HoldsBytes (bytes : List ℕ) (honest : Type 0) (size : ℕ) (room : List ℕ) (held : Held) (at to : ℕ) : Type 0 where
  pub whole : length room ≡ room_size
  pub ordered : held.start ≤ held.end
  pub fits : held.end ≤ longest_page
  pub inside : to ≤ size
  pub span : at + (held.end - held.start) ≤ to
  pub same : honest → held_of room held ≡ take (held.end - held.start) (drop at bytes)

-- These bytes begin with a page of this size.
pub record BeginsWithPage (bytes : List ℕ) (size : ℕ) : Type 0 where
  pub page : PageValue
  pub is : IsPage page
  pub read : page_at bytes ≡ Ok page
  pub whole : size ≡ page_size page
  pub fits : size ≤ length bytes
  pub small : AreBytes bytes

-- what is found at an offset, if these bytes of the range are left there
abbrev pub IsFoundAt : Type 0 → ℕ → List ℕ → List ℕ → Result ℕ WindowFault → Type 0
IsFoundAt honest at rest front (Ok size) = BeginsWithPage front size
IsFoundAt honest at rest front (Err Source) = ⊤
IsFoundAt honest at rest front (Err (Page offset fault)) = (offset ≡ at) × (honest → page_at rest ≡ Err fault)

-- the bytes of the page that is lent, and the page
abbrev pub lent_bytes : List ℕ → Lent → List ℕ
lent_bytes room lent = take (lent.end - lent.start) (drop lent.start room)

abbrev pub lent_of : List ℕ → Option Lent → Option LentAt
lent_of room None = None
lent_of room (Some lent) = Some (lent.offset, fields_at (lent_bytes room lent))

abbrev pub IsLent : List ℕ → Option Lent → Type 0
IsLent room None = ⊤
IsLent room (Some lent) =
    (lent.start ≤ lent.end) × (lent.end ≤ longest_page) × (page_at (lent_bytes room lent) ≡ Ok (fields_at (lent_bytes room lent)))
    × (lent.end - lent.start ≡ size_at (lent_bytes room lent))
