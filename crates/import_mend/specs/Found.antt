-- The next page of any bytes: those that are of none are passed over. What a page is stands in RFC 3533, section 6;
-- which of them are found is ours.
use Rattle.std.specs.Prelude.{◌≡◌, ◌⊎◌, ℕ, ◌+◌, ◌-◌, ◌^◌, ◌<◌, ◌≤◌, min, nat_eq, if◌then◌else◌, Bool, true, false, Option, Some, None, Result, Ok, Err, List, [], ◌∷◌, ◌++◌, drop, sum}
use Rattle.ogg_page.specs.Page.{Page, IsPage, page_bytes, page_size}
use Rattle.ogg_page.specs.Window.{LentAt}
use Rattle.ogg_page.specs.declared.fault.PageFault.{PageFault}
use Rattle.import_pages.specs.Reader.{HasAdvanced, PassesOver, ReaderState}
use Rattle.import_pages.specs.declared.fault.PageReaderFault.{PageReaderFault}
use Rattle.import_pages.specs.declared.fault.PageReaderFault.TheVariants.{Page as PageOf}
use Rattle.import_mend.specs.declared.mend.Mend.{Mend}
use Rattle.import_mend.specs.declared.mend.Mend.TheVariants.{Junk}

-- no page begins here, and so many bytes are passed over
pub record PassesOne (old : ReaderState) (from : Option (List ℕ)) (count : ℕ) (new : ReaderState) (left : Option (List ℕ)) : Type 0 where
  pub fault : PageFault
  pub at : ReaderState
  pub found : HasAdvanced old from (Err (PageOf fault)) at left
  pub passes : PassesOver at count new

-- so many bytes, and then so many, and so on
abbrev pub PassesAll : List ℕ → ReaderState → Option (List ℕ) → ReaderState → Option (List ℕ) → Type 0
PassesAll [] old from new left = (new ≡ old) × (left ≡ from)
PassesAll (count ∷ counts) old from new left =
    (next : ReaderState) × (middle : Option (List ℕ)) × PassesOne old from count next middle × PassesAll counts next middle new left

-- One look for the next page: a page or the end is found; or no page begins here, and the bytes that are passed over
-- are counted.
abbrev pub Searches : Bool → ReaderState → Option (List ℕ) → ℕ → ReaderState → Option (List ℕ) → ℕ → Type 0
Searches true old from before new left now = HasAdvanced old from (Ok tt) new left × (now ≡ before)
Searches false old from before new left now = (count : ℕ) × PassesOne old from count new left × (now ≡ min (before + count) (2 ^ 64 - 1))

-- These bytes are passed over, and then this is found: a page, the end, or that the reader fails. If the input is as
-- long as a file can't be, the search may stop before; then 2^64 - 1 bytes or more were passed over.
pub record FindsNext (old : ReaderState) (from : Option (List ℕ)) (result : Result (Unit {0}) PageReaderFault) (new : ReaderState)
    (left : Option (List ℕ)) (before now : ℕ) : Type 0 where
  pub counts : List ℕ
  pub passed : ReaderState
  pub rest : Option (List ℕ)
  pub passes : PassesAll counts old from passed rest
  pub junk : before < 2 ^ 64 → now ≡ min (before + sum counts) (2 ^ 64 - 1)
  pub found : HasAdvanced passed rest result new left ⊎ (2 ^ 64 - 1 ≤ sum counts)

-- ---- the same in the input's bytes
-- the bytes of this page stand at this place
pub record StandsAt (bytes : List ℕ) (place : ℕ) (page : Page) : Type 0 where
  pub is_page : IsPage page
  pub rest : List ℕ
  pub spelled : drop place bytes ≡ page_bytes page ++ rest

-- no page stands before this place
abbrev pub NoneBefore : List ℕ → ℕ → Type 0
NoneBefore bytes end = (place : ℕ) (page : Page) → place < end → StandsAt bytes place page → ⊥

-- no page stands in these bytes
abbrev pub HoldsNone : List ℕ → Type 0
HoldsNone bytes = (place : ℕ) (page : Page) → StandsAt bytes place page → ⊥

-- Of these bytes, the first of which is at this offset, these are the first good pages, and then these bytes follow.
-- Each page stands at the first place after the page before at which one does.
abbrev pub AreGoodPages : ℕ → List ℕ → List LentAt → List ℕ → Type 0
AreGoodPages offset bytes [] rest = bytes ≡ rest
AreGoodPages offset bytes (lent ∷ later) rest =
    (place : ℕ) × (more : List ℕ) × NoneBefore bytes place × IsPage lent.1 × (drop place bytes ≡ page_bytes lent.1 ++ more)
    × (lent.0 ≡ offset + place) × AreGoodPages (lent.0 + page_size lent.1) more later rest

-- The reader finds these pages, one after the other.
abbrev pub FindsPages : ReaderState → Option (List ℕ) → List LentAt → ReaderState → Option (List ℕ) → Type 0
FindsPages old from [] new left = (new ≡ old) × (left ≡ from)
FindsPages old from (lent ∷ later) new left =
    (next : ReaderState) × (middle : Option (List ℕ)) × (before : ℕ) × (now : ℕ) × FindsNext old from (Ok tt) next middle before now
    × (next.lent ≡ Some lent) × FindsPages next middle later new left

-- ---- what is told
-- the offset of the page that is lent, or of the end
abbrev pub offset_found : Option LentAt → ℕ → ℕ
offset_found (Some lent) offset = lent.0
offset_found None offset = offset

-- so many bytes of no page, which end at this offset
abbrev pub junk_before : ℕ → ℕ → Option Mend
junk_before end bytes = if nat_eq bytes 0 then None else Some (Junk (end - bytes) bytes)
