-- What a window lends: one page of a source after the other. Ours.
use Rattle.std.specs.Prelude.{◌≡◌, ◌≢◌, ◌↔◌, ◌⊎◌, ℕ, ◌+◌, ◌-◌, ◌^◌, ◌<◌, ◌≤◌, Option, Some, None, Result, Ok, Err, List, [], ◌∷◌, ◌++◌, map, take, drop, ⊤}
use Rattle.ogg_page.specs.Page.{Page as PageValue, IsPage, page_size}
use Rattle.ogg_page.specs.Reading.{page_at}
use Rattle.ogg_page.specs.Pages.{FoundPage, PagesLeft, NextPage}
use Rattle.ogg_page.specs.declared.fault.WindowFault.{WindowFault}
use Rattle.ogg_page.specs.declared.fault.WindowFault.TheVariants.{Source, Page}

-- a page that is lent, and the offset in the source where it begins
abbrev pub LentAt : Type 0
LentAt = ℕ × PageValue

-- its source, the offset after the page that is lent, the end of the range, the fault that ended it, and the page
-- that is lent
pub record WindowState (S : Type 0) : Type 0 where
  pub source : S
  pub at : ℕ
  pub to : ℕ
  pub fault : Option WindowFault
  pub lent : Option LentAt

-- the window that has lent nothing of its range
abbrev pub window : {S : Type 0} → S → ℕ → ℕ → WindowState S
window source from to = record { source = source; at = from; to = to; fault = None; lent = None }

-- the bytes of the range that aren't lent yet
abbrev pub left_of : {S : Type 0} → (S → List ℕ) → WindowState S → PagesLeft
left_of bytes w = record { offset = w.at; bytes = take (w.to - w.at) (drop w.at (bytes w.source)) }

-- what ended the window, if this is its answer
abbrev pub fault_left : {T : Type 0} → Result T WindowFault → Option WindowFault
fault_left (Ok value) = None
fault_left (Err fault) = Some fault

-- One step of the walk over the pages of the range, as `Pages` makes it. If the source fails, nothing is known.
abbrev pub NextLent : PagesLeft → Result (Option LentAt) WindowFault → PagesLeft → Type 0
NextLent old (Ok None) new = (old.bytes ≡ []) × (new.bytes ≡ [])
NextLent old (Ok (Some lent)) new = NextPage old (Some (Ok lent)) new
NextLent old (Err Source) new = ⊤
NextLent old (Err (Page offset fault)) new = (offset ≡ old.offset) × (old.bytes ≢ []) × (page_at old.bytes ≡ Err fault)

-- a failure of the source was counted, or the count stands at the top of a `u64`
abbrev pub HasFailed : ℕ → ℕ → Type 0
HasFailed before now = (before < now) ⊎ (now ≡ 2 ^ 64 - 1)

-- a fault of the source has a cause
abbrev pub HasSourceCause : {T : Type 0} → ℕ → ℕ → Result T WindowFault → Type 0
HasSourceCause before now result = (before ≤ now) × (result ≡ Err Source → HasFailed before now)

-- what a call leaves of its source
pub record KeepsSource {S : Type 0} (bytes : S → List ℕ) (honest : S → Type 0) (size : S → ℕ) (only_reads : S → S → Type 0)
    (old new : S) : Type 0 where
  pub bytes_same : honest old → bytes new ≡ bytes old
  pub honest_same : honest old ↔ honest new
  pub size_same : size new ≡ size old
  pub only : only_reads old new

-- what `next` answers if `advance` answers this
abbrev pub answer : Result (Unit {0}) WindowFault → Option LentAt → Result (Option LentAt) WindowFault
answer (Ok done) lent = Ok lent
answer (Err fault) lent = Err fault

-- the page is the one at the window's place; the place is now after it
pub record Passes {S : Type 0} (old : WindowState S) (lent : LentAt) (new : WindowState S) : Type 0 where
  pub is_page : IsPage lent.1
  pub offset : lent.0 ≡ old.at
  pub behind : new.at ≡ old.at + page_size lent.1
  pub inside : new.at ≤ new.to

-- what a call of `next` leaves
pub record HasMoved {S : Type 0} (bytes : S → List ℕ) (honest : S → Type 0) (size failures : S → ℕ) (only_reads : S → S → Type 0)
    (old : WindowState S) (result : Result (Option LentAt) WindowFault) (new : WindowState S) : Type 0 where
  -- it is the next step over the bytes of the range that are left
  pub lent : honest old.source → old.fault ≡ None → NextLent (left_of bytes old) result (left_of bytes new)
  -- what is lent is a page that is passed, honest or not, so that a walk ends
  pub passes : (lent : LentAt) → result ≡ Ok (Some lent) → Passes old lent new
  -- a fault stays until the range is set anew
  pub fault : new.fault ≡ fault_left result
  pub stays : (fault : WindowFault) → old.fault ≡ Some fault → (result ≡ Err fault) × (new ≡ old)
  pub cause : old.fault ≡ None → HasSourceCause (failures old.source) (failures new.source) result
  pub source : KeepsSource bytes honest size only_reads old.source new.source
  pub to : new.to ≡ old.to

-- the window lends these pages, one call after the other, and then ends with this result
abbrev pub IsRun : PagesLeft → List LentAt → Result (Unit {0}) WindowFault → Type 0
IsRun left [] (Ok done) = (new : PagesLeft) × NextLent left (Ok None) new
IsRun left [] (Err fault) = (new : PagesLeft) × NextLent left (Err fault) new
IsRun left (lent ∷ more) end = (new : PagesLeft) × NextLent left (Ok (Some lent)) new × IsRun new more end

-- a page that is lent, as it is found
abbrev pub found : LentAt → FoundPage
found lent = Ok lent

-- These pages and then this end are all that is found. If the source fails, they are what is found first.
abbrev pub AreAll : List FoundPage → List LentAt → Result (Unit {0}) WindowFault → Type 0
AreAll all lent (Ok done) = all ≡ map found lent
AreAll all lent (Err (Page offset fault)) = all ≡ map found lent ++ Err (offset, fault) ∷ []
AreAll all lent (Err Source) = (rest : List FoundPage) × (all ≡ map found lent ++ rest)
