-- What a page reader lends of bytes that can be read once only. Ours.
use Rattle.std.specs.Prelude.{◌≡◌, ◌≢◌, ◌⊎◌, ℕ, ◌+◌, ◌-◌, ◌^◌, ◌<◌, ◌≤◌, min, length, drop, slice_index, Option, Some, None, Result, Ok, Err, List, [], ◌∷◌, ◌++◌, map, ⊤}
use Rattle.std.specs.Io.KnownBytes.{Consumes, IsAtEnd}
use Rattle.ogg_page.specs.Page.{IsPage, page_bytes, page_size}
use Rattle.ogg_page.specs.Reading.{page_at}
use Rattle.ogg_page.specs.Pages.{FoundPage}
use Rattle.ogg_page.specs.Window.{LentAt, found}
use Rattle.ogg_page.specs.declared.fault.PageFault.{PageFault}
use Rattle.ogg_page.specs.declared.fault.PageFault.TheVariants.{Short}
use Rattle.import_pages.specs.Failures.{failures_after, once_more}
use Rattle.import_pages.specs.declared.fault.PageReaderFault.{PageReaderFault}
use Rattle.import_pages.specs.declared.fault.PageReaderFault.TheVariants.{Page, Read}

-- the bytes that were read and are of no page lent so far, the offset of the first of them in the input, the page
-- that is lent, how often a read has failed, and how the input has ended, if it has
pub record ReaderState : Type 0 where
  pub unread : List ℕ
  pub offset : ℕ
  pub lent : Option LentAt
  pub failures : ℕ
  pub outcome : Option (Result (Unit {0}) PageReaderFault)

abbrev pub started : ReaderState
started = record { unread = []; offset = 0; lent = None; failures = 0; outcome = None }

-- These bytes are no page's beginning, and this is the first thing that is wrong with them. The fault is want of
-- further bytes only if none come; any other fault stays, whatever follows.
pub record IsFaultOf (bytes : List ℕ) (left : Option (List ℕ)) (fault : PageFault) : Type 0 where
  pub some : bytes ≢ []
  pub read : page_at bytes ≡ Err fault
  pub short : fault ≡ Short → IsAtEnd left
  pub definite : fault ≢ Short → (more : List ℕ) → page_at (bytes ++ more) ≡ Err fault

-- A read that fails is needed: the bytes are only the beginning of a page.
abbrev pub HasFault : List ℕ → Option (List ℕ) → PageReaderFault → Type 0
HasFault bytes left (Page fault) = IsFaultOf bytes left fault
HasFault bytes left Read = page_at bytes ≡ Err Short

-- the page stands in front of these bytes, and is passed
pub record GivesPage (bytes : List ℕ) (offset : ℕ) (lent : LentAt) (new : ReaderState) : Type 0 where
  pub is_page : IsPage lent.1
  pub joined : bytes ≡ page_bytes lent.1 ++ new.unread
  pub offset_is : lent.0 ≡ offset
  pub behind : new.offset ≡ min (offset + page_size lent.1) (2 ^ 64 - 1)
  pub goes_on : new.outcome ≡ None

-- no byte is left
pub record GivesEnd (bytes : List ℕ) (left : Option (List ℕ)) (offset : ℕ) (new : ReaderState) : Type 0 where
  pub none : bytes ≡ []
  pub at_end : IsAtEnd left
  pub unread_is : new.unread ≡ []
  pub offset_is : new.offset ≡ offset
  pub ended : new.outcome ≡ Some (Ok tt)

-- no page begins here
pub record GivesFault (bytes : List ℕ) (left : Option (List ℕ)) (offset : ℕ) (fault : PageReaderFault) (new : ReaderState) : Type 0 where
  pub fault_is : HasFault bytes left fault
  pub unread_is : new.unread ≡ bytes
  pub offset_is : new.offset ≡ offset
  pub ended : new.outcome ≡ Some (Err fault)
  pub lent_is : new.lent ≡ None

-- what a call finds in these bytes, the first of which is at this offset
abbrev pub Gives : List ℕ → Option (List ℕ) → ℕ → Result (Unit {0}) PageReaderFault → Option LentAt → ReaderState → Type 0
Gives bytes left offset (Ok done) (Some lent) new = GivesPage bytes offset lent new
Gives bytes left offset (Ok done) None new = GivesEnd bytes left offset new
Gives bytes left offset (Err fault) lent new = GivesFault bytes left offset fault new

-- what a call leaves: it finds a page, the end or a fault in the bytes that were unread, and then those that it took
-- of the reader
pub record HasAdvanced (old : ReaderState) (from : Option (List ℕ)) (result : Result (Unit {0}) PageReaderFault) (new : ReaderState)
    (left : Option (List ℕ)) : Type 0 where
  pub taken : List ℕ
  pub consumed : Consumes from left taken
  pub gives : Gives (old.unread ++ taken) left old.offset result new.lent new
  -- `Read` is answered only if a read has failed
  pub cause : new.failures ≡ failures_after result old.failures

-- ---- why the reader has failed
-- A read has failed in this call, or in the one that ended the reader.
abbrev pub HasReadCause : ReaderState → ReaderState → Type 0
HasReadCause old new = (new.failures ≡ once_more old.failures) ⊎ (old.outcome ≡ Some (Err Read))

-- neither has the input ended nor has a read failed
abbrev pub GoesOn : Option (Result (Unit {0}) PageReaderFault) → Type 0
GoesOn None = ⊤
GoesOn (Some (Ok done)) = ⊥
GoesOn (Some (Err (Page fault))) = ⊤
GoesOn (Some (Err Read)) = ⊥

-- ---- one read
-- no page is lent
abbrev pub unlent : ReaderState → ReaderState
unlent state = record state { lent = None }

-- a read has failed
abbrev pub failed : ReaderState → ReaderState
failed state = record (unlent state) { failures = once_more state.failures }

-- One read adds this number of bytes to those that are unread. The number is 0 only at the end of the input.
pub record ReadsOnce (old : ReaderState) (from : Option (List ℕ)) (count : ℕ) (new : ReaderState) (left : Option (List ℕ)) : Type 0 where
  pub taken : List ℕ
  pub consumed : Consumes from left taken
  pub new_is : new ≡ record (unlent old) { unread = old.unread ++ taken }
  pub counted : length taken ≡ count
  pub at_end : count ≡ 0 → IsAtEnd left

-- ---- bytes of no page
-- So many bytes are passed over: at none of their places but the first does a page begin, since each begins with the
-- capture pattern (RFC 3533, section 6).
pub record IsPassed (bytes : List ℕ) (count : ℕ) : Type 0 where
  pub some : 0 < count
  pub inside : count ≤ length bytes
  pub none : (place : ℕ) → 0 < place → place < count → slice_index bytes place ≢ 0x4F

-- the reader goes on after bytes that are passed over
pub record PassesOver (old : ReaderState) (count : ℕ) (new : ReaderState) : Type 0 where
  pub passed : IsPassed old.unread count
  pub unread_is : new.unread ≡ drop count old.unread
  pub offset_is : new.offset ≡ min (old.offset + count) (2 ^ 64 - 1)
  pub lent_is : new.lent ≡ None
  pub failures_same : new.failures ≡ old.failures
  pub goes_on : new.outcome ≡ None

-- The reader, which has these bytes left, lends these pages, one call after the other. Then it ends with this
-- result, and is left in this state.
abbrev pub IsRun : ReaderState → Option (List ℕ) → List LentAt → Result (Unit {0}) PageReaderFault → ReaderState → Type 0
IsRun state from [] end last = (left : Option (List ℕ)) × HasAdvanced state from end last left × (last.lent ≡ None)
IsRun state from (lent ∷ more) end last =
    (new : ReaderState) × (left : Option (List ℕ)) × HasAdvanced state from (Ok tt) new left × (new.lent ≡ Some lent) × IsRun new left more end last

-- These pages and then this end at this offset are all that is found. If the reader fails, they are found first.
abbrev pub AreAll : List FoundPage → List LentAt → Result (Unit {0}) PageReaderFault → ℕ → Type 0
AreAll all lent (Ok done) offset = all ≡ map found lent
AreAll all lent (Err (Page fault)) offset = all ≡ map found lent ++ Err (offset, fault) ∷ []
AreAll all lent (Err Read) offset = (rest : List FoundPage) × (all ≡ map found lent ++ rest)
