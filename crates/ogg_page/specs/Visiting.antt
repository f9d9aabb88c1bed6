-- A walk over the pages of a window, and what its visitor has seen. Ours.
use Rattle.std.specs.Prelude.{◌≡◌, ℕ, ◌+◌, ◌≤◌, Some, None, Result, Ok, Err, List, [], ◌∷◌, ◌++◌, length}
use Rattle.std.specs.List.{AllByRecursion}
use Rattle.ogg_page.specs.Page.{Page as PageValue, IsPage, page_size, bytes_of_pages}
use Rattle.ogg_page.specs.Window.{LentAt, WindowState, HasMoved, KeepsSource, left_of}
use Rattle.ogg_page.specs.declared.fault.WindowFault.{WindowFault}
use Rattle.ogg_page.specs.declared.fault.WindowFault.TheVariants.{Source}
use Rattle.ogg_page.specs.declared.visiting.Visit.{Visit}
use Rattle.ogg_page.specs.declared.visiting.Visit.TheVariants.{GoesOn, Ends}

-- These pages were shown, one after the other, the first of them at this offset. After each the visitor went on.
abbrev pub AreSeen : {V : Type 0} → (V → LentAt → Visit → V → Type 0) → V → ℕ → List PageValue → V → Type 0
AreSeen sees old offset [] new = new ≡ old
AreSeen sees old offset (page ∷ pages) new =
    (mid : _) × sees old (offset, page) GoesOn mid × AreSeen sees mid (offset + page_size page) pages new

-- the window passed these pages; a window that was at fault already passed none
pub record HasPassed {S : Type 0} (bytes : S → List ℕ) (honest : S → Type 0) (size failures : S → ℕ) (only_reads : S → S → Type 0)
    (old : WindowState S) (pages : List PageValue) (now : WindowState S) : Type 0 where
  pub are_pages : AllByRecursion IsPage pages
  pub joined : honest old.source → old.fault ≡ None → (left_of bytes old).bytes ≡ bytes_of_pages pages ++ (left_of bytes now).bytes
  pub place : now.at ≡ old.at + length (bytes_of_pages pages)
  pub to : now.to ≡ old.to
  pub fresh : old.fault ≡ None → now.fault ≡ None
  pub stays : (fault : WindowFault) → old.fault ≡ Some fault → now ≡ old
  pub later : old.fault ≡ None → failures old.source ≤ failures now.source
  pub source : KeepsSource bytes honest size only_reads old.source now.source

-- The walk's last step: no page was left, or the visitor ended at the page that is lent, or the window was at fault.
abbrev pub IsLast : {S V : Type 0} → (S → List ℕ) → (S → Type 0) → (S → ℕ) → (S → ℕ) → (S → S → Type 0) → (V → LentAt → Visit → V → Type 0)
    → WindowState S → V → Result Visit WindowFault → WindowState S → V → Type 0
IsLast bytes honest size failures only_reads sees now mid (Ok GoesOn) new after =
    HasMoved bytes honest size failures only_reads now (Ok None) new × (after ≡ mid)
IsLast bytes honest size failures only_reads sees now mid (Ok Ends) new after =
    (at : LentAt) × HasMoved bytes honest size failures only_reads now (Ok (Some at)) new × (new.lent ≡ Some at) × sees mid at Ends after
IsLast bytes honest size failures only_reads sees now mid (Err fault) new after =
    HasMoved bytes honest size failures only_reads now (Err fault) new × (after ≡ mid)

-- the pages in front were passed and shown, and then the walk ended with this result
pub record HasWalked {S V : Type 0} (bytes : S → List ℕ) (honest : S → Type 0) (size failures : S → ℕ) (only_reads : S → S → Type 0)
    (sees : V → LentAt → Visit → V → Type 0) (old : WindowState S) (before : V) (result : Result Visit WindowFault) (new : WindowState S) (after : V) : Type 0 where
  pub pages : List PageValue
  pub now : WindowState S
  pub mid : V
  pub passed : HasPassed bytes honest size failures only_reads old pages now
  pub seen : AreSeen sees before old.at pages mid
  pub last : IsLast bytes honest size failures only_reads sees now mid result new after

-- What a walk over these joined pages has shown: all of them, or those up to the one at which the visitor ended; or,
-- if the source failed, some in front.
abbrev pub HasShown : {V : Type 0} → (V → LentAt → Visit → V → Type 0) → V → ℕ → List PageValue → Result Visit WindowFault → V → Type 0
HasShown sees before offset all (Ok GoesOn) after = AreSeen sees before offset all after
HasShown sees before offset all (Ok Ends) after = (front : List PageValue) × (page : PageValue) × (back : List PageValue) × (mid : _) ×
    (all ≡ front ++ page ∷ back) × AreSeen sees before offset front mid × sees mid (offset + length (bytes_of_pages front), page) Ends after
HasShown sees before offset all (Err fault) after = (front : List PageValue) × (back : List PageValue) ×
    (fault ≡ Source) × (all ≡ front ++ back) × AreSeen sees before offset front after
