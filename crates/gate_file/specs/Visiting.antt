-- What a pass over all pages of a file passes, and what the visitor has seen.
use Rattle.std.specs.Prelude.{◌≡◌, ◌≢◌, ℕ, ◌+◌, Result, Ok, Err, List, [], ◌++◌, length, ⊤}
use Rattle.std.specs.List.{AllByRecursion}
use Rattle.ogg_page.specs.Page.{Page as PageValue, IsPage, bytes_of_pages}
use Rattle.ogg_page.specs.Reading.{page_at}
use Rattle.ogg_page.specs.Pages.{PagesLeft}
use Rattle.ogg_page.specs.Visiting.{HasShown}
use Rattle.ogg_page.specs.Window.{LentAt}
use Rattle.ogg_page.specs.declared.fault.WindowFault.{WindowFault}
use Rattle.ogg_page.specs.declared.fault.WindowFault.TheVariants.{Source, Page}
use Rattle.ogg_page.specs.declared.visiting.Visit.{Visit}

-- these pages were shown up to the one at which the visitor ended, one after the other, the first of them at this offset
abbrev pub AreShown : {V : Type 0} → (V → LentAt → Visit → V → Type 0) → V → ℕ → List PageValue → V → Type 0
AreShown sees old offset pages new = (visit : Visit) × HasShown sees old offset pages (Ok visit) new

-- why no page follows: no byte is left, or no page begins there, or the source failed and nothing is known
abbrev pub IsEnd : List ℕ → ℕ → Result (Unit {0}) WindowFault → Type 0
IsEnd rest offset (Ok done) = rest ≡ []
IsEnd rest offset (Err Source) = ⊤
IsEnd rest offset (Err (Page place fault)) = (place ≡ offset) × (rest ≢ []) × (page_at rest ≡ Err fault)

-- these pages stand in front, and then the pass ended with this result
pub record EndsAfter (pages : List PageValue) (left : PagesLeft) (result : Result (Unit {0}) WindowFault) : Type 0 where
  pub rest : List ℕ
  pub are_pages : AllByRecursion IsPage pages
  pub joined : left.bytes ≡ bytes_of_pages pages ++ rest
  pub ended : IsEnd rest (left.offset + length (bytes_of_pages pages)) result

-- Pages were passed and shown. If the source is honest, they are those in front.
pub record HasPassed {V : Type 0} (sees : V → LentAt → Visit → V → Type 0) (old new : V) (is_honest : Type 0) (left : PagesLeft) (result : Result (Unit {0}) WindowFault) : Type 0 where
  pub pages : List PageValue
  pub are_pages : AllByRecursion IsPage pages
  pub shown : AreShown sees old left.offset pages new
  pub ends : is_honest → EndsAfter pages left result

-- a pass over all of these bytes
abbrev pub all_of : List ℕ → PagesLeft
all_of bytes = record { offset = 0; bytes = bytes }
