use Rattle.std.proofs.Common.{◌≡◌, ℕ, ◌+◌, List, [], ◌∷◌, refl, sym, ◌∙◌, ap, Some, Result, Ok, Err}
use Rattle.ogg_page.specs.Page.{Page as PageValue, page_size}
use Rattle.ogg_page.specs.Pages.{PagesLeft, FoundPage, found_in}
use Rattle.ogg_page.specs.PagesLaws.{found-nothing, found-fault, found-page}
use Rattle.ogg_page.specs.declared.fault.PageFault.{PageFault}
use Rattle.ogg_page.specs.declared.fault.WindowFault.{WindowFault}
use Rattle.ogg_page.specs.declared.fault.WindowFault.TheVariants.{Source, Page}
use Rattle.ogg_page.specs.Window.{LentAt, NextLent, IsRun, AreAll, found}
use Rattle.ogg_page.proofs.laws.lent_pages_are_those_found.Goals as goal

abbrev page_found : ℕ → PageValue → FoundPage
page_found offset page = Ok (offset, page)

abbrev fault_found : ℕ → PageFault → FoundPage
fault_found offset fault = Err (offset, fault)

-- a page that is lent is the first that is found
one : (old new : PagesLeft) (lent : LentAt) → NextLent old (Ok (Some lent)) new →
    found_in old.offset old.bytes ≡ found lent ∷ found_in new.offset new.bytes
one old new lent is =
    ap (found_in old.offset) is.2
    ∙ found-page old.offset lent.1 new.bytes is.1
    ∙ ap (λ n. page_found n lent.1 ∷ found_in (old.offset + page_size lent.1) new.bytes) (sym is.0)
    ∙ ap (λ n. page_found lent.0 lent.1 ∷ found_in n new.bytes) (sym is.3)

-- and the others are those that are found after it
more : (all rest : List FoundPage) (lent : LentAt) (others : List LentAt) (end : Result (Unit {0}) WindowFault) →
    all ≡ found lent ∷ rest → AreAll rest others end → AreAll all (lent ∷ others) end
more all rest lent others (Ok done) first are = first ∙ ap (λ l. found lent ∷ l) are
more all rest lent others (Err Source) first are = (are.0, first ∙ ap (λ l. found lent ∷ l) are.1)
more all rest lent others (Err (Page offset fault)) first are = first ∙ ap (λ l. found lent ∷ l) are

all_lent : (left : PagesLeft) (lent : List LentAt) (end : Result (Unit {0}) WindowFault) → IsRun left lent end → AreAll (found_in left.offset left.bytes) lent end
all_lent left [] (Ok done) (new, step) = ap (found_in left.offset) step.0 ∙ found-nothing left.offset
all_lent left [] (Err Source) run = (found_in left.offset left.bytes, refl)
all_lent left [] (Err (Page offset fault)) (new, step) =
    found-fault left.offset left.bytes fault step.1 step.2 ∙ ap (λ n. fault_found n fault ∷ []) (sym step.0)
all_lent left (lent ∷ others) end (new, step, run) =
    more (found_in left.offset left.bytes) (found_in new.offset new.bytes) lent others end (one left new lent step) (all_lent new others end run)

pub returns : goal.returns
returns c = all_lent
