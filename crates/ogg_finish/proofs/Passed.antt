-- What the two passes over a window's pages note and write.
use Rattle.std.proofs.Common.{◌≡◌, ◌≤◌, ℕ, ◌+◌, Ok, Option, None, Some, Err, Result, List, ◌⊎◌, inl, inr, ◌<◌, [], ◌∷◌, ◌++◌, length, refl, ◌∙◌, ap, arith, append-nil}
use Rattle.std.specs.Prelude.{if◌then◌else◌, nat_eq, nat_lt}
use Rattle.std.specs.Borrow.{MutBor}
use Rattle.std.specs.List.{flat_map}
use Rattle.std.proofs.lemmas.Bool.{cond_both}
use Rattle.ogg_page.specs.Page.{Page, page_bytes, page_size, bytes_of_pages}
use Rattle.ogg_page.specs.PageLaws.{bytes_both, length-page_bytes}
use Rattle.ogg_page.specs.LogicalStream.{is_first}
use Rattle.ogg_page.specs.declared.fault.WindowFault.{WindowFault}
use Rattle.ogg_page.specs.declared.fault.WindowFault.TheVariants.{Source}
use Rattle.ogg_finish.specs.declared.stream_end.Mark.{Mark}
use Rattle.ogg_finish.specs.declared.stream_end.StreamEnd.{StreamEnd}
use Rattle.ogg_page.specs.Visiting.{AreSeen, HasShown}
use Rattle.ogg_page.specs.declared.visiting.Visit.{Visit}
use Rattle.ogg_page.specs.declared.visiting.Visit.TheVariants.{GoesOn, Ends}
use Rattle.ogg_finish.specs.Ends.{NotesPage, ends_after, finished_by, finished_part, mark_for}
use Rattle.ogg_finish.specs.Finishing.{finished_page, marked_last, up_to}

pub later_cause : (first before now top : ℕ) → first ≤ before → (before < now) ⊎ (now ≡ top) → (first < now) ⊎ (now ≡ top)
later_cause first before now top le (inl rose) = inl (omega arith)
later_cause first before now top le (inr at) = inr at

-- ---- pages that are read
-- a walk over all of these pages noted the ends, through the same reference
all_seen : {V : Type 0} (ends : V → MutBor (List StreamEnd)) (old new : V) (offset : ℕ) (pages : List Page) → AreSeen (NotesPage ends) old offset pages new
    → ((ends new).ghost_name ≡ (ends old).ghost_name) × ((ends new).now ≡ ends_after pages (ends old).now)
all_seen {V} ends old new offset [] seen = (ap (λ (v : V). (ends v).ghost_name) seen, ap (λ (v : V). (ends v).now) seen)
all_seen ends old new offset (page ∷ pages) (mid, one, seen) =
    let more = all_seen ends mid new (offset + page_size page) pages seen in
    (more.0 ∙ one.same, more.1 ∙ ap (λ (l : List StreamEnd). ends_after pages l) one.noted)

never : (let ends : Visit = Ends in ends) ≡ GoesOn → ⊥
never e = cc

ok_err : (visit : Visit) (fault : WindowFault) → (let r : Result Visit WindowFault = Err fault in r) ≡ Ok visit → ⊥
ok_err visit fault e = cc

pub all_noted : {V : Type 0} (ends : V → MutBor (List StreamEnd)) (old new : V) (offset : ℕ) (all : List Page) (result : Result Visit WindowFault) (visit : Visit)
    → HasShown (NotesPage ends) old offset all result new → result ≡ Ok visit
    → ((ends new).ghost_name ≡ (ends old).ghost_name) × ((ends new).now ≡ ends_after all (ends old).now)
all_noted ends old new offset all (Ok GoesOn) visit shown is = all_seen ends old new offset all shown
all_noted ends old new offset all (Ok Ends) visit (front, page, back, mid, split, seen, one) is = absurd (never one.goes_on)
all_noted ends old new offset all (Err fault) visit shown is = absurd (ok_err visit fault is)

-- ---- pages that are written
-- what is written of a page is no longer than the page
one_size : (page : Page) → length (bytes_of_pages (page ∷ [])) ≤ page_size page
one_size page = omega (arith, ap length (append-nil (page_bytes page)), length-page_bytes page)

pub part_fits : (ends : List StreamEnd) (page : Page) → length (finished_part ends page) ≤ page_size page
part_fits ends page =
    cond_both (is_first page) (page ∷ []) (up_to (mark_for ends page.serial) page) (λ l. length (bytes_of_pages l) ≤ page_size page)
    (λ _. one_size page) (λ _. by_mark (mark_for ends page.serial))
  where
    by_mark : (o : Option Mark) → length (bytes_of_pages (up_to o page)) ≤ page_size page
    by_mark None = one_size page
    by_mark (Some m) =
        cond_both (nat_lt page.sequence m.sequence) (page ∷ []) (if nat_eq page.sequence m.sequence then marked_last page ∷ [] else [])
        (λ l. length (bytes_of_pages l) ≤ page_size page) (λ _. one_size page)
        (λ _. cond_both (nat_eq page.sequence m.sequence) (marked_last page ∷ []) [] (λ l. length (bytes_of_pages l) ≤ page_size page)
        (λ _. one_size (marked_last page)) (λ _. omega arith))

pub finished_text : (ends : List StreamEnd) (pages : List Page) → bytes_of_pages (finished_by ends pages) ≡ flat_map (finished_part ends) pages
finished_text ends [] = refl
finished_text ends (page ∷ pages) =
    bytes_both (finished_page (mark_for ends page.serial) page) (finished_by ends pages) ∙ ap (λ (l : List ℕ). finished_part ends page ++ l) (finished_text ends pages)
