-- The pages of a link have no fault but that the last packet may be unfinished.
use Rattle.std.proofs.Common.{◌≡◌, ◌≢◌, ℕ, zero, suc, ◌+◌, Bool, true, false, Some, None, Ok, Err, List, [], ◌∷◌, ◌++◌, length, replicate, refl, sym, ◌∙◌, ap, subst, arith, append_assoc, append-nil}
use Rattle.std.specs.Prelude.{nat_eq, not, if◌then◌else◌, map}
use Rattle.std.specs.List.{AllByRecursion, flat_map}
use Rattle.std.proofs.lemmas.Bool.{eq-eqb, ne_eqb}
use Rattle.std.proofs.lemmas.List.Elements.{filter-append}
use Rattle.ogg_page.specs.Page.{Page, IsPage, bytes_of_pages, page_size}
use Rattle.ogg_page.specs.Pages.{FoundPage, found_in, located}
use Rattle.ogg_page.specs.PagesLaws.{found-nothing, found-pages}
use Rattle.ogg_page.specs.Lacing.{lace, ends_open}
use Rattle.ogg_page.specs.LogicalStream.{EachBehind, FitsBehind, FlagsFit, joined_lacing, number_behind}
use Rattle.ogg_page.specs.StreamLaws.{ends_open-at, ends_open-laces}
use Rattle.link_chain.specs.Links.{pages_with}
use Rattle.packet_view.specs.Packets.{PacketsLeft, differ, is_other_number, misplaced}
use Rattle.packet_view.specs.Held.{AreHeld, IsFaultBehind, behind_pages, found_page, number_after, pages_of_stream}
use Rattle.packet_view.specs.declared.fault.ViewFault.{ViewFault}
use Rattle.packet_view.specs.declared.fault.ViewFault.TheVariants.{Unfinished}
use Rattle.ogg_page.specs.declared.fault.PageFault.{PageFault}
use Rattle.ogg_split.specs.Unfinished.{IsUnfinishedAtMost}

-- ---- what is found in pages
abbrev page_at_place : ℕ × Page → Page
page_at_place at = at.1

pub all_found : (offset : ℕ) (pages : List Page) → AllByRecursion IsPage pages → found_in offset (bytes_of_pages pages) ≡ located offset pages
all_found offset pages are =
    ap (found_in offset) (sym (append-nil (bytes_of_pages pages))) ∙ found-pages offset pages [] are
    ∙ ap (λ (l : List FoundPage). located offset pages ++ l) (found-nothing (offset + length (bytes_of_pages pages))) ∙ append-nil (located offset pages)

record Splits (pages : List Page) (good : List (ℕ × Page)) (page : Page) : Type 0 where
  pub more : List Page
  pub is : pages ≡ map page_at_place good ++ page ∷ more

splits : (offset : ℕ) (pages : List Page) (good : List (ℕ × Page)) (at : ℕ × Page) (rest : List FoundPage) → located offset pages ≡ map found_page good ++ Ok at ∷ rest
    → Splits pages good at.1
splits offset [] [] at rest e = cc
splits offset [] (g ∷ good) at rest e = cc
splits offset (p ∷ ps) [] at rest e =
    let first : (offset, p) ≡ at = cc in
    record { more = ps; is = ap (λ (a : ℕ × Page). a.1 ∷ ps) first }
splits offset (p ∷ ps) (g ∷ good) at rest e =
    let first : (offset, p) ≡ g = cc in
    let behind : located (offset + page_size p) ps ≡ map found_page good ++ Ok at ∷ rest = cc in
    let s : Splits ps good at.1 = splits (offset + page_size p) ps good at rest behind in
    record { more = s.more; is = ap (λ (a : ℕ × Page). a.1 ∷ ps) first ∙ ap (λ (l : List Page). g.1 ∷ l) s.is }

no_fault_found : (offset : ℕ) (pages : List Page) (good : List (ℕ × Page)) (at : ℕ × PageFault) (rest : List FoundPage) → located offset pages ≡ map found_page good ++ Err at ∷ rest → ⊥
no_fault_found offset [] [] at rest e = cc
no_fault_found offset [] (g ∷ good) at rest e = cc
no_fault_found offset (p ∷ ps) [] at rest e = cc
no_fault_found offset (p ∷ ps) (g ∷ good) at rest e = no_fault_found (offset + page_size p) ps good at rest (let behind : located (offset + page_size p) ps ≡ map found_page good ++ Err at ∷ rest = cc in behind)

-- ---- the stream's pages among them
one_more : (b : Bool) (page : Page) (xs ys : List Page) → xs ≡ ys → (if b then page ∷ xs else xs) ≡ (if b then page ∷ ys else ys)
one_more true page xs ys e = ap (λ (l : List Page). page ∷ l) e
one_more false page xs ys e = e

of_stream : (serial : ℕ) (good : List (ℕ × Page)) → pages_of_stream serial good ≡ pages_with serial (map page_at_place good)
of_stream serial [] = refl
of_stream serial (at ∷ good) = one_more (nat_eq at.1.serial serial) at.1 (pages_of_stream serial good) (pages_with serial (map page_at_place good)) (of_stream serial good)

with_it : (b : Bool) (page : Page) (xs : List Page) → b ≡ true → (if b then page ∷ xs else xs) ≡ page ∷ xs
with_it true page xs e = refl
with_it false page xs e = cc

own_pages : (serial : ℕ) (pages : List Page) (good : List (ℕ × Page)) (page : Page) → nat_eq page.serial serial ≡ true → (s : Splits pages good page)
    → pages_with serial pages ≡ pages_of_stream serial good ++ page ∷ pages_with serial s.more
own_pages serial pages good page own s =
    ap (pages_with serial) s.is ∙ filter-append (λ (p : Page). nat_eq p.serial serial) (map page_at_place good) (page ∷ s.more)
    ∙ ap (λ (l : List Page). pages_with serial (map page_at_place good) ++ l) (with_it (nat_eq page.serial serial) page (pages_with serial s.more) own)
    ∙ ap (λ (l : List Page). l ++ page ∷ pages_with serial s.more) (sym (of_stream serial good))

fits_there : (before xs : List Page) (page : Page) (ys : List Page) → EachBehind FitsBehind before (xs ++ page ∷ ys) → FitsBehind (before ++ xs) page
fits_there before [] page ys fit = subst (λ (l : List Page). FitsBehind l page) (sym (append-nil before)) fit.0
fits_there before (x ∷ xs) page ys fit =
    subst (λ (l : List Page). FitsBehind l page) (append_assoc before (x ∷ []) xs) (fits_there (before ++ x ∷ []) xs page ys fit.1)

-- ---- a page that fits isn't misplaced
open_segments : (n : ℕ) → ends_open (replicate (suc n) 255) ≡ true
open_segments zero = refl
open_segments (suc n) = ends_open-at (255 ∷ []) 255 (replicate n 255) ∙ open_segments n

goes_on : (values : List ℕ) (packets : List (List ℕ)) (segments : ℕ) → values ≡ flat_map lace packets ++ replicate segments 255 → ends_open values ≡ not (nat_eq segments 0)
goes_on values packets zero e = ap ends_open (e ∙ append-nil (flat_map lace packets)) ∙ ends_open-laces packets
goes_on values packets (suc n) e = ap ends_open e ∙ ends_open-at (flat_map lace packets) 255 (replicate n 255) ∙ open_segments n
    ∙ sym (ap not (ne_eqb (suc n) 0 (λ same. omega (arith, same))))

same_flags : (a b : Bool) → a ≡ b → differ a b ≡ false
same_flags true true e = refl
same_flags true false e = cc
same_flags false true e = cc
same_flags false false e = refl

same_number : (before : List Page) (page : Page) → (before ≢ [] → page.sequence ≡ number_behind before) → is_other_number (number_after before) page.sequence ≡ false
same_number [] page is = refl
same_number (p ∷ ps) page is =
    let some : p ∷ ps ≢ [] = (λ e. cc) in
    ap not (eq-eqb page.sequence (number_behind (p ∷ ps)) (is some))

placed_well : (ended other differs : Bool) (a b c : ViewFault) → ended ≡ false → other ≡ false → differs ≡ false →
    (if ended then Some a else (if other then Some b else (if differs then Some c else None))) ≡ None
placed_well false false false a b c e f g = refl
placed_well true other differs a b c e f g = cc
placed_well false true differs a b c e f g = cc
placed_well false false true a b c e f g = cc

-- ---- altogether
at_the_end : (b : Bool) → IsUnfinishedAtMost (if b then None else Some Unfinished)
at_the_end true = tt
at_the_end false = tt

pub unfinished_at_most : (serial : ℕ) (pages : List Page) (left : PacketsLeft) → AllByRecursion IsPage pages → FlagsFit (pages_with serial pages)
    → AreHeld serial (found_in 0 (bytes_of_pages pages)) left → IsUnfinishedAtMost left.fault
unfinished_at_most serial pages left are fit held = by_rest held.rest (sym (all_found 0 pages are) ∙ held.split) held.fault
  where
    by_rest : (rest : List FoundPage) → located 0 pages ≡ map found_page held.good ++ rest
        → IsFaultBehind serial (pages_of_stream serial held.good) held.segments rest left.fault → IsUnfinishedAtMost left.fault
    by_rest [] e f = subst IsUnfinishedAtMost (sym f) (at_the_end (nat_eq held.segments 0))
    by_rest (Err at ∷ rest) e f = absurd (no_fault_found 0 pages held.good at rest e)
    by_rest (Ok at ∷ rest) e f =
        let before : List Page = pages_of_stream serial held.good in
        let s : Splits pages held.good at.1 = splits 0 pages held.good at rest e in
        let fits : FitsBehind before at.1 =
        fits_there [] before at.1 (pages_with serial s.more) (subst (EachBehind FitsBehind []) (own_pages serial pages held.good at.1 f.0 s) fit) in
        let none : misplaced (behind_pages before) (not (nat_eq held.segments 0)) at.0 at.1 ≡ None =
        placed_well _ _ _ _ _ _ fits.last (same_number before at.1 fits.sequence)
        (same_flags _ _ (fits.continued ∙ goes_on (joined_lacing before) _ held.segments held.holds.lacing)) in
        subst IsUnfinishedAtMost (sym (f.1 ∙ none)) tt
