-- What holds of a walk over joined pages. These are laws, to be cited.
use Rattle.std.proofs.Common.{◌≡◌, ◌≢◌, ℕ, ◌+◌, None, Result, Ok, Err, List, [], ◌∷◌, ◌++◌, length, refl, sym, ◌∙◌, ap, subst, append_assoc, append-nil}
use Rattle.std.specs.List.{AllByRecursion}
use Rattle.ogg_page.specs.Page.{Page as PageValue, IsPage, page_bytes, bytes_of_pages}
use Rattle.ogg_page.specs.PagesLaws.{Follows, follows, no_pages}
use Rattle.ogg_page.specs.ReadingLaws.{fault_is_no_page}
use Rattle.ogg_page.specs.Pages.{PagesLeft}
use Rattle.ogg_page.specs.Reading.{page_at}
use Rattle.ogg_page.specs.Window.{LentAt, WindowState, NextLent, left_of}
use Rattle.ogg_page.specs.Visiting.{AreSeen, HasWalked, HasShown, IsLast}
use Rattle.ogg_page.specs.declared.fault.PageFault.{PageFault}
use Rattle.ogg_page.specs.declared.fault.WindowFault.{WindowFault}
use Rattle.ogg_page.specs.declared.fault.WindowFault.TheVariants.{Source, Page}
use Rattle.ogg_page.specs.declared.visiting.Visit.{Visit}
use Rattle.ogg_page.specs.declared.visiting.Visit.TheVariants.{GoesOn, Ends}

-- pages in front of joined pages: the others follow
pub record FollowAll (front : List PageValue) (rest : List ℕ) (all : List PageValue) : Type 0 where
  pub back : List PageValue
  pub is : all ≡ front ++ back
  pub rest_is : rest ≡ bytes_of_pages back
  pub are : AllByRecursion IsPage back

pub follow_all : (front all : List PageValue) (rest : List ℕ) → AllByRecursion IsPage all → AllByRecursion IsPage front
    → bytes_of_pages all ≡ bytes_of_pages front ++ rest → FollowAll front rest all
follow_all [] all rest are is e = record { back = all; is = refl; rest_is = sym e; are = are }
follow_all (page ∷ front) all rest are is e =
    let one : Follows page (bytes_of_pages front ++ rest) all =
    follows all page (bytes_of_pages front ++ rest) are is.0 (e ∙ append_assoc (page_bytes page) (bytes_of_pages front) rest) in
    let more : FollowAll front rest one.more = follow_all front one.more rest one.are is.1 (sym one.rest_is) in
    record { back = more.back; is = one.is ∙ ap (λ (l : List PageValue). page ∷ l) more.is; rest_is = more.rest_is; are = more.are }

-- of joined pages some page stands in front
no_fault : (back : List PageValue) (rest : List ℕ) (fault : PageFault) → AllByRecursion IsPage back → rest ≡ bytes_of_pages back → rest ≢ []
    → page_at rest ≡ Err fault → ⊥
no_fault [] rest fault are is some read = some is
no_fault (p ∷ ps) rest fault are is some read = fault_is_no_page rest fault read p (bytes_of_pages ps) are.0 is

-- so a window's fault over joined pages is the source's
only_source : (fault : WindowFault) (back : List PageValue) (left right : PagesLeft) → AllByRecursion IsPage back → left.bytes ≡ bytes_of_pages back
    → NextLent left (Err fault) right → fault ≡ Source
only_source Source back left right are is next = refl
only_source (Page offset fault) back left right are is next = absurd (no_fault back left.bytes fault are is next.1 next.2)

pub has_shown : {S V : Type 0} (bytes : S → List ℕ) (honest : S → Type 0) (size failures : S → ℕ) (only_reads : S → S → Type 0) (sees : V → LentAt → Visit → V → Type 0)
    (old : WindowState S) (before : V) (result : Result Visit WindowFault) (new : WindowState S) (after : V) (all : List PageValue)
    → HasWalked bytes honest size failures only_reads sees old before result new after → old.fault ≡ None → honest old.source → AllByRecursion IsPage all
    → (left_of bytes old).bytes ≡ bytes_of_pages all → HasShown sees before old.at all result after
has_shown {S} {V} bytes honest size failures only_reads sees old before result new after all w fresh sure are is = by_result result w.last
  where
    f : FollowAll w.pages (left_of bytes w.now).bytes all
    f = follow_all w.pages all (left_of bytes w.now).bytes are w.passed.are_pages (sym is ∙ w.passed.joined sure fresh)

    by_result : (r : Result Visit WindowFault) → IsLast bytes honest size failures only_reads sees w.now w.mid r new after → HasShown sees before old.at all r after
    by_result (Ok GoesOn) last =
        let none : f.back ≡ [] = no_pages f.back (sym f.rest_is ∙ (last.0.lent (w.passed.source.honest_same.0 sure) (w.passed.fresh fresh)).0) in
        subst (λ (l : List PageValue). AreSeen sees before old.at l after) (sym (f.is ∙ ap (λ (l : List PageValue). w.pages ++ l) none ∙ append-nil w.pages))
        (subst (λ (v : V). AreSeen sees before old.at w.pages v) (sym last.1) w.seen)
    by_result (Ok Ends) (at, moved, lent, ends) =
        let next = moved.lent (w.passed.source.honest_same.0 sure) (w.passed.fresh fresh) in
        let one : Follows at.1 (left_of bytes new).bytes f.back = follows f.back at.1 (left_of bytes new).bytes f.are next.1 (sym f.rest_is ∙ next.2) in
        let place : at.0 ≡ old.at + length (bytes_of_pages w.pages) = next.0 ∙ w.passed.place in
        (w.pages, at.1, one.more, w.mid, f.is ∙ ap (λ (l : List PageValue). w.pages ++ l) one.is, w.seen, subst (λ (k : ℕ). sees w.mid (k, at.1) Ends after) place ends)
    by_result (Err fault) last = (
      w.pages,
      f.back,
      only_source fault f.back (left_of bytes w.now) (left_of bytes new) f.are f.rest_is (last.0.lent (w.passed.source.honest_same.0 sure) (w.passed.fresh fresh)),
      f.is,
      subst (λ (v : V). AreSeen sees before old.at w.pages v) (sym last.1) w.seen,
    )
