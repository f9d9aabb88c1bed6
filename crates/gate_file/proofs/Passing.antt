-- All pages are passed, by one walk or by two.
use Rattle.std.proofs.Common.{◌≡◌, ℕ, ◌+◌, None, Result, Ok, Err, List, ◌∷◌, ◌++◌, length, refl, sym, ◌∙◌, ap, subst, arith, append_assoc, length-append}
use Rattle.std.specs.List.{AllByRecursion}
use Rattle.ogg_page.specs.Page.{Page as PageValue, IsPage, page_bytes, bytes_of_pages}
use Rattle.ogg_page.specs.PageLaws.{pages_both, bytes_both, length-page_bytes}
use Rattle.ogg_page.specs.Pages.{PagesLeft}
use Rattle.ogg_page.specs.Window.{LentAt, WindowState, NextLent, left_of}
use Rattle.ogg_page.specs.Visiting.{AreSeen, HasWalked, IsLast}
use Rattle.ogg_page.specs.declared.fault.WindowFault.{WindowFault}
use Rattle.ogg_page.specs.declared.fault.WindowFault.TheVariants.{Source, Page}
use Rattle.ogg_page.specs.declared.visiting.Visit.{Visit}
use Rattle.ogg_page.specs.declared.visiting.Visit.TheVariants.{GoesOn, Ends}
use Rattle.gate_file.specs.Visiting.{EndsAfter, HasPassed, IsEnd}

-- how a pass ends if a walk that its visitor didn't end has this result
abbrev pub pass_of : Result Visit WindowFault → Result (Unit {0}) WindowFault
pass_of (Ok visit) = Ok tt
pass_of (Err fault) = Err fault

fault_there : (fault : WindowFault) (left right : PagesLeft) (offset : ℕ) → left.offset ≡ offset → NextLent left (Err fault) right → IsEnd left.bytes offset (Err fault)
fault_there Source left right offset place next = tt
fault_there (Page at fault) left right offset place next = (next.0 ∙ place, next.1, next.2)

pub goes_on : (let r : Result Visit WindowFault = Ok GoesOn in r) ≡ Ok Ends → ⊥
goes_on e = cc

pub no_visit : (fault : WindowFault) → (let r : Result Visit WindowFault = Err fault in r) ≡ Ok Ends → ⊥
no_visit fault e = cc

-- one walk
pub passed_one : {S V : Type 0} (bytes : S → List ℕ) (honest : S → Type 0) (size failures : S → ℕ) (only : S → S → Type 0) (sees : V → LentAt → Visit → V → Type 0)
    (old : WindowState S) (before : V) (result : Result Visit WindowFault) (new : WindowState S) (after : V) → HasWalked bytes honest size failures only sees old before result new after
    → old.fault ≡ None → (result ≡ Ok Ends → ⊥) → HasPassed sees before after (honest old.source) (left_of bytes old) (pass_of result)
passed_one {S} {V} bytes honest size failures only sees old before result new after w fresh never = by_result result never w.last
  where
    passed : (r : Result (Unit {0}) WindowFault) → after ≡ w.mid → (honest old.source → IsEnd (left_of bytes w.now).bytes (old.at + length (bytes_of_pages w.pages)) r)
        → HasPassed sees before after (honest old.source) (left_of bytes old) r
    passed r same end = record {
      pages = w.pages;
      are_pages = w.passed.are_pages;
      shown = (GoesOn, subst (λ (v : V). AreSeen sees before old.at w.pages v) (sym same) w.seen);
      ends = λ sure. record { rest = (left_of bytes w.now).bytes; are_pages = w.passed.are_pages; joined = w.passed.joined sure fresh; ended = end sure };
    }

    by_result : (r : Result Visit WindowFault) → (r ≡ Ok Ends → ⊥) → IsLast bytes honest size failures only sees w.now w.mid r new after
        → HasPassed sees before after (honest old.source) (left_of bytes old) (pass_of r)
    by_result (Ok GoesOn) no_end last = passed (Ok tt) last.1 (λ sure. (last.0.lent (w.passed.source.honest_same.0 sure) (w.passed.fresh fresh)).0)
    by_result (Ok Ends) no_end last = absurd (no_end refl)
    by_result (Err fault) no_end last = passed (Err fault) last.1 (λ sure.
        fault_there fault (left_of bytes w.now) (left_of bytes new) (old.at + length (bytes_of_pages w.pages)) w.passed.place (last.0.lent (w.passed.source.honest_same.0 sure) (w.passed.fresh fresh)))

-- a walk that its visitor ended, and then what is left
pub passed_on : {S V : Type 0} (bytes : S → List ℕ) (honest : S → Type 0) (size failures : S → ℕ) (only : S → S → Type 0) (sees : V → LentAt → Visit → V → Type 0)
    (old : WindowState S) (before : V) (new : WindowState S) (after : V) (more : List PageValue) (result : Result (Unit {0}) WindowFault)
    → HasWalked bytes honest size failures only sees old before (Ok Ends) new after → old.fault ≡ None
    → AllByRecursion IsPage more → (honest new.source → EndsAfter more (left_of bytes new) result) → HasPassed sees before after (honest old.source) (left_of bytes old) result
passed_on bytes honest size failures only sees old before new after more result w fresh are ends_then =
    let (at, moved, lent, ends) = w.last in
    let passes = moved.passes at refl in
    let front : List ℕ = bytes_of_pages w.pages in
    let back : List ℕ = page_bytes at.1 ++ bytes_of_pages more in
    let both : bytes_of_pages (w.pages ++ at.1 ∷ more) ≡ front ++ back = bytes_both w.pages (at.1 ∷ more) in
    let place : new.at + length (bytes_of_pages more) ≡ old.at + length (bytes_of_pages (w.pages ++ at.1 ∷ more)) =
    omega (arith, passes.behind, w.passed.place, ap length both, length-append front back, length-append (page_bytes at.1) (bytes_of_pages more), length-page_bytes at.1) in
    let are_all = pages_both w.pages (at.1 ∷ more) w.passed.are_pages (passes.is_page, are) in
    record {
      pages = w.pages ++ at.1 ∷ more;
      are_pages = are_all;
      shown = (Ends, (w.pages, at.1, more, w.mid, refl, w.seen, subst (λ (k : ℕ). sees w.mid (k, at.1) Ends after) (passes.offset ∙ w.passed.place) ends));
      ends = λ sure.
          let here = w.passed.source.honest_same.0 sure in
          let next = moved.lent here (w.passed.fresh fresh) in
          let rest = ends_then (moved.source.honest_same.0 here) in
          record {
            rest = rest.rest;
            are_pages = are_all;
            joined = w.passed.joined sure fresh ∙ ap (λ (l : List ℕ). front ++ l) (next.2 ∙ ap (λ (l : List ℕ). page_bytes at.1 ++ l) rest.joined
                ∙ sym (append_assoc (page_bytes at.1) (bytes_of_pages more) rest.rest)) ∙ sym (append_assoc front back rest.rest) ∙ ap (λ (l : List ℕ). l ++ rest.rest) (sym both);
            ended = subst (λ (k : ℕ). IsEnd rest.rest k result) place rest.ended;
          };
    }
