use Rattle.std.proofs.Common.{◌≡◌, ◌+◌, ◌-◌, ◌<◌, ◌^◌, ◌++◌, [], ℕ, List, Option, Some, length, refl, sym, subst, append-nil, inl}
use Rattle.std.specs.Prelude.{min, sum}
use Rattle.import_mend.specs.Found.{HoldsNone}
use Rattle.import_record.specs.Pushing.{bytes_in, events_in}
use Rattle.import_record.specs.Whole.{pages_in}
use Rattle.import_record.proofs.Pushed.{Found, Reaches, found, none_passed}
use Rattle.import_record.proofs.Pushes.{IsEnd, IsSomewhere, fed, imports_reached, imports_recorded, somewhere_of_bytes}
use Rattle.import_record.proofs.laws.pages_that_come_are_the_good_pages.Goals as goal

pub returns-clause-so_far : goal.returns-clause-so_far
returns-clause-so_far g c calls old new before after feeds on small =
    let reaches : Reaches IsSomewhere (pages_in (events_in calls)) old.pages (bytes_in calls) =
    subst (λ l. Reaches IsSomewhere l old.pages (bytes_in calls)) (append-nil (pages_in (events_in calls)))
    (subst (λ l. Reaches IsSomewhere (pages_in (events_in calls) ++ []) old.pages l) (append-nil (bytes_in calls))
    (fed g.T.Runner.answers IsSomewhere somewhere_of_bytes calls old new before after feeds on [] [] (λ still. (none_passed new.pages [], tt)))) in
    let pages : Found IsSomewhere (pages_in (events_in calls)) old.pages (bytes_in calls) = found IsSomewhere (pages_in (events_in calls)) old.pages (bytes_in calls) reaches in
    let (rest, left, good, still) = c.pages_found_are_the_good_pages.ensures.pages (pages_in (events_in calls)) old.pages (bytes_in calls) pages.new _ small pages.finds in
    (pages.new.unread ++ rest, good)

some_is : (xs ys : List ℕ) → (let o : Option (List ℕ) = Some xs in o) ≡ Some ys → xs ≡ ys
some_is xs ys e = cc

pub returns-clause-all : goal.returns-clause-all
returns-clause-all g c bytes events old new before after imports on small =
    let pages : Found IsEnd (pages_in events) old.pages bytes =
    found IsEnd (pages_in events) old.pages bytes (imports_reached g.T.Runner.answers bytes events old new before after imports on) in
    let (rest, left, good, still) = c.pages_found_are_the_good_pages.ensures.pages (pages_in events) old.pages bytes pages.new (Some pages.rest) small pages.finds in
    let same : rest ≡ pages.rest = sym (some_is pages.rest rest left) in (
      pages.new.unread ++ rest,
      good,
      subst (λ l. HoldsNone (pages.new.unread ++ l)) (sym same)
          (c.pages_found_are_the_good_pages.ensures.end pages.new pages.rest pages.here.last (Some []) 0 (min (0 + sum pages.passed.counts) (2 ^ 64 - 1))
          (subst (λ l. pages.new.offset + length (pages.new.unread ++ l) < 2 ^ 64 - 1) same still)
          (record { counts = pages.passed.counts; passed = pages.passed.passed; rest = Some pages.passed.rest; passes = pages.passed.passes; junk = λ _. refl; found = inl pages.here.found })
          pages.here.none),
    )

pub returns-clause-records : goal.returns-clause-records
returns-clause-records g c bytes events old new before after imports = imports_recorded g.T.Runner.answers bytes events old new before after imports

pub returns-clause-pieces : goal.returns-clause-pieces
returns-clause-pieces g c bytes events others old new last before after later one two on small =
    let (rest, good, none) = returns-clause-all g c bytes events old new before after one on small in
    let (left, good', none') = returns-clause-all g c bytes others old last before later two on small in
    c.pages_found_are_the_good_pages.ensures.one old.pages.offset (old.pages.unread ++ bytes) (pages_in events) (pages_in others) rest left good none good' none'
