-- From page to page through a window.
use Rattle.std.proofs.Common.{◌≡◌, ℕ, ◌+◌, ◌≤◌, Bool, true, false, not, List, [], ◌∷◌, ◌++◌, length, drop, refl, sym, ◌∙◌, ap, subst, arith, Option, Some, None, Result, Ok, Err}
use Rattle.std.specs.Prelude.{nat_eq, if◌then◌else◌}
use Rattle.std.specs.Option.{is_some}
use Rattle.ogg_page.specs.Page.{Page, bytes_of_pages, page_size}
use Rattle.ogg_page.specs.Pages.{FoundPage, PagesLeft, found_in, located}
use Rattle.ogg_page.specs.PagesLaws.{found-pages}
use Rattle.ogg_page.specs.Visiting.{AreSeen, HasWalked, IsLast}
use Rattle.ogg_page.specs.declared.visiting.Visit.{Visit}
use Rattle.ogg_page.specs.declared.visiting.Visit.TheVariants.{GoesOn, Ends}
use Rattle.ogg_page.specs.Window.{LentAt, WindowState, NextLent, HasMoved, HasSourceCause, KeepsSource, left_of}
use Rattle.ogg_page.specs.declared.fault.WindowFault.{WindowFault}
use Rattle.ogg_page.specs.declared.fault.WindowFault.TheVariants.{Source as ReadFailed, Page as NoPage}
use Rattle.packet_view.specs.Packets.{position_in}
use Rattle.packet_view.specs.StreamParts.{PagePart, page_parts, no_part}
use Rattle.packet_view.specs.Stream.{fault_of_window, HasReadCause}
use Rattle.packet_view.specs.Cut.{CutFits, IsCut, HasReached, IsReady, LeadsOn, at_front, parts_at, parts_then, left_in}
use Rattle.packet_view.specs.Searching.{EndsAt, HavePassed, Passes, parts_ahead, start, with_behind}
use Rattle.packet_view.specs.declared.cut.Cut.{Cut}
use Rattle.packet_view.specs.declared.cut.Progress.{Progress}
use Rattle.packet_view.specs.declared.reaching.Search.{Search}
use Rattle.packet_view.specs.declared.fault.ViewFault.{ViewFault}
use Rattle.packet_view.specs.declared.fault.ViewFault.TheVariants.{Unfinished}
use Rattle.packet_view.specs.declared.fault.StreamFault.{StreamFault}
use Rattle.packet_view.specs.declared.fault.StreamFault.TheVariants.{View}
use Rattle.packet_view.proofs.Reaches.{parts-nothing, parts-fault, lent_first}

-- a page has at most as many parts as lacing values, and one that was begun
few : (b : Bool) (n : ℕ) (xs ys : List PagePart) → length xs ≤ n → length ys ≤ n → length (if b then xs else ys) ≤ n
few true n xs ys hx hy = hx
few false n xs ys hx hy = hy

pub few_parts : (position : Option ℕ) (first : Bool) (size : ℕ) (lacing body : List ℕ) → length (page_parts position first size lacing body) ≤ length lacing + 1
unfolding page_parts
few_parts position first size [] body = few (nat_eq size 0) _ _ _ (omega arith) (omega arith)
few_parts position first size (value ∷ lacing) body =
    few (nat_eq value 255) _ _ _ (omega (arith, few_parts position first (size + 255) lacing body)) (omega (arith, few_parts position true 0 lacing (drop (size + value) body)))

ok_err : (value : Option LentAt) (fault : WindowFault) → (let r : Result (Option LentAt) WindowFault = Ok value in r) ≡ Err fault → ⊥
ok_err value fault e = cc

err_same : (f g : WindowFault) → (let r : Result (Option LentAt) WindowFault = Err f in r) ≡ Err g → f ≡ g
err_same f g e = cc

-- no part is passed
all_passed : (old new : Search) (offset : ℕ) (pages : List Page) → AreSeen Passes old offset pages new → HavePassed old (located offset pages) new
all_passed old new offset [] seen = subst (HavePassed old []) (sym seen) (refl, λ found. refl)
all_passed old new offset (page ∷ pages) (mid, one, seen) =
    let more = all_passed mid new (offset + page_size page) pages seen in
    (more.0 ∙ ap (λ s. with_behind s new.behind) one.0, λ found. one.1 (located (offset + page_size page) pages ++ found) ∙ more.1 found)

-- what the answer is to a walk with this result, if its search has come to this
abbrev pub reached : Result Visit WindowFault → Result (Option Progress) ViewFault → Result (Option Progress) StreamFault
reached (Ok visit) (Ok found) = Ok found
reached (Ok visit) (Err fault) = Err (View fault)
reached (Err fault) found = Err (fault_of_window fault)

cause_of : (walked : Result Visit WindowFault) (found : Result (Option Progress) ViewFault) (before now : ℕ) → HasSourceCause before now walked → HasReadCause before now (reached walked found)
cause_of (Ok visit) (Ok found) before now cause = (cause.0, λ e. cause.1 cc)
cause_of (Ok visit) (Err fault) before now cause = (cause.0, λ e. cause.1 cc)
cause_of (Err ReadFailed) found before now cause = (cause.0, λ e. cause.1 refl)
cause_of (Err (NoPage offset fault)) found before now cause = (cause.0, λ e. cause.1 cc)

pub has_reached : {S : Type 0} (bytes : S → List ℕ) (honest : S → Type 0) (size failures : S → ℕ) (only : S → S → Type 0) (serial : ℕ) (from : Progress) (old : WindowState S)
    (before : Search) (walked : Result Visit WindowFault) (new : WindowState S) (after : Search) (result : Result (Option Progress) StreamFault) → from.cut ≡ None →
    before ≡ start serial from → result ≡ reached walked after.found →
    HasWalked bytes honest size failures only Passes old before walked new after → KeepsSource bytes honest size only old.source new.source →
    (old.fault ≡ None → HasSourceCause (failures old.source) (failures new.source) walked) → HasReached bytes honest size failures only serial from old result new
has_reached {S} bytes honest size failures only serial from old before walked new after result none is answer walk source cause =
    subst (λ r. HasReached bytes honest size failures only serial from old r new) (sym answer)
    (record {
      leads = (comes walked w.last).0;
      ready = (comes walked w.last).1;
      stays = λ fault e.
          let was = w.passed.stays fault e in
          let still = stays walked w.last fault (ap (λ (w : WindowState S). w.fault) was ∙ e) in
          (still.0, still.1 ∙ was);
      cause = λ free. cause_of walked after.found (failures old.source) (failures new.source) (cause free);
      source = source;
      to = to walked w.last ∙ w.passed.to;
    })
  where
    w : HasWalked bytes honest size failures only Passes old (start serial from) walked new after
    w = subst (λ s. HasWalked bytes honest size failures only Passes old s walked new after) is walk

    Last : Result Visit WindowFault → Type 0
    Last r = IsLast bytes honest size failures only Passes w.now w.mid r new after

    to : (r : Result Visit WindowFault) → Last r → new.to ≡ w.now.to
    to (Ok GoesOn) last = last.0.to
    to (Ok Ends) last = last.1.to
    to (Err fault) last = last.0.to

    stays : (r : Result Visit WindowFault) → Last r → (fault : WindowFault) → w.now.fault ≡ Some fault → (reached r after.found ≡ Err (fault_of_window fault)) × (new ≡ w.now)
    stays (Ok GoesOn) last fault e = let still = last.0.stays fault e in absurd (ok_err None fault still.0)
    stays (Ok Ends) last fault e = let still = last.1.stays fault e in absurd (ok_err (Some last.0) fault still.0)
    stays (Err given) last fault e = let still = last.0.stays fault e in (ap (λ f. reached (Err f) after.found) (err_same given fault still.0), still.1)

    left : PagesLeft
    left = left_of bytes w.now

    rest : List FoundPage
    rest = found_in (left_of bytes new).offset (left_of bytes new).bytes

    next : (r : Result (Option LentAt) WindowFault) → HasMoved bytes honest size failures only w.now r new → honest old.source → old.fault ≡ None → NextLent left r (left_of bytes new)
    next r moved sure free = moved.lent (w.passed.source.honest_same.0 sure) (w.passed.fresh free)

    -- the search when the walk has come to its last step
    passed : HavePassed (start serial from) (located old.at w.pages) w.mid
    passed = all_passed (start serial from) w.mid old.at w.pages w.seen

    mid : Search
    mid = with_behind (start serial from) w.mid.behind

    ahead : (at : WindowState S) → parts_at bytes serial at from ≡ parts_ahead (start serial from) (found_in (left_of bytes at).offset (left_of bytes at).bytes)
    ahead at = ap (λ (c : Option Cut). parts_at bytes serial at (record { behind = from.behind; unfinished = from.unfinished; cut = c })) none

    led : honest old.source → old.fault ≡ None → parts_at bytes serial old from ≡ parts_ahead mid (found_in left.offset left.bytes)
    led sure free =
        let place : ℕ = old.at + length (bytes_of_pages w.pages) in
        ahead old
        ∙ ap (λ l. parts_ahead (start serial from) (found_in old.at l)) (w.passed.joined sure free)
        ∙ ap (parts_ahead (start serial from)) (found-pages old.at w.pages left.bytes w.passed.are_pages)
        ∙ passed.1 (found_in place left.bytes)
        ∙ ap (λ s. parts_ahead s (found_in place left.bytes)) passed.0
        ∙ ap (λ n. parts_ahead mid (found_in n left.bytes)) (sym w.passed.place)

    Comes : Result (Option Progress) StreamFault → Type 0
    Comes r = (honest old.source → old.fault ≡ None → LeadsOn (parts_at bytes serial old from) (parts_at bytes serial new) from r) × IsReady from old new r

    shown : (at : LentAt) → HasMoved bytes honest size failures only w.now (Ok (Some at)) new → honest old.source → old.fault ≡ None → parts_at bytes serial old from ≡ parts_ahead mid (Ok at ∷ rest)
    shown at moved sure free = led sure free ∙ ap (parts_ahead mid) (lent_first left (left_of bytes new) at (next (Ok (Some at)) moved sure free))

    at_page : (at : LentAt) → HasMoved bytes honest size failures only w.now (Ok (Some at)) new → new.lent ≡ Some at →
        (found : Result (Option Progress) ViewFault) → EndsAt mid at found → Comes (reached (Ok Ends) found)
    at_page at moved lent (Ok None) ends = absurd ends
    at_page at moved lent (Err fault) ends = (λ sure free. shown at moved sure free ∙ ends rest, none)
    at_page at moved lent (Ok (Some p)) ends =
        let page = moved.passes at refl in
        let front : Progress = at_front p.behind from.unfinished in
        let fits : CutFits at.1 (record { values = 0; bytes = 0 }) = record { is_page = page.is_page; values = ends.0; bytes = omega arith; whole = page.is_page.whole } in
        let count = ap (λ l. length (left_in l from.unfinished front.cut)) lent in
        let few = few_parts (position_in at.1) (not from.unfinished) 0 at.1.lacing at.1.body in (
          λ sure free. shown at moved sure free ∙ ends.2 rest ∙ ap (λ l. parts_then serial l p rest) (sym lent),
          subst (λ q. IsReady from old new (Ok (Some q))) (sym ends.1) (
            subst (λ l. IsCut new.fault l front.cut) (sym lent) (moved.fault, fits),
            refl,
            moved.fault,
            omega (arith, count, few, w.passed.place, page.behind, page.inside, moved.to, w.passed.to),
          ),
        )

    at_end : (unfinished : Bool) → (let now = no_part (if unfinished then Some Unfinished else None) in
        honest old.source → old.fault ≡ None → (parts_at bytes serial old from ≡ now) × (parts_at bytes serial new from ≡ now)) →
        new.fault ≡ None → Comes (reached (Ok GoesOn) (if unfinished then Err Unfinished else Ok None))
    at_end true leads fresh = (λ sure free. (leads sure free).0, none)
    at_end false leads fresh = (leads, (none, fresh))

    comes : (r : Result Visit WindowFault) → Last r → Comes (reached r after.found)
    comes (Ok GoesOn) (moved, same) =
        subst (λ f. Comes (reached (Ok GoesOn) f)) (ap (λ s. s.found) (sym (same ∙ passed.0)))
        (at_end from.unfinished
        (λ sure free. (
          led sure free ∙ parts-nothing serial w.mid.behind from.unfinished left (next (Ok None) moved sure free).0,
          ahead new ∙ parts-nothing serial from.behind from.unfinished (left_of bytes new) (next (Ok None) moved sure free).1,
        ))
        moved.fault)
    comes (Ok Ends) (at, moved, lent, one) = at_page at moved lent after.found (subst (λ s. EndsAt s at after.found) passed.0 one)
    comes (Err ReadFailed) last = (λ sure free. tt, none)
    comes (Err (NoPage offset fault)) (moved, same) = (
      λ sure free.
          let there = next (Err (NoPage offset fault)) moved sure free in
          led sure free ∙ parts-fault serial w.mid.behind from.unfinished left offset fault there.0 there.1 there.2,
      none,
    )

-- lacing values of the page that is lent are left
free_there : (fault : Option WindowFault) (lent : Option LentAt) (cut : Cut) → IsCut fault lent (Some cut) → fault ≡ None
free_there fault None cut fits = absurd fits
free_there fault (Some at) cut fits = fits.0

pub there_already : {S : Type 0} (bytes : S → List ℕ) (honest : S → Type 0) (size failures : S → ℕ) (only : S → S → Type 0) (serial : ℕ) (from : Progress) (old : WindowState S) (cut : Cut) →
    ((source : S) → only source source) → from.cut ≡ Some cut → IsCut old.fault old.lent from.cut → HasReached bytes honest size failures only serial from old (Ok (Some from)) old
there_already bytes honest size failures only serial from old cut reads_nothing e fits =
    let free : old.fault ≡ None = free_there old.fault old.lent cut (subst (λ (c : Option Cut). IsCut old.fault old.lent c) e fits) in
    record {
      leads = λ sure none. refl;
      ready = (fits, ap is_some e, free, omega arith);
      stays = λ given e. absurd cc;
      cause = λ none. (omega arith, λ e. absurd cc);
      source = record { bytes_same = λ sure. refl; honest_same = ((λ h. h), (λ h. h)); size_same = refl; only = reads_nothing old.source };
      to = refl;
    }
