-- What a walk writes whose visitor writes a part of each page. These are laws, to be cited.
use Rattle.std.proofs.Common.{◌≡◌, ◌≤◌, ◌<◌, ℕ, ◌+◌, ◌^◌, Option, Result, Ok, Err, List, [], ◌∷◌, ◌++◌, length, refl, sym, ◌∙◌, ap, subst, arith, append-nil, length-append, length-take, ◌-◌, drop}
use Rattle.std.specs.Borrow.{MutBor}
use Rattle.std.specs.List.{flat_map}
use Rattle.std.specs.Io.KnownBytes.{Appends}
use Rattle.std.proofs.KnownBytes.{Appends-nil, Appends-trans}
use Rattle.std.proofs.lemmas.Grind.{flat_map-append}
use Rattle.ogg_page.specs.Output.{WritesPrefix}
use Rattle.ogg_page.specs.OutputLaws.{prefix_on}
use Rattle.ogg_page.specs.Page.{Page, page_bytes, page_size, bytes_of_pages}
use Rattle.ogg_page.specs.PageLaws.{length-page_bytes}
use Rattle.ogg_page.specs.Visiting.{AreSeen, HasShown}
use Rattle.ogg_page.specs.Window.{LentAt, WindowState, left_of}
use Rattle.ogg_page.specs.declared.fault.WindowFault.{WindowFault}
use Rattle.ogg_page.specs.declared.fault.WindowFault.TheVariants.{Source}
use Rattle.ogg_page.specs.declared.visiting.Visit.{Visit}
use Rattle.ogg_page.specs.declared.visiting.Visit.TheVariants.{GoesOn, Ends}
use Rattle.ogg_split.specs.Copying.{CopiesPart}

-- the parts of these pages were written and counted
pub record AreCopied {V W : Type 0} (contents : W → Option (List ℕ)) (out : V → MutBor W) (count : V → ℕ) (part : V → Page → List ℕ)
    (pages : List Page) (old new : V) : Type 0 where
  pub same : (out new).ghost_name ≡ (out old).ghost_name
  pub parts : part new ≡ part old
  pub appended : Appends (contents (out old).now) (contents (out new).now) (flat_map (part old) pages)
  pub counted : count old + length (flat_map (part old) pages) < 2 ^ 64 → count new ≡ count old + length (flat_map (part old) pages)

are_copied : {V W : Type 0} (contents : W → Option (List ℕ)) (out : V → MutBor W) (count : V → ℕ) (part : V → Page → List ℕ) (old new : V) (offset : ℕ) (pages : List Page)
    → AreSeen (CopiesPart contents out count part) old offset pages new → AreCopied contents out count part pages old new
are_copied {V} contents out count part old new offset [] seen = subst (λ (c : V). AreCopied contents out count part [] old c) (sym seen)
    (record { same = refl; parts = refl; appended = Appends-nil (contents (out old).now); counted = λ small. omega arith })
are_copied contents out count part old new offset (page ∷ pages) (mid, one, seen) =
    let more = are_copied contents out count part mid new (offset + page_size page) pages seen in
    let own : List ℕ = part old page in
    let others : List ℕ = flat_map (part old) pages in
    let behind : flat_map (part mid) pages ≡ others = ap (λ (f : Page → List ℕ). flat_map f pages) one.parts in
    record {
      same = more.same ∙ one.same;
      parts = more.parts ∙ one.parts;
      appended = Appends-trans (contents (out old).now) (contents (out mid).now) (contents (out new).now) own others one.copied.0
          (subst (Appends (contents (out mid).now) (contents (out new).now)) behind more.appended);
      counted = λ small.
          let long = length-append own others in
          let first = one.copied.1 (omega (arith, small, long)) in
          omega (arith, long, first, ap length behind, more.counted (omega (arith, small, long, first, ap length behind)));
    }

-- a count goes as far as the end of a window's range, and so as far as its pages
pub few_left : {S : Type 0} (bytes : S → List ℕ) (window : WindowState S) (pages : List Page) → (left_of bytes window).bytes ≡ bytes_of_pages pages → window.to < 2 ^ 64
    → length (bytes_of_pages pages) < 2 ^ 64
few_left bytes window pages is short = omega (arith, ap length is, length-take (window.to - window.at) (drop window.at (bytes window.source)), short)

parts_fit : (part : Page → List ℕ) → ((page : Page) → length (part page) ≤ page_size page) → (pages : List Page) → length (flat_map part pages) ≤ length (bytes_of_pages pages)
parts_fit part fit [] = omega arith
parts_fit part fit (page ∷ pages) =
    omega (arith, length-append (part page) (flat_map part pages), length-append (page_bytes page) (bytes_of_pages pages), length-page_bytes page, fit page, parts_fit part fit pages)

-- a walk that went on to the end: all was written, through the same reference, if the pages are so few that a count goes so far
pub all_written : {V W : Type 0} (contents : W → Option (List ℕ)) (out : V → MutBor W) (count : V → ℕ) (part : V → Page → List ℕ) (old new : V) (offset : ℕ) (all : List Page) (text : List ℕ)
    (result : Result Visit WindowFault) → HasShown (CopiesPart contents out count part) old offset all result new → result ≡ Ok GoesOn
    → ((page : Page) → length (part old page) ≤ page_size page) → count old ≡ 0 → length (bytes_of_pages all) < 2 ^ 64 → text ≡ flat_map (part old) all
    → ((out new).ghost_name ≡ (out old).ghost_name) × (count new ≡ length text) × Appends (contents (out old).now) (contents (out new).now) text
all_written contents out count part old new offset all text result shown is fit none few whole =
    let h = are_copied contents out count part old new offset all (subst (λ (r : Result Visit WindowFault). HasShown (CopiesPart contents out count part) old offset all r new) is shown) in
    let long = parts_fit (part old) fit all in (
      h.same,
      omega (arith, none, ap length whole, h.counted (omega (arith, none, few, long))),
      subst (Appends (contents (out old).now) (contents (out new).now)) (sym whole) h.appended,
    )

-- however it ended, a prefix of all was written, through the same reference
pub some_written : {V W : Type 0} (contents : W → Option (List ℕ)) (out : V → MutBor W) (count : V → ℕ) (part : V → Page → List ℕ) (old new : V) (offset : ℕ) (all : List Page) (text : List ℕ)
    (result : Result Visit WindowFault) → HasShown (CopiesPart contents out count part) old offset all result new → text ≡ flat_map (part old) all
    → ((out new).ghost_name ≡ (out old).ghost_name) × WritesPrefix (contents (out old).now) (contents (out new).now) text
some_written {V} contents out count part old new offset all text result shown whole = by_result result shown
  where
    text_of : List Page → List ℕ
    text_of pages = flat_map (part old) pages

    split : (front back : List Page) → all ≡ front ++ back → text ≡ text_of front ++ text_of back
    split front back is = whole ∙ ap text_of is ∙ flat_map-append (part old) front back

    up_to : (front back : List Page) (end : V) → all ≡ front ++ back → AreCopied contents out count part front old end → WritesPrefix (contents (out old).now) (contents (out end).now) text
    up_to front back end is h = prefix_on (contents (out old).now) (contents (out end).now) (contents (out end).now) text (text_of front) [] (text_of back) (split front back is) h.appended
        (0, omega arith, Appends-nil (contents (out end).now))

    by_result : (r : Result Visit WindowFault) → HasShown (CopiesPart contents out count part) old offset all r new
        → ((out new).ghost_name ≡ (out old).ghost_name) × WritesPrefix (contents (out old).now) (contents (out new).now) text
    by_result (Ok GoesOn) seen =
        let h = are_copied contents out count part old new offset all seen in (h.same, up_to all [] new (sym (append-nil all)) h)
    by_result (Ok Ends) (front, page, back, mid, is, seen, one) =
        let h = are_copied contents out count part old mid offset front seen in (
          one.same ∙ h.same,
          prefix_on (contents (out old).now) (contents (out mid).now) (contents (out new).now) text (text_of front) (part old page) (text_of back) (split front (page ∷ back) is) h.appended
              (subst (λ (f : Page → List ℕ). WritesPrefix (contents (out mid).now) (contents (out new).now) (f page)) h.parts one.copied),
        )
    by_result (Err fault) (front, back, source, is, seen) =
        let h = are_copied contents out count part old new offset front seen in (h.same, up_to front back new is h)

no_fault : (visit : Visit) (fault : WindowFault) → (let r : Result Visit WindowFault = Ok visit in r) ≡ Err fault → ⊥
no_fault visit fault e = cc

-- over joined pages a window's fault is that of the source, whoever is shown them
pub fault_of_source : {V : Type 0} (sees : V → LentAt → Visit → V → Type 0) (old new : V) (offset : ℕ) (all : List Page) (result : Result Visit WindowFault) (fault : WindowFault)
    → HasShown sees old offset all result new → result ≡ Err fault → result ≡ Err Source
fault_of_source sees old new offset all (Ok visit) fault shown is = absurd (no_fault visit fault is)
fault_of_source sees old new offset all (Err given) fault shown is = ap (λ (f : WindowFault). let r : Result Visit WindowFault = Err f in r) shown.2
