-- Pages are copied one after the other.
use Rattle.std.proofs.Common.{◌≡◌, ◌≢◌, ◌≤◌, ℕ, ◌+◌, Bool, true, false, nat_eq, Option, Err, List, [], ◌∷◌, ◌++◌, length, refl, sym, ◌∙◌, ap, subst, arith, append_assoc, append-nil, length-append}
use Rattle.std.specs.Prelude.{if◌then◌else◌}
use Rattle.std.specs.List.{AllByRecursion, flat_map}
use Rattle.std.specs.Io.KnownBytes.{Appends}
use Rattle.std.proofs.KnownBytes.{Appends-nil, Appends-trans}
use Rattle.ogg_page.specs.Output.{WritesPrefix}
use Rattle.ogg_page.specs.OutputLaws.{prefix_on}
use Rattle.ogg_page.specs.Page.{Page, IsPage, page_bytes, page_size, bytes_of_pages}
use Rattle.ogg_page.specs.PageLaws.{length-page_bytes}
use Rattle.ogg_page.specs.PagesLaws.{Follows, follows, no_pages}
use Rattle.ogg_page.specs.Reading.{page_at}
use Rattle.ogg_page.specs.ReadingLaws.{fault_is_no_page}
use Rattle.ogg_page.specs.declared.fault.PageFault.{PageFault}
use Rattle.link_chain.specs.Links.{pages_with}
use Rattle.ogg_split.specs.Copying.{stream_bytes}

-- Of the pages so far, those that are asked for were written; the other pages are left.
pub record InWork (serial : ℕ) (pages : List Page) (left : List ℕ) (old now : Option (List ℕ)) (count : ℕ) : Type 0 where
  pub written : List ℕ
  pub more : List Page
  pub are_pages : AllByRecursion IsPage more
  pub left_is : left ≡ bytes_of_pages more
  pub whole : bytes_of_pages (pages_with serial pages) ≡ written ++ bytes_of_pages (pages_with serial more)
  pub appended : Appends old now written
  pub counted : count ≡ length written

pub begun : (serial : ℕ) (pages : List Page) (left : List ℕ) (old : Option (List ℕ)) → AllByRecursion IsPage pages → left ≡ bytes_of_pages pages
    → InWork serial pages left old old 0
begun serial pages left old are is =
    record { written = []; more = pages; are_pages = are; left_is = is; whole = refl; appended = Appends-nil old; counted = refl }

first_of : (b : Bool) (page : Page) (rest : List Page) →
    bytes_of_pages (if b then page ∷ rest else rest) ≡ (if b then page_bytes page else []) ++ bytes_of_pages rest
first_of true page rest = refl
first_of false page rest = refl

stream_first : (serial : ℕ) (page : Page) (pages : List Page) →
    bytes_of_pages (pages_with serial (page ∷ pages)) ≡ stream_bytes serial page ++ bytes_of_pages (pages_with serial pages)
stream_first serial page pages = first_of (nat_eq page.serial serial) page (pages_with serial pages)

-- ---- steps
-- the page in front was passed, and was written if it is asked for
pub passed : (serial : ℕ) (pages : List Page) (left rest : List ℕ) (old mid now : Option (List ℕ)) (count size : ℕ) (page : Page)
    → InWork serial pages left old mid count → IsPage page → left ≡ page_bytes page ++ rest → Appends mid now (stream_bytes serial page) → size ≡ length (stream_bytes serial page)
    → InWork serial pages rest old now (count + size)
passed serial pages left rest old mid now count size page w is split wrote sized =
    let f : Follows page rest w.more = follows w.more page rest w.are_pages is (sym w.left_is ∙ split) in
    let own : List ℕ = stream_bytes serial page in
    let behind : List ℕ = bytes_of_pages (pages_with serial f.more) in
    record {
      written = w.written ++ own;
      more = f.more;
      are_pages = f.are;
      left_is = f.rest_is;
      whole = w.whole ∙ ap (λ (l : List Page). w.written ++ bytes_of_pages (pages_with serial l)) f.is ∙ ap (λ (l : List ℕ). w.written ++ l) (stream_first serial page f.more)
          ∙ sym (append_assoc w.written own behind);
      appended = Appends-trans old mid now w.written own w.appended wrote;
      counted = omega (arith, w.counted, sized, length-append w.written own);
    }

-- the page in front wasn't written as a whole
pub cut_within : (serial : ℕ) (pages : List Page) (left rest : List ℕ) (old mid now : Option (List ℕ)) (count : ℕ) (page : Page)
    → InWork serial pages left old mid count → IsPage page → left ≡ page_bytes page ++ rest → WritesPrefix mid now (stream_bytes serial page)
    → WritesPrefix old now (bytes_of_pages (pages_with serial pages))
cut_within serial pages left rest old mid now count page w is split wrote =
    let f : Follows page rest w.more = follows w.more page rest w.are_pages is (sym w.left_is ∙ split) in
    prefix_on old mid now (bytes_of_pages (pages_with serial pages)) w.written (stream_bytes serial page) (bytes_of_pages (pages_with serial f.more))
    (w.whole ∙ ap (λ (l : List Page). w.written ++ bytes_of_pages (pages_with serial l)) f.is ∙ ap (λ (l : List ℕ). w.written ++ l) (stream_first serial page f.more))
    w.appended wrote

-- no page is left
pub finished : (serial : ℕ) (pages : List Page) (left : List ℕ) (old now : Option (List ℕ)) (count : ℕ) → InWork serial pages left old now count → left ≡ []
    → (count ≡ length (bytes_of_pages (pages_with serial pages))) × Appends old now (bytes_of_pages (pages_with serial pages))
finished serial pages left old now count w none =
    let all : bytes_of_pages (pages_with serial pages) ≡ w.written =
    w.whole ∙ ap (λ (l : List Page). w.written ++ bytes_of_pages (pages_with serial l)) (no_pages w.more (sym w.left_is ∙ none)) ∙ append-nil w.written in
    (w.counted ∙ ap length (sym all), subst (Appends old now) (sym all) w.appended)

-- of joined pages some page stands in front
pub no_fault : (serial : ℕ) (pages : List Page) (left : List ℕ) (old now : Option (List ℕ)) (count : ℕ) (fault : PageFault) → InWork serial pages left old now count
    → left ≢ [] → page_at left ≡ Err fault → ⊥
no_fault serial pages left old now count fault w some read = stuck w.more w.are_pages w.left_is
  where
    stuck : (more : List Page) → AllByRecursion IsPage more → left ≡ bytes_of_pages more → ⊥
    stuck [] are is = some is
    stuck (p ∷ ps) are is = fault_is_no_page left fault read p (bytes_of_pages ps) are.0 is

-- ---- the text of a stream
pub stream_text : (serial : ℕ) (pages : List Page) → bytes_of_pages (pages_with serial pages) ≡ flat_map (stream_bytes serial) pages
stream_text serial [] = refl
stream_text serial (page ∷ pages) = stream_first serial page pages ∙ ap (λ (l : List ℕ). stream_bytes serial page ++ l) (stream_text serial pages)

part_fits : (b : Bool) (page : List ℕ) → length (if b then page else []) ≤ length page
part_fits true page = omega arith
part_fits false page = omega arith

pub stream_fits : (serial : ℕ) (page : Page) → length (stream_bytes serial page) ≤ page_size page
stream_fits serial page = omega (arith, part_fits (nat_eq page.serial serial) (page_bytes page), length-page_bytes page)
