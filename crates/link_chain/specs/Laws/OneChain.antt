-- The same bytes are one chain of links, and hold one recording.
use Rattle.std.proofs.Common.{◌≡◌, ℕ, List, [], ◌∷◌, refl, sym, ◌∙◌, ap, subst, Bool}
use Rattle.std.specs.List.{AllByRecursion, AllZip}
use Rattle.ogg_page.specs.Page.{Page, IsByte}
use Rattle.ogg_page.specs.PageLaws.{all_bytes_of_pages}
use Rattle.ogg_page.specs.StreamLaws.{held_once}
use Rattle.link_chain.specs.Links.{AreLinks, flattened, serials_of}
use Rattle.link_chain.specs.Recording.{Stream, Recording, HoldsStream, HoldsLink, HoldsLinks, Holds}
use Rattle.link_chain.specs.Taking.{AreTaken, links_with}
use Rattle.link_chain.specs.Laws.InTurn.{only, same_pages, bytes_flattened, pages_flattened}

-- ---- the links
taken_once : (start : List (List Page)) (pages : List Page) (links others : List (List Page)) → AreTaken start pages links → AreTaken start pages others → links ≡ others
taken_once start [] links others a b = a ∙ sym b
taken_once start (page ∷ pages) links others a b = taken_once (links_with start page) pages links others a.1 b.1

pub one_chain : (bytes : List ℕ) (links others : List (List Page)) → AreLinks bytes links → AreLinks bytes others → links ≡ others
one_chain bytes links others a b =
    let same : flattened links ≡ flattened others =
    same_pages (flattened links) (flattened others) (pages_flattened links a.pages) (pages_flattened others b.pages)
    (sym (bytes_flattened links) ∙ sym a.spelled ∙ b.spelled ∙ bytes_flattened others) in
    taken_once [] (flattened others) links others (subst (λ (pages : List Page). AreTaken [] pages links) same (only bytes links a)) (only bytes others b)

-- ---- what they hold
zip_once : {A B : Type 0} (R : A → B → Type 0) → ((a : A) (b c : B) → R a b → R a c → b ≡ c) → (xs : List A) (ys zs : List B) → AllZip R xs ys → AllZip R xs zs → ys ≡ zs
zip_once R one [] [] [] a b = refl
zip_once R one [] [] (z ∷ zs) a b = absurd b
zip_once R one [] (y ∷ ys) zs a b = absurd a
zip_once R one (x ∷ xs) [] zs a b = absurd a
zip_once R one (x ∷ xs) (y ∷ ys) [] a b = absurd b
zip_once R one (x ∷ xs) (y ∷ ys) (z ∷ zs) a b = ap (λ v. v ∷ ys) (one x y z a.0 b.0) ∙ ap (λ l. z ∷ l) (zip_once R one xs ys zs a.1 b.1)

abbrev of : ℕ → List (List ℕ) → Bool → Stream
of serial packets ended = record { serial = serial; packets = packets; ended = ended }

one_stream : (pages : List Page) (serial : ℕ) (stream other : Stream) → HoldsStream pages serial stream → HoldsStream pages serial other → stream ≡ other
one_stream pages serial stream other a b =
    ap (λ n. of n stream.packets stream.ended) (a.serial_is ∙ sym b.serial_is)
    ∙ ap (λ packets. of other.serial packets stream.ended) (held_once _ stream.packets other.packets a.packets b.packets)
    ∙ ap (λ ended. of other.serial other.packets ended) (a.ended ∙ sym b.ended)

pub one_recording : (links : List (List Page)) (recording other : Recording) → HoldsLinks links recording → HoldsLinks links other → recording ≡ other
one_recording links recording other a b =
    zip_once HoldsLink (λ link r s. zip_once (HoldsStream link) (one_stream link) (serials_of link) r s) links recording other a b

pub one_held : (bytes : List ℕ) (recording other : Recording) → Holds bytes recording → Holds bytes other → recording ≡ other
one_held bytes recording other a b =
    one_recording b.0 recording other (subst (λ (links : List (List Page)). HoldsLinks links recording) (one_chain bytes a.0 b.0 a.1 b.1) a.2) b.2

-- ---- their bytes
pub all_bytes_of_links : (bytes : List ℕ) (links : List (List Page)) → AreLinks bytes links → AllByRecursion IsByte bytes
all_bytes_of_links bytes links l =
    subst (λ (b : List ℕ). AllByRecursion IsByte b) (sym (l.spelled ∙ bytes_flattened links)) (all_bytes_of_pages (flattened links) (pages_flattened links l.pages))
