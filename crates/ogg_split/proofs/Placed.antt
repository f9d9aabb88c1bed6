-- Where the index says that a link stands, it stands.
use Rattle.std.proofs.Common.{◌≡◌, ◌≤◌, ℕ, zero, suc, ◌+◌, true, false, Some, Ok, Err, Result, List, [], ◌∷◌, ◌++◌, length, take, drop, refl, sym, ◌∙◌, ap, subst, arith, append_assoc, length-append}
use Rattle.std.specs.Prelude.{IfErr, slice_get, ◌↔◌, ◌||◌, Bool, nat_eq, map}
use Rattle.std.specs.List.{AllByRecursion, list_any}
use Rattle.std.proofs.Math.Seq.{take-append_seam, drop-append_seam}
use Rattle.std.proofs.lemmas.Option.{slice_get_within}
use Rattle.ogg_page.specs.Page.{Page, bytes_of_pages}
use Rattle.link_chain.specs.Links.{AreLinks, IsLink, has_stream, serials_of}
use Rattle.link_index.specs.Adding.{IndexState}
use Rattle.link_index.specs.Index.{LinkEntry, link_entry, index_from, index_of, stream_info}
use Rattle.link_index.specs.IndexLaws.{Between, between}
use Rattle.link_index.specs.declared.info.LinkInfo.{LinkInfo}
use Rattle.ogg_split.specs.Asked.{AreIndexed, IsMissing, LacksStream, StandsIn, has_serial}
use Rattle.ogg_split.specs.Copying.{IsThere}
use Rattle.ogg_split.specs.declared.fault.SplitFault.{SplitFault}
use Rattle.ogg_split.specs.declared.fault.SplitFault.TheVariants.{NoLink, NoStream, Source, Write}

pub inside : {A : Type 0} (x y : A) → Some x ≡ Some y → x ≡ y
inside x y e = cc

pub stands_in : (links : List (List Page)) (index : IndexState) (bytes : List ℕ) (number : ℕ) (pages : List Page) (entry : LinkEntry) → AreIndexed links index bytes
    → slice_get links number ≡ Some pages → slice_get index.entries number ≡ Some entry → StandsIn bytes entry.info pages
stands_in links index bytes number pages entry are e there =
    let p : Between links number 0 pages = between links number 0 pages are.are_links.pages e in
    let same : link_entry (0 + length p.before) pages ≡ entry =
    inside (link_entry (0 + length p.before) pages) entry (sym p.entry ∙ ap (λ (l : List LinkEntry). slice_get l number) (sym are.is_index.entries_are) ∙ there) in
    let own : List ℕ = bytes_of_pages pages in
    record {
      before = p.before;
      behind = p.behind ++ are.rest;
      joined = are.joined ∙ ap (λ (l : List ℕ). l ++ are.rest) (are.are_links.spelled ∙ p.joined) ∙ append_assoc p.before (own ++ p.behind) are.rest
          ∙ ap (λ (l : List ℕ). p.before ++ l) (append_assoc own p.behind are.rest);
      start = ap (λ (x : LinkEntry). x.info.start) (sym same) ∙ omega arith;
      whole = ap (λ (x : LinkEntry). x.info.length) (sym same);
      are_pages = p.are_pages;
    }

-- a link that the index has is one of the links
link_of : (links : List (List Page)) (number start : ℕ) (entry : LinkEntry) → slice_get (index_from start links) number ≡ Some entry
    → (pages : List Page) × (slice_get links number ≡ Some pages)
link_of [] number start entry e = cc
link_of (first ∷ links) zero start entry e = (first, refl)
link_of (first ∷ links) (suc number) start entry e = link_of links number (start + length (bytes_of_pages first)) entry e

pub some_link : (links : List (List Page)) (index : IndexState) (bytes : List ℕ) (number : ℕ) (entry : LinkEntry) → AreIndexed links index bytes
    → slice_get index.entries number ≡ Some entry → (pages : List Page) × StandsIn bytes entry.info pages
some_link links index bytes number entry are there =
    let (pages, e) = link_of links number 0 entry (ap (λ (l : List LinkEntry). slice_get l number) (sym are.is_index.entries_are) ∙ there) in
    (pages, stands_in links index bytes number pages entry are e there)

-- each of the links is a link
pub link_at : (links : List (List Page)) (number : ℕ) (pages : List Page) → AllByRecursion IsLink links → slice_get links number ≡ Some pages → IsLink pages
link_at [] number pages each e = cc
link_at (first ∷ links) zero pages each e = subst IsLink (inside first pages e) each.0
link_at (first ∷ links) (suc number) pages each e = link_at links number pages each.1 e

pub whole_link : (links : List (List Page)) (index : IndexState) (bytes : List ℕ) (number : ℕ) (entry : LinkEntry) → AreIndexed links index bytes
    → slice_get index.entries number ≡ Some entry → (pages : List Page) × IsLink pages × StandsIn bytes entry.info pages
whole_link links index bytes number entry are there =
    let (pages, e) = link_of links number 0 entry (ap (λ (l : List LinkEntry). slice_get l number) (sym are.is_index.entries_are) ∙ there) in
    (pages, link_at links number pages are.are_links.each e, stands_in links index bytes number pages entry are e there)

-- ---- what is there isn't missing
pub link_is_there : {T : Type 0} (result : Result T SplitFault) (entries : List LinkEntry) (number : ℕ) (entry : LinkEntry) → IsThere result
    → slice_get entries number ≡ Some entry → (result ≡ Err NoLink) ↔ (length entries ≤ number)
link_is_there result entries number entry is there =
    (λ e. absurd (is.link e), λ le. absurd (omega (arith, le, slice_get_within entries number entry there)))

-- a fault of reading doesn't say that something is missing
pub nothing_missing : {T : Type 0} (result : Result T SplitFault) → IfErr result (λ fault. fault ≡ Source) → IsThere result
nothing_missing (Ok value) why = record { link = λ e. cc; stream = λ e. cc }
nothing_missing (Err fault) why = record { link = λ e. cc; stream = λ e. cc }

one_has : (entries : List LinkEntry) (number : ℕ) (entry other : LinkEntry) (serial : ℕ) → slice_get entries number ≡ Some entry → slice_get entries number ≡ Some other
    → has_serial entry.streams serial ≡ true → has_serial other.streams serial ≡ false → ⊥
one_has entries number entry other serial a b yes_it no_not =
    let same : entry ≡ other = inside entry other (sym a ∙ b) in
    let both : true ≡ false = sym yes_it ∙ ap (λ (x : LinkEntry). has_serial x.streams serial) same ∙ no_not in
    cc

pub stream_is_there : {T : Type 0} (result : Result T SplitFault) (entries : List LinkEntry) (number serial : ℕ) (entry : LinkEntry) → IsThere result
    → slice_get entries number ≡ Some entry → has_serial entry.streams serial ≡ true → (result ≡ Err NoStream) ↔ LacksStream entries number serial
stream_is_there result entries number serial entry is there has =
    (λ e. absurd (is.stream e), λ lacks. absurd (one_has entries number entry lacks.0 serial there lacks.1 has lacks.2))

-- a link that lacks the stream is one of the entries
lacks_inside : (entries : List LinkEntry) (number serial : ℕ) → LacksStream entries number serial → length entries ≤ number → ⊥
lacks_inside entries number serial lacks le = omega (arith, le, slice_get_within entries number lacks.0 lacks.1)

-- what is missing is missing for the reason given
pub link_is_missing : {T : Type 0} (result : Result T SplitFault) (fault : SplitFault) (entries : List LinkEntry) (number serial : ℕ) → result ≡ Err fault
    → IsMissing entries number serial fault → (result ≡ Err NoLink) ↔ (length entries ≤ number)
link_is_missing result NoLink entries number serial is m = ((λ e. m), (λ le. is))
link_is_missing result NoStream entries number serial is m = ((λ e. cc), (λ le. absurd (lacks_inside entries number serial m le)))
link_is_missing result Source entries number serial is m = absurd m
link_is_missing result Write entries number serial is m = absurd m

pub stream_is_missing : {T : Type 0} (result : Result T SplitFault) (fault : SplitFault) (entries : List LinkEntry) (number serial : ℕ) → result ≡ Err fault
    → IsMissing entries number serial fault → (result ≡ Err NoStream) ↔ LacksStream entries number serial
stream_is_missing result NoLink entries number serial is m = ((λ e. cc), (λ lacks. absurd (lacks_inside entries number serial lacks m)))
stream_is_missing result NoStream entries number serial is m = ((λ e. m), (λ lacks. is))
stream_is_missing result Source entries number serial is m = absurd m
stream_is_missing result Write entries number serial is m = absurd m

-- ---- the link's own bytes
pub own_bytes : (bytes : List ℕ) (link : LinkInfo) (pages : List Page) → StandsIn bytes link pages → take link.length (drop link.start bytes) ≡ bytes_of_pages pages
own_bytes bytes link pages s =
    ap (λ n. take n (drop link.start bytes)) s.whole ∙ ap (λ n. take (length (bytes_of_pages pages)) (drop n bytes)) s.start
    ∙ ap (λ (l : List ℕ). take (length (bytes_of_pages pages)) (drop (length s.before) l)) s.joined
    ∙ ap (λ (l : List ℕ). take (length (bytes_of_pages pages)) l) (drop-append_seam s.before (bytes_of_pages pages ++ s.behind))
    ∙ take-append_seam (bytes_of_pages pages) s.behind

pub fits : (bytes : List ℕ) (link : LinkInfo) (pages : List Page) → StandsIn bytes link pages → link.start + link.length ≤ length bytes
fits bytes link pages s =
    omega (arith, s.start, s.whole, ap length s.joined, length-append s.before (bytes_of_pages pages ++ s.behind), length-append (bytes_of_pages pages) s.behind)

-- ---- the streams of a link
serials_told : (link : List Page) (serials : List ℕ) (serial : ℕ) → has_serial (map (stream_info link) serials) serial ≡ list_any (nat_eq serial) serials
serials_told link [] serial = refl
serials_told link (first ∷ serials) serial = ap (λ (b : Bool). nat_eq serial first || b) (serials_told link serials serial)

pub same_streams : (bytes : List ℕ) (links : List (List Page)) (number serial : ℕ) (pages : List Page) (entry : LinkEntry) → AreLinks bytes links
    → slice_get links number ≡ Some pages → slice_get (index_of links) number ≡ Some entry → has_serial entry.streams serial ≡ has_stream pages serial
same_streams bytes links number serial pages entry are e there =
    let p : Between links number 0 pages = between links number 0 pages are.pages e in
    let same : link_entry (0 + length p.before) pages ≡ entry = inside (link_entry (0 + length p.before) pages) entry (sym p.entry ∙ there) in
    ap (λ (x : LinkEntry). has_serial x.streams serial) (sym same) ∙ serials_told pages (serials_of pages) serial
