-- The streams that go on with one another, by what the heads of pages leave of them.
use Rattle.std.proofs.Common.{◌≡◌, ℕ, ◌+◌, ◌-◌, Bool, true, List, [], ◌∷◌, length, map, refl, sym, ◌∙◌, ap, arith, eq-eqb, inl, inr}
use Rattle.std.specs.Prelude.{nat_eq, not, ◌||◌}
use Rattle.std.specs.List.{AllByRecursion, filter, flat_map, list_any}
use Rattle.std.proofs.lemmas.Bool.{cases_Bool, cases_eq, cond-true, cond-false, false≢true, ne_eqb}
use Rattle.std.proofs.lemmas.List.{append-nil}
use Rattle.ogg_page.specs.LogicalStream.{number_behind}
use Rattle.ogg_page.specs.Page.{Page, IsPage, bytes_of_pages}
use Rattle.link_chain.specs.declared.stream_state.StreamState.{StreamState}
use Rattle.link_chain.specs.ChainState.{state_of}
use Rattle.link_chain.specs.Links.{AreLinks, IsLink, has_ended, pages_with, serials_of}
use Rattle.serve_live.specs.Following.{open_streams}
use Rattle.serve_live.specs.Heard.{named_page}
use Rattle.serve_live.specs.Names.{name_in as stream_in}
use Rattle.serve_live.specs.declared.names.StreamName.{StreamName}
use Rattle.archive_cut.specs.Continuing.{name_on, names_on, open_states}
use Rattle.archive_cut.specs.Heads.{streams_after}
use Rattle.archive_cut.specs.Joined.{continued, name_in, names_in_order, open_in, pairs_of}
use Rattle.archive_cut.proofs.Starts.{streams_of}

-- ---- the streams of a link that are open
open_mapped : (pages : List Page) (serials : List ℕ) →
    open_streams (map (state_of pages) serials) ≡ map (state_of pages) (filter (λ serial. not (has_ended pages serial)) serials)
open_mapped pages [] = refl
open_mapped pages (serial ∷ serials) =
    let test : Bool = not (has_ended pages serial) in
    let left : List StreamState = open_streams (map (state_of pages) serials) in
    let right : List ℕ = filter (λ s. not (has_ended pages s)) serials in
    let rest : left ≡ map (state_of pages) right = open_mapped pages serials in
    elim (cases_Bool test) [
      | inl goes ↦
          cond-true test (state_of pages serial ∷ left) left goes ∙ ap (λ l. state_of pages serial ∷ l) rest
          ∙ ap (map (state_of pages)) (sym (cond-true test (serial ∷ right) right goes))
      | inr over ↦
          cond-false test (state_of pages serial ∷ left) left over ∙ rest ∙ ap (map (state_of pages)) (sym (cond-false test (serial ∷ right) right over))
    ]

one_link : (pages : List Page) → AllByRecursion IsPage pages → IsLink pages → AreLinks (flat_map bytes_of_pages (pages ∷ [])) (pages ∷ [])
one_link pages are is = record { spelled = refl; pages = (are, tt); few = omega arith; each = (is, tt); ended = tt }

pub states_are_open : (pages : List Page) → AllByRecursion IsPage pages → IsLink pages → open_streams (streams_after [] pages) ≡ open_states pages
states_are_open pages are is =
    ap (λ l. open_streams (streams_after [] l)) (sym (append-nil pages))
    ∙ ap open_streams (streams_of (flat_map bytes_of_pages (pages ∷ [])) (pages ∷ []) (one_link pages are is))
    ∙ open_mapped pages (serials_of pages)

-- ---- a page of a stream that goes on
with_name : List Page → List Page → Page → ℕ → Page
with_name first begin page name =
    record page {
      serial = name;
      sequence = (page.sequence - number_behind (pages_with page.serial begin)) + number_behind (pages_with name first);
    }

abbrev names_of_both : List Page → List Page → List ℕ → List ℕ → List StreamName
names_of_both first begin xs ys = names_on (map (state_of begin) xs) (map (state_of first) ys)

abbrev page_under : Page → StreamName → Page
page_under page stream = record page { serial = stream.name; sequence = stream.more + (page.sequence - stream.less) }

named_on : (first begin : List Page) (page : Page) (old new : ℕ) → page.serial ≡ new →
    page_under page (name_on (state_of begin new) (state_of first old)) ≡ with_name first begin page old
unfolding with_name
named_on first begin page old new same =
    let next : ℕ = number_behind (pages_with old first) in
    let done : ℕ → ℕ = λ serial. number_behind (pages_with serial begin) in
    let turned : next + (page.sequence - done new) ≡ (page.sequence - done new) + next = omega arith in
    ap (λ n. record page { serial = old; sequence = n }) turned
    ∙ ap (λ s. record page { serial = old; sequence = (page.sequence - done s) + next }) (sym same)

named : (first begin : List Page) (page : Page) (xs ys : List ℕ) → length xs ≡ length ys → list_any (nat_eq page.serial) xs ≡ true →
    named_page (stream_in (names_of_both first begin xs ys)) page ≡ with_name first begin page (name_in (pairs_of xs ys) page.serial)
named first begin page [] ys len there = absurd (false≢true there)
named first begin page (x ∷ xs) [] len there = absurd (omega arith)
named first begin page (x ∷ xs) (y ∷ ys) len there =
    let own : StreamName = name_on (state_of begin x) (state_of first y) in
    let test : Bool = nat_eq x page.serial in
    elim (cases_eq page.serial x) [
      | inl same ↦
          (let yes' : test ≡ true = eq-eqb x page.serial (sym same) in
          ap (page_under page) (cond-true test own (stream_in (names_of_both first begin xs ys) page.serial) yes')
          ∙ named_on first begin page y x same
          ∙ ap (with_name first begin page) (sym (cond-true test y (name_in (pairs_of xs ys) page.serial) yes')))
      | inr other ↦
          (let no' = ne_eqb x page.serial (λ e. other (sym e)) in
          ap (page_under page) (cond-false test own (stream_in (names_of_both first begin xs ys) page.serial) no')
          ∙ named first begin page xs ys (omega (arith, len)) (sym (ap (λ b. b || list_any (nat_eq page.serial) xs) (ne_eqb page.serial x other)) ∙ there)
          ∙ ap (with_name first begin page) (sym (cond-false test y (name_in (pairs_of xs ys) page.serial) no')))
    ]

pub named_as_continued : (first begin : List Page) (page : Page) → length (open_in begin) ≡ length (open_in first) →
    list_any (nat_eq page.serial) (open_in begin) ≡ true →
    named_page (stream_in (names_on (open_states begin) (open_states first))) page ≡ continued first begin (names_in_order first begin) page
unfolding with_name
named_as_continued first begin page len there = named first begin page (open_in begin) (open_in first) len there
