-- Who hears a link on in the next file hears the joined link.
use Rattle.std.proofs.Common.{◌≡◌, ℕ, ◌+◌, ◌-◌, ◌%◌, ◌^◌, List, [], ◌∷◌, ◌++◌, map, refl, sym, ◌∙◌, ap, arith, inl, inr}
use Rattle.std.specs.Prelude.{nat_eq}
use Rattle.std.proofs.lemmas.Bool.{cases_Bool, cond-true, cond-false}
use Rattle.ogg_page.specs.LogicalStream.{is_first}
use Rattle.ogg_page.specs.Page.{Page, bytes_of_pages, page_bytes}
use Rattle.link_chain.specs.declared.stream_state.StreamState.{StreamState}
use Rattle.serve_live.specs.Following.{names_on as heard_on}
use Rattle.serve_live.specs.Heard.{named_after, named_page}
use Rattle.serve_live.specs.Joining.{AreLater}
use Rattle.serve_live.specs.Names.{name_in}
use Rattle.serve_live.specs.Renaming.{retold}
use Rattle.serve_live.specs.RenamingLaws.{wrapped_bytes}
use Rattle.serve_live.specs.declared.names.StreamName.{StreamName}
use Rattle.archive_cut.specs.Continuing.{name_on, names_on}

-- the bytes of a page of a stream that goes on with another
one_stream : (old new : StreamState) (page : Page) →
    page_bytes (retold old.serial ((0 + (old.next_sequence - 0)) % 2 ^ 32 + (page.sequence - new.next_sequence)) page)
    ≡ page_bytes (retold old.serial (old.next_sequence + (page.sequence - new.next_sequence)) page)
one_stream old new page =
    let heard : ℕ = (0 + (old.next_sequence - 0)) % 2 ^ 32 + (page.sequence - new.next_sequence) in
    let joined : ℕ = old.next_sequence + (page.sequence - new.next_sequence) in
    let same : heard % 2 ^ 32 ≡ joined % 2 ^ 32 = omega arith in
    wrapped_bytes old.serial heard page ∙ ap (λ n. page_bytes (retold old.serial n page)) same ∙ sym (wrapped_bytes old.serial joined page)

-- the bytes of a page, as a stream is heard or named
abbrev named_bytes : Page → StreamName → List ℕ
named_bytes page stream = page_bytes (record page { serial = stream.name; sequence = stream.more + (page.sequence - stream.less) })

page_alike : (first begun : List StreamState) (page : Page) →
    page_bytes (named_page (name_in (heard_on [] first begun)) page) ≡ page_bytes (named_page (name_in (names_on begun first)) page)
page_alike [] [] page = refl
page_alike [] (new ∷ begun) page = refl
page_alike (old ∷ first) [] page = refl
page_alike (old ∷ first) (new ∷ begun) page =
    let stream : StreamName =
    record { serial = new.serial; name = old.serial; less = new.next_sequence; more = (0 + (old.next_sequence - 0)) % 2 ^ 32 } in
    let named : StreamName = name_on new old in
    let streams : StreamName = name_in (heard_on [] first begun) page.serial in
    let others : StreamName = name_in (names_on begun first) page.serial in
    elim (cases_Bool (nat_eq new.serial page.serial)) [
      | inl same ↦
          ap (named_bytes page) (cond-true (nat_eq new.serial page.serial) stream streams same)
          ∙ one_stream old new page
          ∙ ap (named_bytes page) (sym (cond-true (nat_eq new.serial page.serial) named others same))
      | inr other ↦
          ap (named_bytes page) (cond-false (nat_eq new.serial page.serial) stream streams other)
          ∙ page_alike first begun page
          ∙ ap (named_bytes page) (sym (cond-false (nat_eq new.serial page.serial) named others other))
    ]

pub heard_as_joined : (first begun : List StreamState) (later : List Page) → AreLater later →
    bytes_of_pages (named_after (name_in (heard_on [] first begun)) later) ≡ bytes_of_pages (map (named_page (name_in (names_on begun first))) later)
heard_as_joined first begun [] unmarked = refl
heard_as_joined first begun (page ∷ later) unmarked =
    let names : ℕ → StreamName = name_in (heard_on [] first begun) in
    ap bytes_of_pages (cond-false (is_first page) (page ∷ later) (named_page names page ∷ named_after names later) unmarked.0)
    ∙ ap (λ l. l ++ bytes_of_pages (named_after names later)) (page_alike first begun page)
    ∙ ap (λ l. page_bytes (named_page (name_in (names_on begun first)) page) ++ l) (heard_as_joined first begun later unmarked.1)
