-- The rest of a stream as a function of its place.
use Rattle.std.proofs.Common.{◌≡◌, ℕ, ◌+◌, ◌<◌, Result, Ok, Err, List, [], ◌∷◌, ◌++◌, length, drop, refl, sym, ◌∙◌, ap, subst, append_assoc, slice_index, get_or-drop}
use Rattle.std.specs.Prelude.{nat_eq}
use Rattle.std.specs.List.{AllByRecursion}
use Rattle.std.proofs.lemmas.List.{drop_at}
use Rattle.std.proofs.lemmas.List.Elements.{filter-append}
use Rattle.ogg_page.specs.Page.{Page, IsPage, page_bytes, page_size, bytes_of_pages}
use Rattle.ogg_page.specs.Pages.{BeginsWithPages, FoundPage, AreFoundIn, found_in, located, fault_at, fault_of}
use Rattle.ogg_page.specs.Reading.{page_at}
use Rattle.ogg_page.specs.declared.fault.PageFault.{PageFault}
use Rattle.link_chain.specs.Links.{pages_with}
use Rattle.serve_machine.specs.Places.{part_at, IsStreamRest, pages_among, stream_rest}
use Rattle.serve_machine.proofs.Parts.{part_stays}

both_bytes : (pages others : List Page) → bytes_of_pages (pages ++ others) ≡ bytes_of_pages pages ++ bytes_of_pages others
both_bytes [] others = refl
both_bytes (page ∷ pages) others = ap (λ l. page_bytes page ++ l) (both_bytes pages others) ∙ sym (append_assoc (page_bytes page) (bytes_of_pages pages) (bytes_of_pages others))

both_pages : (pages others : List Page) → AllByRecursion IsPage pages → AllByRecursion IsPage others → AllByRecursion IsPage (pages ++ others)
both_pages [] others a b = b
both_pages (page ∷ pages) others a b = (a.0, both_pages pages others a.1 b)

both_own : (serial : ℕ) (pages others : List Page) → pages_with serial (pages ++ others) ≡ pages_with serial pages ++ pages_with serial others
both_own serial pages others = filter-append (λ (page : Page). nat_eq page.serial serial) pages others

no_pages : (offset : ℕ) (read : Result Page PageFault) → pages_among (fault_of offset read) ≡ []
no_pages offset (Ok page) = refl
no_pages offset (Err fault) = refl

none_at_fault : (offset : ℕ) (rest : List ℕ) → pages_among (fault_at offset rest) ≡ []
none_at_fault offset [] = refl
none_at_fault offset (byte ∷ rest) = no_pages offset (page_at (byte ∷ rest))

among_located : (offset : ℕ) (pages : List Page) (more : List FoundPage) → pages_among more ≡ [] → pages_among (located offset pages ++ more) ≡ pages
among_located offset [] more none = none
among_located offset (page ∷ pages) more none = ap (λ l. page ∷ l) (among_located (offset + page_size page) pages more none)

module _ (one_list : (bytes : List ℕ) (p q : List Page) (x y : List ℕ) → BeginsWithPages bytes p x → BeginsWithPages bytes q y → (p ≡ q) × (x ≡ y))
    (in_turn : (bytes : List ℕ) → ((i : ℕ) → slice_index bytes i < 256) → AreFoundIn bytes (found_in 0 bytes)) where
  -- pages in front are found, and then those that follow them
  found_pages : (bytes behind : List ℕ) (pages : List Page) → ((i : ℕ) → slice_index bytes i < 256) → ((i : ℕ) → slice_index behind i < 256)
      → bytes ≡ bytes_of_pages pages ++ behind → AllByRecursion IsPage pages → (others : List Page) × (pages_among (found_in 0 bytes) ≡ pages ++ others)
  found_pages bytes behind pages small small_behind is each =
      let all = in_turn bytes small in
      let later = in_turn behind small_behind in
      let joined : BeginsWithPages bytes (pages ++ later.pages) later.rest =
      record {
        are_pages = both_pages pages later.pages each later.begins.are_pages;
        joined = is ∙ ap (λ l. bytes_of_pages pages ++ l) later.begins.joined
            ∙ sym (append_assoc (bytes_of_pages pages) (bytes_of_pages later.pages) later.rest)
            ∙ ap (λ l. l ++ later.rest) (sym (both_bytes pages later.pages));
        longest = later.begins.longest;
      } in (
        later.pages,
        ap pages_among all.all
            ∙ among_located 0 all.pages (fault_at (length (bytes_of_pages all.pages)) all.rest) (none_at_fault (length (bytes_of_pages all.pages)) all.rest)
            ∙ (one_list bytes all.pages (pages ++ later.pages) all.rest later.rest all.begins joined).0,
      )

  pub stream_rest_is : (committed : List ℕ) (serial place skip count : ℕ) (rest : List ℕ) → ((i : ℕ) → slice_index committed i < 256)
      → IsStreamRest committed serial place skip count rest → stream_rest committed serial place skip count ≡ rest
  stream_rest_is committed serial place skip count rest small r =
      let from : drop place committed ≡ bytes_of_pages r.pages ++ r.behind =
      ap (drop place) r.split ∙ drop_at r.front (bytes_of_pages r.pages ++ r.behind) place r.place_is in
      let small_from : (i : ℕ) → slice_index (drop place committed) i < 256 =
      λ i. subst (λ n. n < 256) (sym (get_or-drop place committed i 0)) (small (place + i)) in
      let behind_is : drop (length (bytes_of_pages r.pages)) (drop place committed) ≡ r.behind =
      ap (drop (length (bytes_of_pages r.pages))) from ∙ drop_at (bytes_of_pages r.pages) r.behind (length (bytes_of_pages r.pages)) refl in
      let small_behind : (i : ℕ) → slice_index r.behind i < 256 =
      λ i. subst (λ (l : List ℕ). slice_index l i < 256) behind_is
      (subst (λ n. n < 256) (sym (get_or-drop (length (bytes_of_pages r.pages)) (drop place committed) i 0)) (small_from (length (bytes_of_pages r.pages) + i))) in
      let found = found_pages (drop place committed) r.behind r.pages small_from small_behind from r.are_pages in
      ap (λ ps. part_at skip count (bytes_of_pages (pages_with serial ps))) found.1
      ∙ ap (λ ps. part_at skip count (bytes_of_pages ps)) (both_own serial r.pages found.0)
      ∙ ap (part_at skip count) (both_bytes (pages_with serial r.pages) (pages_with serial found.0))
      ∙ part_stays skip count (bytes_of_pages (pages_with serial r.pages)) (bytes_of_pages (pages_with serial found.0)) r.inside
      ∙ sym r.rest_is
