-- Nothing of joined links is left, unless memory is refused.
use Rattle.std.proofs.Common.{◌≡◌, ℕ, List, [], ◌∷◌, ◌++◌, refl, sym, ◌∙◌, ap, subst, Some, None, Option, Err, Ok, append_assoc}
use Rattle.std.specs.List.{AllByRecursion}
use Rattle.ogg_page.specs.Page.{Page, IsPage, page_bytes, bytes_of_pages}
use Rattle.ogg_page.specs.PageLaws.{one_page, page_begins}
use Rattle.ogg_page.specs.Reading.{page_at}
use Rattle.ogg_page.specs.ReadingLaws.{page_is_read}
use Rattle.ogg_page.specs.declared.fault.PageFault.{PageFault}
use Rattle.link_chain.specs.ChainState.{chain_state_of}
use Rattle.link_chain.specs.Links.{AreLinks, flattened}
use Rattle.link_chain.specs.LinkLaws.{only, pages_flattened}
use Rattle.link_chain.specs.Taking.{AreTaken, links_with, fault_of_page}
use Rattle.link_chain.specs.declared.chain_fault.ChainFault.{ChainFault}
use Rattle.link_index.specs.declared.fault.IndexFault.{IndexFault}
use Rattle.link_index.specs.declared.fault.IndexFault.TheVariants.{Page as PageOf, Chain as ChainOf, Memory}
use Rattle.link_index.specs.Adding.{IndexState, AddsPages, IsLeft}
use Rattle.link_index.proofs.Growing.{joined_flat}

no_bytes : (page : Page) (more : List ℕ) → page_bytes page ++ more ≡ [] → ⊥
no_bytes page more e =
    let begins = page_begins page in
    never begins.0 (begins.1 ++ more) (sym (ap (λ (b : List ℕ). b ++ more) begins.2) ∙ e)
  where
    never : (next : ℕ) (rest : List ℕ) → 0x4F ∷ next ∷ rest ≡ [] → ⊥
    never next rest e = cc

-- the pages in front are the first of all pages
pub record Splits (pages all : List Page) (rest : List ℕ) : Type 0 where
  pub more : List Page
  pub is : all ≡ pages ++ more
  pub rest_is : rest ≡ bytes_of_pages more

splits : (pages all : List Page) (rest : List ℕ) → AllByRecursion IsPage pages → AllByRecursion IsPage all → bytes_of_pages pages ++ rest ≡ bytes_of_pages all → Splits pages all rest
splits [] all rest p a e = record { more = all; is = refl; rest_is = e }
splits (page ∷ pages) [] rest p a e = absurd (no_bytes page (bytes_of_pages pages ++ rest) (sym (append_assoc (page_bytes page) (bytes_of_pages pages) rest) ∙ e))
splits (page ∷ pages) (first ∷ all) rest p a e =
    let same : (page ≡ first) × (bytes_of_pages pages ++ rest ≡ bytes_of_pages all) =
    one_page page first (bytes_of_pages pages ++ rest) (bytes_of_pages all) p.0 a.0 (sym (append_assoc (page_bytes page) (bytes_of_pages pages) rest) ∙ e) in
    let more : Splits pages all rest = splits pages all rest p.1 a.1 same.1 in
    record { more = more.more; is = ap (λ (q : Page). q ∷ all) (sym same.0) ∙ ap (λ l. page ∷ l) more.is; rest_is = more.rest_is }

-- the next page may follow
next_taken : (start : List (List Page)) (pages : List Page) (page : Page) (more : List Page) (after links : List (List Page)) → AreTaken start pages after
    → AreTaken start (pages ++ page ∷ more) links → fault_of_page (chain_state_of after) page ≡ None
next_taken start [] page more after links t all = ap (λ (l : List (List Page)). fault_of_page (chain_state_of l) page) t ∙ all.0
next_taken start (first ∷ pages) page more after links t all = next_taken (links_with start first) pages page more after links t.1 all.1

pub only_memory : (bytes : List ℕ) (links : List (List Page)) (index : IndexState) (fault : IndexFault) → AreLinks bytes links → AddsPages [] bytes index (Err fault) → fault ≡ Memory
only_memory bytes links index fault l a =
    let are : AllByRecursion IsPage (flattened links) = pages_flattened links l.pages in
    let split : Splits a.pages (flattened links) a.rest = splits a.pages (flattened links) a.rest a.are_pages are (sym a.spelled ∙ l.spelled ∙ sym (joined_flat links)) in
    let taken : AreTaken [] (a.pages ++ split.more) links = subst (λ (p : List Page). AreTaken [] p links) split.is (only bytes links l) in
    by fault split.more split.rest_is taken (all_after a.pages split.more (subst (AllByRecursion IsPage) split.is are)) a.left
  where
    all_after : (xs ys : List Page) → AllByRecursion IsPage (xs ++ ys) → AllByRecursion IsPage ys
    all_after [] ys h = h
    all_after (x ∷ xs) ys h = all_after xs ys h.1

    by : (fault : IndexFault) (more : List Page) → a.rest ≡ bytes_of_pages more → AreTaken [] (a.pages ++ more) links → AllByRecursion IsPage more
        → IsLeft (chain_state_of a.after) a.rest (Err fault) → fault ≡ Memory
    by Memory more is taken are left = refl
    by (PageOf offset wrong) [] is taken are left = absurd (left.1 is)
    by (PageOf offset wrong) (page ∷ more) is taken are left = absurd (never page wrong (sym (page_is_read page (bytes_of_pages more) are.0) ∙ ap page_at (sym is) ∙ left.2))
      where
        never : (page : Page) (wrong : PageFault) → Ok page ≡ Err wrong → ⊥
        never page wrong e = cc
    by (ChainOf offset wrong) [] is taken are left = absurd (no_bytes left.1 left.2 (sym left.4 ∙ is))
    by (ChainOf offset wrong) (page ∷ more) is taken are left =
        let same : (left.1 ≡ page) × (left.2 ≡ bytes_of_pages more) = one_page left.1 page left.2 (bytes_of_pages more) left.3 are.0 (sym left.4 ∙ is) in
        absurd (never (fault_of_page (chain_state_of a.after) page) wrong (next_taken [] a.pages page more a.after links a.taken taken) (ap (fault_of_page (chain_state_of a.after)) (sym same.0) ∙ left.5))
      where
        never : (o : Option ChainFault) (wrong : ChainFault) → o ≡ None → o ≡ Some wrong → ⊥
        never o wrong a b = cc
