-- Pages that are taken one by one while bytes are walked through.
use Rattle.std.proofs.Common.{◌≡◌, ℕ, List, [], ◌∷◌, ◌++◌, refl, sym, ◌∙◌, ap, append_assoc, Option, Some, None}
use Rattle.std.proofs.lemmas.List.{append-nil}
use Rattle.ogg_page.specs.Page.{Page, IsPage, page_bytes, bytes_of_pages}
use Rattle.ogg_page.specs.PageLaws.{pages_both, bytes_both}
use Rattle.link_chain.specs.ChainState.{ChainState, chain_state_of}
use Rattle.link_chain.specs.Taking.{AreTaken, links_with, fault_of_page}
use Rattle.link_chain.specs.Walk.{TakesSome}

-- one more page
pub taken_more : (start : List (List Page)) (pages : List Page) (page : Page) (after : List (List Page)) → AreTaken start pages after →
    fault_of_page (chain_state_of after) page ≡ None → AreTaken start (pages ++ page ∷ []) (links_with after page)
taken_more start [] page after t none =
    (ap (λ (l : List (List Page)). fault_of_page (chain_state_of l) page) (sym t) ∙ none, ap (λ (l : List (List Page)). links_with l page) t)
taken_more start (p ∷ pages) page after t none = (t.0, taken_more (links_with start p) pages page after t.1 none)

pub takes_more : (links : List (List Page)) (bytes rest more : List ℕ) (chain next : ChainState) (page : Page) → TakesSome links bytes chain rest →
    IsPage page → rest ≡ page_bytes page ++ more → fault_of_page chain page ≡ None →
    ((after : List (List Page)) → chain ≡ chain_state_of after → next ≡ chain_state_of (links_with after page)) → TakesSome links bytes next more
takes_more links bytes rest more chain next page so_far is split none moves = record {
  pages = so_far.pages ++ page ∷ [];
  after = links_with so_far.after page;
  are_pages = pages_both so_far.pages (page ∷ []) so_far.are_pages (is, tt);
  spelled = so_far.spelled ∙ ap (λ (l : List ℕ). bytes_of_pages so_far.pages ++ l) split
      ∙ sym (append_assoc (bytes_of_pages so_far.pages) (page_bytes page) more)
      ∙ ap (λ (l : List ℕ). (bytes_of_pages so_far.pages ++ l) ++ more) (sym (append-nil (page_bytes page)))
      ∙ ap (λ (l : List ℕ). l ++ more) (sym (bytes_both so_far.pages (page ∷ [])));
  taken = taken_more links so_far.pages page so_far.after so_far.taken (ap (λ (c : ChainState). fault_of_page c page) (sym so_far.state) ∙ none);
  state = moves so_far.after so_far.state;
}

-- what isn't a fault is none
pub no_fault_there : {F : Type 0} (o : Option F) → ((f : F) → o ≡ Some f → ⊥) → o ≡ None
no_fault_there None never = refl
no_fault_there (Some f) never = absurd (never f refl)
