-- What is kept of an index while pages are added.
use Rattle.std.proofs.Common.{◌≡◌, ℕ, ◌+◌, true, false, List, [], ◌∷◌, length, sym, ◌∙◌, ap, subst, arith, length-append, None}
use Rattle.std.proofs.lemmas.List.{length-map}
use Rattle.ogg_page.specs.Page.{Page, page_bytes, page_size}
use Rattle.ogg_page.specs.PageLaws.{length-page_bytes}
use Rattle.ogg_page.specs.LogicalStream.{is_first}
use Rattle.link_chain.specs.ChainState.{ChainState, chain_state_of, is_open}
use Rattle.link_chain.specs.Progress.{change_at}
use Rattle.link_chain.specs.Followed.{opened, joined, continued, entered, followed}
use Rattle.link_chain.specs.Taking.{fault_of_page, links_with}
use Rattle.link_chain.specs.Laws.PageState.{opened_state, joined_state, later_state, opens_few}
use Rattle.link_index.specs.declared.info.StreamInfo.{StreamInfo}
use Rattle.link_index.specs.declared.rows.Row.{Row}
use Rattle.link_index.specs.Rows.{ArePacked, AreWithin, IsKept, last_count}

-- what a chain is after it took the page
abbrev pub Moves : ChainState → Page → ChainState → Type 0
Moves chain page next = (links : List (List Page)) → chain ≡ chain_state_of links → next ≡ chain_state_of (links_with links page)

module _ (chain next : ChainState) (page : Page) (links : List (List Page)) (is : chain ≡ chain_state_of links) (moves : Moves chain page next) where
  pub next_opened : is_first page ≡ true → is_open chain ≡ false → next ≡ opened chain page
  next_opened first closed = moves links is ∙ opened_state chain links page is first closed

  pub next_joined : is_first page ≡ true → is_open chain ≡ true → fault_of_page chain page ≡ None → next ≡ joined chain page
  next_joined first open' none = moves links is ∙ joined_state chain links page is first open' none

  pub next_later : is_first page ≡ false → fault_of_page chain page ≡ None → next ≡ continued chain page
  next_later later none = moves links is ∙ later_state chain links page is later none

-- the links and the size, whatever the page
abbrev Within : ChainState → Page → ChainState → List Row → List StreamInfo → Type 0
Within chain page next rows streams = AreWithin (chain.length_of + length (page_bytes page)) rows streams

size_moved : (chain next : ChainState) (page : Page) → next.length_of ≡ chain.length_of + page_size page → chain.length_of + length (page_bytes page) ≡ next.length_of
size_moved chain next page grows = omega (arith, grows, length-page_bytes page)

pub kept_opened : (chain next : ChainState) (page : Page) (rows new_rows : List Row) (streams new_streams : List StreamInfo) → IsKept chain rows streams
    → Moves chain page next → is_first page ≡ true → is_open chain ≡ false → fault_of_page chain page ≡ None
    → ArePacked 0 new_rows (length new_streams) → length new_rows ≡ length rows + 1 → last_count new_rows ≡ 1
    → ((total : ℕ) → AreWithin total rows streams → AreWithin (total + length (page_bytes page)) new_rows new_streams) → IsKept next new_rows new_streams
kept_opened chain next page rows new_rows streams new_streams k moves first closed none packed count last within =
    let is : next ≡ opened chain page = next_opened chain next page k.links k.chain_is moves first closed in
    record {
      links = links_with k.links page;
      chain_is = moves k.links k.chain_is;
      packed = packed;
      count = count ∙ ap (λ n. n + 1) k.count ∙ sym (ap (λ (c : ChainState). c.links) is);
      few = omega (arith, count, k.count, opens_few chain page first closed none);
      last = last ∙ sym (ap (λ (c : ChainState). length c.streams) is);
      within = subst (λ n. AreWithin n new_rows new_streams) (size_moved chain next page (ap (λ (c : ChainState). c.length_of) is)) (within chain.length_of k.within);
    }

pub kept_joined : (chain next : ChainState) (page : Page) (rows new_rows : List Row) (streams new_streams : List StreamInfo) → IsKept chain rows streams
    → Moves chain page next → is_first page ≡ true → is_open chain ≡ true → fault_of_page chain page ≡ None
    → ArePacked 0 new_rows (length new_streams) → length new_rows ≡ length rows → last_count new_rows ≡ last_count rows + 1
    → ((total : ℕ) → AreWithin total rows streams → AreWithin (total + length (page_bytes page)) new_rows new_streams) → IsKept next new_rows new_streams
kept_joined chain next page rows new_rows streams new_streams k moves first open' none packed count last within =
    let is : next ≡ joined chain page = next_joined chain next page k.links k.chain_is moves first open' none in
    record {
      links = links_with k.links page;
      chain_is = moves k.links k.chain_is;
      packed = packed;
      count = count ∙ k.count ∙ sym (ap (λ (c : ChainState). c.links) is);
      few = omega (arith, count, k.few);
      last = last ∙ ap (λ n. n + 1) k.last ∙ sym (length-append chain.streams (entered page ∷ [])) ∙ sym (ap (λ (c : ChainState). length c.streams) is);
      within = subst (λ n. AreWithin n new_rows new_streams) (size_moved chain next page (ap (λ (c : ChainState). c.length_of) is)) (within chain.length_of k.within);
    }

pub kept_later : (chain next : ChainState) (page : Page) (rows new_rows : List Row) (streams new_streams : List StreamInfo) → IsKept chain rows streams
    → Moves chain page next → is_first page ≡ false → fault_of_page chain page ≡ None
    → ArePacked 0 new_rows (length new_streams) → length new_rows ≡ length rows → last_count new_rows ≡ last_count rows
    → ((total : ℕ) → AreWithin total rows streams → AreWithin (total + length (page_bytes page)) new_rows new_streams) → IsKept next new_rows new_streams
kept_later chain next page rows new_rows streams new_streams k moves later none packed count last within =
    let is : next ≡ continued chain page = next_later chain next page k.links k.chain_is moves later none in
    record {
      links = links_with k.links page;
      chain_is = moves k.links k.chain_is;
      packed = packed;
      count = count ∙ k.count ∙ sym (ap (λ (c : ChainState). c.links) is);
      few = omega (arith, count, k.few);
      last = last ∙ k.last ∙ sym (length-map chain.streams (change_at page.serial (followed page))) ∙ sym (ap (λ (c : ChainState). length c.streams) is);
      within = subst (λ n. AreWithin n new_rows new_streams) (size_moved chain next page (ap (λ (c : ChainState). c.length_of) is)) (within chain.length_of k.within);
    }
