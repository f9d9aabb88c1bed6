use Rattle.std.proofs.Common.{◌≡◌, ◌++◌, Bool, true, false, List, [], ◌∷◌, sym, ◌∙◌, ap, subst, arith, None}
use Rattle.std.specs.Prelude.{not}
use Rattle.std.specs.List.{list_any}
use Rattle.ogg_page.specs.Page.{Page}
use Rattle.ogg_page.specs.PageLaws.{length-page_bytes}
use Rattle.link_chain.specs.declared.stream_state.StreamState.{StreamState}
use Rattle.link_chain.specs.ChainState.{ChainState, chain_state_of, is_open}
use Rattle.link_chain.specs.Taking.{fault_of_page}
use Rattle.link_chain.specs.Laws.PageState.{joins_few}
use Rattle.link_index.specs.declared.info.StreamInfo.{StreamInfo}
use Rattle.link_index.specs.declared.rows.Row.{Row}
use Rattle.link_index.specs.Adding.{IndexState}
use Rattle.link_index.specs.Index.{LinkEntry, index_of}
use Rattle.link_index.specs.Growth.{joined_entry, opened_entry, change_last}
use Rattle.link_index.specs.Rows.{AreWithin, IsKept, entries_of, last_count}
use Rattle.link_index.proofs.Growing.{index_joined, index_opened}
use Rattle.link_index.proofs.Keeping.{kept_opened, kept_joined}
use Rattle.link_index.proofs.index.Index.add_first.Goals as goal

open_if : (streams lent : List StreamState) (b : Bool) (r : Bool) → lent ≡ streams → r ≡ list_any (λ (s : StreamState). not s.ended) lent → r ≡ b → list_any (λ (s : StreamState). not s.ended) streams ≡ b
open_if streams lent b r is e f = ap (list_any (λ (s : StreamState). not s.ended)) (sym is) ∙ sym e ∙ f

pub join_link-requires-clause-few : goal.join_link-requires-clause-few
join_link-requires-clause-few c =
    let chain : ChainState = c.self.inside.chain.chain in
    let none : fault_of_page chain c.args.page.now ≡ None = sym c.fault_of.ensures ∙ c.in_default.is in
    let open' : is_open chain ≡ true = open_if chain.streams c.streams.result.now true c.is_open-joins.result c.streams.ensures.value c.is_open-joins.ensures c.if-joins.true in
    omega (arith, joins_few chain c.args.page.now c.requires.first open' none, c.self.invariant.last, ap last_count c.reserve.ensures.items)

pub join_link-requires-clause-within : goal.join_link-requires-clause-within
join_link-requires-clause-within c = (
  c.self.inside.chain.chain.length_of,
  subst (λ (s : List StreamInfo). AreWithin c.self.inside.chain.chain.length_of c.reserve.new.self.items s) (sym c.reserve-2.ensures.items)
      (subst (λ (r : List Row). AreWithin c.self.inside.chain.chain.length_of r c.self.inside.streams.items) (sym c.reserve.ensures.items) c.self.invariant.within),
  omega (arith, c.requires.fits, ap (λ (s : IndexState). s.chain.chain.length_of) c.self.view_is, length-page_bytes c.args.page.now),
)

pub invariant_of-self-then-joins : goal.invariant_of-self-then-joins
invariant_of-self-then-joins c =
    let chain : ChainState = c.self.inside.chain.chain in
    let none : fault_of_page chain c.args.page.now ≡ None = sym c.fault_of.ensures ∙ c.in_default.is in
    let open' : is_open chain ≡ true = open_if chain.streams c.streams.result.now true c.is_open-joins.result c.streams.ensures.value c.is_open-joins.ensures c.if-joins.true in
    kept_joined chain c.take_page.new.self.chain c.args.page.now c.reserve.new.self.items c.join_link.new.rows.items c.reserve-2.new.self.items c.join_link.new.streams.items
    (subst (λ (s : List StreamInfo). IsKept chain c.reserve.new.self.items s) (sym c.reserve-2.ensures.items)
    (subst (λ (r : List Row). IsKept chain r c.self.inside.streams.items) (sym c.reserve.ensures.items) c.self.invariant))
    c.in_ok-take_page.ensures.links c.requires.first open' none c.join_link.ensures.packed
    (omega (arith, c.join_link.ensures.rows, c.join_link.new.rows.ok.0, c.reserve.new.self.ok.0)) c.join_link.ensures.last c.join_link.ensures.within

pub invariant_of-self-else-joins : goal.invariant_of-self-else-joins
invariant_of-self-else-joins c =
    let chain : ChainState = c.self.inside.chain.chain in
    let none : fault_of_page chain c.args.page.now ≡ None = sym c.fault_of.ensures ∙ c.in_default.is in
    let closed : is_open chain ≡ false = open_if chain.streams c.streams.result.now false c.is_open-joins.result c.streams.ensures.value c.is_open-joins.ensures c.if-joins.false in
    kept_opened chain c.take_page.new.self.chain c.args.page.now c.reserve.new.self.items c.open_link.new.rows.items c.reserve-2.new.self.items c.open_link.new.streams.items
    (subst (λ (s : List StreamInfo). IsKept chain c.reserve.new.self.items s) (sym c.reserve-2.ensures.items)
    (subst (λ (r : List Row). IsKept chain r c.self.inside.streams.items) (sym c.reserve.ensures.items) c.self.invariant))
    c.in_ok-take_page.ensures.links c.requires.first closed none c.open_link.ensures.packed
    (omega (arith, c.open_link.ensures.rows, c.open_link.new.rows.ok.0, c.reserve.new.self.ok.0)) c.open_link.ensures.last c.open_link.ensures.within

pub returns-then-joins-clause-index : goal.returns-then-joins-clause-index
returns-then-joins-clause-index c = λ links of.
    let chain : ChainState = c.self.inside.chain.chain in
    let page : Page = c.args.page.now in
    let is : chain ≡ chain_state_of links = ap (λ (s : IndexState). s.chain.chain) c.self.view_is ∙ of.chain_is in
    let entries : entries_of c.self.inside.streams.items c.self.inside.rows.items ≡ index_of links = ap (λ (s : IndexState). s.entries) c.self.view_is ∙ of.entries_are in
    let none : fault_of_page chain page ≡ None = sym c.fault_of.ensures ∙ c.in_default.is in
    let open' : is_open chain ≡ true = open_if chain.streams c.streams.result.now true c.is_open-joins.result c.streams.ensures.value c.is_open-joins.ensures c.if-joins.true in
    record {
      chain_is = c.in_ok-take_page.ensures.links links is;
      entries_are = c.join_link.ensures.entries
          ∙ ap (λ (s : List StreamInfo). change_last (joined_entry page) (entries_of s c.reserve.new.self.items)) c.reserve-2.ensures.items
          ∙ ap (λ (r : List Row). change_last (joined_entry page) (entries_of c.self.inside.streams.items r)) c.reserve.ensures.items
          ∙ ap (change_last (joined_entry page)) entries
          ∙ sym (index_joined links page c.requires.first (ap is_open (sym is) ∙ open') (ap (λ (ch : ChainState). fault_of_page ch page) (sym is) ∙ none));
    }

pub returns-else-joins-clause-index : goal.returns-else-joins-clause-index
returns-else-joins-clause-index c = λ links of.
    let chain : ChainState = c.self.inside.chain.chain in
    let page : Page = c.args.page.now in
    let is : chain ≡ chain_state_of links = ap (λ (s : IndexState). s.chain.chain) c.self.view_is ∙ of.chain_is in
    let entries : entries_of c.self.inside.streams.items c.self.inside.rows.items ≡ index_of links = ap (λ (s : IndexState). s.entries) c.self.view_is ∙ of.entries_are in
    let closed : is_open chain ≡ false = open_if chain.streams c.streams.result.now false c.is_open-joins.result c.streams.ensures.value c.is_open-joins.ensures c.if-joins.false in
    record {
      chain_is = c.in_ok-take_page.ensures.links links is;
      entries_are = c.open_link.ensures.entries
          ∙ ap (λ (s : List StreamInfo). entries_of s c.reserve.new.self.items ++ opened_entry c.len-start.result page ∷ []) c.reserve-2.ensures.items
          ∙ ap (λ (r : List Row). entries_of c.self.inside.streams.items r ++ opened_entry c.len-start.result page ∷ []) c.reserve.ensures.items
          ∙ ap (λ (l : List LinkEntry). l ++ opened_entry c.len-start.result page ∷ []) entries
          ∙ ap (λ n. index_of links ++ opened_entry n page ∷ []) (c.len-start.ensures.value ∙ ap (λ (ch : ChainState). ch.length_of) is)
          ∙ sym (index_opened links page c.requires.first (ap is_open (sym is) ∙ closed));
    }
