use Rattle.std.proofs.Common.{◌≡◌, false, List, length, sym, ◌∙◌, ap, subst, arith, None, vec_len}
use Rattle.std.specs.Prelude.{Result, Ok, Err, ⊤}
use Rattle.ogg_page.specs.Page.{Page}
use Rattle.ogg_page.specs.PageLaws.{length-page_bytes}
use Rattle.ogg_page.specs.LogicalStream.{is_first}
use Rattle.link_chain.specs.ChainState.{ChainState, chain_state_of}
use Rattle.link_chain.specs.Taking.{fault_of_page}
use Rattle.link_chain.specs.Laws.Walked.{no_fault_there}
use Rattle.link_chain.specs.declared.chain_fault.ChainFault.{ChainFault}
use Rattle.link_index.specs.declared.info.StreamInfo.{StreamInfo}
use Rattle.link_index.specs.Adding.{IndexState}
use Rattle.link_index.specs.Index.{index_of}
use Rattle.link_index.specs.Growth.{continued_entry, change_last}
use Rattle.link_index.specs.Rows.{AreWithin, IsKept, entries_of}
use Rattle.link_index.proofs.Growing.{index_later}
use Rattle.link_index.proofs.Keeping.{kept_later}
use Rattle.link_chain.specs.Laws.Lent.{given_back}
use Rattle.link_index.proofs.index.Index.add_page.Goals as goal

no_fault_if : (result : Result ⊤ ChainFault) (done : ⊤) (fault : ChainFault) → result ≡ Ok done → result ≡ Err fault → ⊥
no_fault_if result done fault a b = cc

pub continue_link-requires-clause-within : goal.continue_link-requires-clause-within
continue_link-requires-clause-within c = (
  c.self.inside.chain.chain.length_of,
  subst (AreWithin c.self.inside.chain.chain.length_of c.self.inside.rows.items) (sym c.as_mut_slice.ensures.value) c.self.invariant.within,
  omega (arith, c.requires, ap (λ (s : IndexState). s.chain.chain.length_of) c.self.view_is, length-page_bytes c.args.page.now),
)

pub invariant_of-self-else-is_first : goal.invariant_of-self-else-is_first
invariant_of-self-else-is_first c =
    let chain : ChainState = c.self.inside.chain.chain in
    let page : Page = c.args.page.now in
    let streams : List StreamInfo = c.self.inside.streams.items in
    let now : List StreamInfo = c.continue_link.new.streams in
    let later : is_first page ≡ false = sym c.is_first.ensures ∙ c.if-is_first.false in
    let none : fault_of_page chain page ≡ None = no_fault_there _ (λ fault e. no_fault_if c.take_page.result c.in_ok-take_page.field-0 fault c.in_ok-take_page.was (c.take_page.ensures.fault fault e)) in
    let as_long : length now ≡ vec_len c.self.inside.streams = c.continue_link.auto.streams ∙ c.as_mut_slice.ensures.len in
    subst (IsKept c.take_page.new.self.chain c.continue_link.new.rows.items) (sym (given_back now streams (vec_len c.self.inside.streams) as_long))
    (kept_later chain c.take_page.new.self.chain page c.self.inside.rows.items c.continue_link.new.rows.items c.as_mut_slice.result.now now
    (subst (IsKept chain c.self.inside.rows.items) (sym c.as_mut_slice.ensures.value) c.self.invariant)
    c.in_ok-take_page.ensures.links later none c.continue_link.ensures.packed
    (omega (arith, c.continue_link.ensures.rows, c.continue_link.new.rows.ok.0, c.self.inside.rows.ok.0)) c.continue_link.ensures.last c.continue_link.ensures.within)

pub returns-in_ok-take_page-clause-index : goal.returns-in_ok-take_page-clause-index
returns-in_ok-take_page-clause-index c = λ links of.
    let chain : ChainState = c.self.inside.chain.chain in
    let page : Page = c.args.page.now in
    let streams : List StreamInfo = c.self.inside.streams.items in
    let now : List StreamInfo = c.continue_link.new.streams in
    let later : is_first page ≡ false = sym c.is_first.ensures ∙ c.if-is_first.false in
    let is : chain ≡ chain_state_of links = ap (λ (s : IndexState). s.chain.chain) c.self.view_is ∙ of.chain_is in
    let entries : entries_of streams c.self.inside.rows.items ≡ index_of links = ap (λ (s : IndexState). s.entries) c.self.view_is ∙ of.entries_are in
    let none : fault_of_page chain page ≡ None = no_fault_there _ (λ fault e. no_fault_if c.take_page.result c.in_ok-take_page.field-0 fault c.in_ok-take_page.was (c.take_page.ensures.fault fault e)) in
    let as_long : length now ≡ vec_len c.self.inside.streams = c.continue_link.auto.streams ∙ c.as_mut_slice.ensures.len in
    record {
      chain_is = c.in_ok-take_page.ensures.links links is;
      entries_are = ap (λ (s : List StreamInfo). entries_of s c.continue_link.new.rows.items) (given_back now streams (vec_len c.self.inside.streams) as_long)
          ∙ c.continue_link.ensures.entries
          ∙ ap (λ (s : List StreamInfo). change_last (continued_entry page) (entries_of s c.self.inside.rows.items)) c.as_mut_slice.ensures.value
          ∙ ap (change_last (continued_entry page)) entries
          ∙ sym (index_later links page later (ap (λ (ch : ChainState). fault_of_page ch page) (sym is) ∙ none));
    }
