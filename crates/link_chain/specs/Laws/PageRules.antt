-- The rules that a page keeps if it may follow.
use Rattle.std.proofs.Common.{◌≡◌, true, false, cond, sym, ◌∙◌, ap, None}
use Rattle.std.proofs.lemmas.Bool.{cond-true, cond-false}
use Rattle.ogg_page.specs.Page.{Page}
use Rattle.ogg_page.specs.LogicalStream.{is_first}
use Rattle.link_chain.specs.ChainState.{ChainState, is_open}
use Rattle.link_chain.specs.Rules.{first_broken}
use Rattle.link_chain.specs.Taking.{fault_of_page, rules_for_page, opening_rules, joining_rules, later_rules}
use Rattle.link_chain.specs.Laws.Rules.{NoneBroken, none_broken, no_fault}

later_are : (chain : ChainState) (page : Page) → is_first page ≡ false → rules_for_page chain page ≡ later_rules chain page
later_are chain page later = cond-false (is_first page) (cond (is_open chain) (joining_rules chain page) (opening_rules chain page)) (later_rules chain page) later

first_are : (chain : ChainState) (page : Page) → is_first page ≡ true → rules_for_page chain page ≡ cond (is_open chain) (joining_rules chain page) (opening_rules chain page)
first_are chain page first = cond-true (is_first page) (cond (is_open chain) (joining_rules chain page) (opening_rules chain page)) (later_rules chain page) first

joining_are : (chain : ChainState) (page : Page) → is_first page ≡ true → is_open chain ≡ true → rules_for_page chain page ≡ joining_rules chain page
joining_are chain page first open' = first_are chain page first ∙ cond-true (is_open chain) (joining_rules chain page) (opening_rules chain page) open'

opening_are : (chain : ChainState) (page : Page) → is_first page ≡ true → is_open chain ≡ false → rules_for_page chain page ≡ opening_rules chain page
opening_are chain page first closed = first_are chain page first ∙ cond-false (is_open chain) (joining_rules chain page) (opening_rules chain page) closed

pub later_kept : (chain : ChainState) (page : Page) → is_first page ≡ false → fault_of_page chain page ≡ None → NoneBroken (later_rules chain page)
unfolding fault_of_page
later_kept chain page later e = none_broken (later_rules chain page) (ap first_broken (sym (later_are chain page later)) ∙ e)

pub joining_kept : (chain : ChainState) (page : Page) → is_first page ≡ true → is_open chain ≡ true → fault_of_page chain page ≡ None → NoneBroken (joining_rules chain page)
unfolding fault_of_page
joining_kept chain page first open' e = none_broken (joining_rules chain page) (ap first_broken (sym (joining_are chain page first open')) ∙ e)

pub opening_kept : (chain : ChainState) (page : Page) → is_first page ≡ true → is_open chain ≡ false → fault_of_page chain page ≡ None → NoneBroken (opening_rules chain page)
unfolding fault_of_page
opening_kept chain page first closed e = none_broken (opening_rules chain page) (ap first_broken (sym (opening_are chain page first closed)) ∙ e)

pub later_none : (chain : ChainState) (page : Page) → is_first page ≡ false → NoneBroken (later_rules chain page) → fault_of_page chain page ≡ None
unfolding fault_of_page
later_none chain page later h = ap first_broken (later_are chain page later) ∙ no_fault (later_rules chain page) h

pub joining_none : (chain : ChainState) (page : Page) → is_first page ≡ true → is_open chain ≡ true → NoneBroken (joining_rules chain page) → fault_of_page chain page ≡ None
unfolding fault_of_page
joining_none chain page first open' h = ap first_broken (joining_are chain page first open') ∙ no_fault (joining_rules chain page) h

pub opening_none : (chain : ChainState) (page : Page) → is_first page ≡ true → is_open chain ≡ false → NoneBroken (opening_rules chain page) → fault_of_page chain page ≡ None
unfolding fault_of_page
opening_none chain page first closed h = ap first_broken (opening_are chain page first closed) ∙ no_fault (opening_rules chain page) h
