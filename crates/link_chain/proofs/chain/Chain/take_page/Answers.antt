use Rattle.std.proofs.Common.{sym, ◌∙◌}
use Rattle.link_chain.specs.Laws.PageState.{later_state, opened_state, joined_state, joins_few, joins_fresh, opens_few}
use Rattle.link_chain.proofs.chain.Chain.take_page.Goals as goal

pub join_link-requires-clause-few : goal.join_link-requires-clause-few
join_link-requires-clause-few c =
    joins_few c.args.self.now.chain c.args.page.now (sym c.is_first.ensures ∙ c.if-not-is_first.false) (sym c.is_open.ensures ∙ c.if-is_open.true) (sym c.fault_of.ensures ∙ c.in_default.is)

pub join_link-requires-clause-fresh : goal.join_link-requires-clause-fresh
join_link-requires-clause-fresh c =
    joins_fresh c.args.self.now.chain c.args.page.now (sym c.is_first.ensures ∙ c.if-not-is_first.false) (sym c.is_open.ensures ∙ c.if-is_open.true) (sym c.fault_of.ensures ∙ c.in_default.is)

pub open_link-requires-clause-few : goal.open_link-requires-clause-few
open_link-requires-clause-few c =
    opens_few c.args.self.now.chain c.args.page.now (sym c.is_first.ensures ∙ c.if-not-is_first.false) (sym c.is_open.ensures ∙ c.if-is_open.false) (sym c.fault_of.ensures ∙ c.in_default.is)

pub returns-then-not-is_first-clause-links : goal.returns-then-not-is_first-clause-links
returns-then-not-is_first-clause-links c = λ links is.
    c.continue_link.ensures ∙ sym (later_state c.args.self.now.chain links c.args.page.now is (sym c.is_first.ensures ∙ c.if-not-is_first.true) (sym c.fault_of.ensures ∙ c.in_default.is))

pub returns-in_ok-join_link-clause-links : goal.returns-in_ok-join_link-clause-links
returns-in_ok-join_link-clause-links c = λ links is.
    c.in_ok-join_link.ensures.ok
    ∙ sym (joined_state c.args.self.now.chain links c.args.page.now is (sym c.is_first.ensures ∙ c.if-not-is_first.false) (sym c.is_open.ensures ∙ c.if-is_open.true) (sym c.fault_of.ensures ∙ c.in_default.is))

pub returns-in_ok-open_link-clause-links : goal.returns-in_ok-open_link-clause-links
returns-in_ok-open_link-clause-links c = λ links is.
    c.in_ok-open_link.ensures.ok
    ∙ sym (opened_state c.args.self.now.chain links c.args.page.now is (sym c.is_first.ensures ∙ c.if-not-is_first.false) (sym c.is_open.ensures ∙ c.if-is_open.false))
