use Rattle.std.proofs.Common.{true, [], ◌∷◌, sym, ◌∙◌}
use Rattle.chain_rules.specs.Decision.{skeleton_rules, streams_rules}
use Rattle.link_chain.specs.Laws.Rules.{settled_by, passes_by}
use Rattle.chain_rules.proofs.begin.broken_by_described.Goals as goal

pub returns-then-is_some : goal.returns-then-is_some
returns-then-is_some c = λ chain e.
    settled_by c.broken_by_skeleton-broken.result (skeleton_rules chain c.args.head) (streams_rules chain true (c.args.head.serial ∷ []) c.args.streams.now)
    (c.broken_by_skeleton-broken.ensures chain e) (sym c.is_some.ensures ∙ c.if-is_some.true)

pub returns : goal.returns
returns c = λ chain e.
    c.broken_by_streams.ensures chain e
    ∙ sym (passes_by c.broken_by_skeleton-broken.result (skeleton_rules chain c.args.head) (streams_rules chain true (c.args.head.serial ∷ []) c.args.streams.now)
    (c.broken_by_skeleton-broken.ensures chain e) (sym c.is_some.ensures ∙ c.if-is_some.false))
