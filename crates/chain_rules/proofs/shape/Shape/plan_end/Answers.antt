use Rattle.std.proofs.Common.{ℕ, ◌+◌, List, map, sym, ap, ◌∙◌, subst}
use Rattle.ogg_command.specs.declared.command.Command.TheVariants.{End as EndOf}
use Rattle.link_chain.specs.ChainState.{ChainState}
use Rattle.link_chain.specs.Progress.{change_at, ended_by, next_in}
use Rattle.link_chain.specs.declared.stream_state.StreamState.{StreamState}
use Rattle.chain_rules.specs.Plan.{IsPlanOf}
use Rattle.chain_rules.specs.Shape.{ShapeState}
use Rattle.chain_rules.proofs.Planned.{is_planned}
use Rattle.chain_rules.proofs.shape.Shape.plan_end.Goals as goal

pub returns-clause-planned : goal.returns-clause-planned
returns-clause-planned c =
    let serial : ℕ = c.args.serial in
    let chain : ChainState = c.self.inside.chain.chain in
    subst (λ (s : ShapeState). IsPlanOf s.chain (EndOf serial) c.end.new.self) c.self.view_is
    (is_planned chain (EndOf serial) c.end.new.self c.in-Ok.size c.streams.ensures.own
    (sym (c.check_end.ensures.decides chain (sym c.streams.ensures.value) (sym c.len.ensures.value)) ∙ c.in-Ok.is) c.end.ensures.size
    (c.end.ensures.streams ∙ ap (λ (l : List StreamState). map (change_at serial (ended_by (next_in l serial + 1))) l) c.streams-2.ensures.value))
