use Rattle.std.proofs.Common.{◌≡◌, List, sym, subst}
use Rattle.std.specs.List.{fold}
use Rattle.std.specs.Prelude.{IfOk}
use Rattle.ogg_command.specs.declared.command.Command.TheVariants.{Put as PutOf}
use Rattle.ogg_command.specs.declared.command.Put.{Put}
use Rattle.link_chain.specs.ChainState.{ChainState}
use Rattle.link_chain.specs.declared.stream_state.StreamState.{StreamState}
use Rattle.chain_rules.specs.Encoding.{runs_of, with_run}
use Rattle.chain_rules.specs.Plan.{IsPlanOf}
use Rattle.chain_rules.specs.Shape.{ShapeState}
use Rattle.chain_rules.proofs.Planned.{put_is_planned}
use Rattle.chain_rules.proofs.shape.Shape.plan_put.Goals as goal

pub returns-clause-planned : goal.returns-clause-planned
returns-clause-planned c =
    let put : Put = c.args.put.now in
    let chain : ChainState = c.self.inside.chain.chain in
    subst (λ (s : ShapeState). IfOk c.put.result (λ _. IsPlanOf s.chain (PutOf put) c.put.new.self)) c.self.view_is
    (put_is_planned c.put.result chain put c.put.new.self c.streams.ensures.own
    (c.put.ensures.decides chain (sym c.streams.ensures.value) (sym c.len.ensures.value)) c.put.ensures.size
    (subst (λ (l : List StreamState). IfOk c.put.result (λ _. c.put.new.self.streams ≡ fold with_run l (runs_of put.entries))) c.streams.ensures.value c.put.ensures.streams))
