use Rattle.std.proofs.Common.{◌≡◌, ◌≤◌, ◌+◌, ℕ, [], sym, ap, ◌∙◌, arith, Ok}
use Rattle.link_chain.specs.ChainState.{ChainState}
use Rattle.chain_rules.specs.Decision.{decision}
use Rattle.chain_rules.specs.Encoding.{command_bytes}
use Rattle.ogg_command.specs.Refusal.{code_of}
use Rattle.ogg_command.specs.declared.refusal.Refusal.{Refusal}
use Rattle.ogg_command.specs.declared.refusal.Refusal.TheVariants.{Memory}
use Rattle.feed_mux.specs.Progress.{with_command}
use Rattle.feed_mux.proofs.Kept.{is_kept, is_refused, lacks_memory, reached_after, reached_still, still_planned}
use Rattle.feed_mux.proofs.checking.check_command.Goals as goal

pub returns-in-Err-clause-full : goal.returns-in-Err-clause-full
returns-in-Err-clause-full c = λ same room.
    let is : c.in-Err.refusal ≡ Memory = cc same in
    let few : code_of c.in-Err.refusal ≤ 19 =
    (c.refusals_are_of_the_table.ensures c.args.shape.now.chain c.args.command.now c.in-Err.refusal (sym c.in-Err.ensures.decides)).1 in
    absurd (omega (arith, few, ap (λ (r : Refusal). code_of r) is))

pub returns-in-Err-clause-reply : goal.returns-in-Err-clause-reply
returns-in-Err-clause-reply c = λ before reached.
    ([], before, is_refused c.args.shape.now.chain c.args.count.now before c.args.command.now c.in-Err.refusal reached (sym c.in-Err.ensures.decides), reached)

pub returns-in-Err-prepare-clause-reply : goal.returns-in-Err-prepare-clause-reply
returns-in-Err-prepare-clause-reply c = λ before reached. (
  [],
  before,
  lacks_memory c.args.shape.now.chain c.args.count.now before c.args.command.now c.in-Ok.field-0 reached (sym c.in-Ok.ensures.decides),
  reached_still c.args.shape.now.chain c.prepare.new.self.chain c.args.count.now before reached c.prepare.ensures.chain,
)

pub returns-clause-reply : goal.returns-clause-reply
returns-clause-reply c = λ before reached.
    let chain : ChainState = c.args.shape.now.chain in
    let command = c.args.command.now in
    let size : ℕ = c.in-Ok.field-0 in
    let decided : decision c.prepare.new.self.chain command ≡ Ok size = ap (λ (s : ChainState). decision s command) c.prepare.ensures.chain ∙ sym c.in-Ok.ensures.decides in
    let grown : c.len.result ≡ chain.length_of + size =
    c.len.ensures ∙ c.accept_plan.ensures.grows before.links size (c.prepare.ensures.chain ∙ reached.chain_is) decided
    ∙ ap (λ (s : ChainState). s.length_of + size) c.prepare.ensures.chain in (
      command_bytes chain command,
      with_command before command,
      is_kept chain c.args.count.now before command size c.len.result reached (sym c.in-Ok.ensures.decides) grown,
      reached_after c.accept_plan.new.self.chain c.args.count.now before command reached.count_is
          (c.accept_plan.ensures.links before.links (c.prepare.ensures.chain ∙ reached.chain_is)),
    )

pub accept_plan-requires-clause-planned : goal.accept_plan-requires-clause-planned
accept_plan-requires-clause-planned c = still_planned c.args.shape.now.chain _ c.args.command.now _ c.in-Ok.ensures.planned c.prepare.ensures.chain
