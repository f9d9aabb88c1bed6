use Rattle.std.proofs.Common.{◌≡◌, ◌≤◌, ◌+◌, ℕ, List, refl, sym, ap, ◌∙◌, subst, arith, Ok}
use Rattle.std.specs.Io.KnownBytes.{Appends}
use Rattle.ogg_page.specs.Output.{WritesPart}
use Rattle.link_chain.specs.ChainState.{ChainState}
use Rattle.chain_rules.specs.Decision.{decision}
use Rattle.chain_rules.specs.Encoding.{command_bytes}
use Rattle.ogg_command.specs.Refusal.{code_of}
use Rattle.ogg_command.specs.declared.refusal.Refusal.{Refusal}
use Rattle.ogg_command.specs.declared.refusal.Refusal.TheVariants.{Memory}
use Rattle.feed_mux.specs.Progress.{with_command}
use Rattle.feed_mux.proofs.Kept.{is_kept, kept_reply, only_appended, reached_after, reached_still, still_planned}
use Rattle.feed_mux.proofs.answering.answer.Goals as goal

pub returns-in-Err-clause-full : goal.returns-in-Err-clause-full
returns-in-Err-clause-full g c = λ same room.
    let is : c.in-Err.refusal ≡ Memory = cc same in
    let few : code_of c.in-Err.refusal ≤ 19 =
    (c.refusals_are_of_the_table.ensures c.args.shape.now.chain c.args.command.now c.in-Err.refusal (sym c.in-Err.ensures.decides)).1 in
    absurd (omega (arith, few, ap (λ (r : Refusal). code_of r) is))

pub returns-in-Err-write_whole-clause-err : goal.returns-in-Err-write_whole-clause-err
returns-in-Err-write_whole-clause-err g c = λ before reached.
    let chain : ChainState = c.args.shape.now.chain in
    let own : List ℕ = command_bytes chain c.args.command.now in
    let text : c.as_slice.result.now ≡ own =
    c.as_slice.ensures.value ∙ only_appended c.clear.new.self.items _ c.lay.new.out.items c.clear.ensures.items c.in-Ok-lay.ensures.ok
    ∙ ap (λ (s : ChainState). command_bytes s c.args.command.now) c.prepare.ensures.chain in
    let end : ℕ = chain.length_of + c.in-Ok.field-0 in (
      kept_reply (c.args.count.now + 1) end,
      own,
      with_command before c.args.command.now,
      is_kept chain c.args.count.now before c.args.command.now c.in-Ok.field-0 end reached (sym c.in-Ok.ensures.decides) refl,
      reached_still chain c.prepare.new.self.chain c.args.count.now before reached c.prepare.ensures.chain,
      subst (λ l. WritesPart (g.P.Write.contents c.args.pages.now) (g.P.Write.contents c.write_whole.new.writer) l) text c.in-Err-write_whole.ensures.err,
    )

pub returns-clause-ok : goal.returns-clause-ok
returns-clause-ok g c = λ before reached.
    let chain : ChainState = c.args.shape.now.chain in
    let command = c.args.command.now in
    let size : ℕ = c.in-Ok.field-0 in
    let own : List ℕ = command_bytes chain command in
    let text : c.as_slice.result.now ≡ own =
    c.as_slice.ensures.value ∙ only_appended c.clear.new.self.items _ c.lay.new.out.items c.clear.ensures.items c.in-Ok-lay.ensures.ok
    ∙ ap (λ (s : ChainState). command_bytes s command) c.prepare.ensures.chain in
    let decided : decision c.prepare.new.self.chain command ≡ Ok size = ap (λ (s : ChainState). decision s command) c.prepare.ensures.chain ∙ sym c.in-Ok.ensures.decides in
    let grown : c.len.result ≡ chain.length_of + size =
    c.len.ensures ∙ c.accept_plan.ensures.grows before.links size (c.prepare.ensures.chain ∙ reached.chain_is) decided
    ∙ ap (λ (s : ChainState). s.length_of + size) c.prepare.ensures.chain in (
      own,
      with_command before command,
      is_kept chain c.args.count.now before command size c.len.result reached (sym c.in-Ok.ensures.decides) grown,
      reached_after c.accept_plan.new.self.chain c.args.count.now before command reached.count_is
          (c.accept_plan.ensures.links before.links (c.prepare.ensures.chain ∙ reached.chain_is)),
      subst (λ l. Appends (g.P.Write.contents c.args.pages.now) (g.P.Write.contents c.write_whole.new.writer) l) text c.in-Ok-write_whole.ensures.ok,
    )

pub accept_plan-requires-clause-planned : goal.accept_plan-requires-clause-planned
accept_plan-requires-clause-planned g c = still_planned c.args.shape.now.chain _ c.args.command.now _ c.in-Ok.ensures.planned c.prepare.ensures.chain
