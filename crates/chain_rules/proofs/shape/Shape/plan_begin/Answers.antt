use Rattle.std.proofs.Common.{◌≡◌, ◌≤◌, ◌+◌, ℕ, false, List, length, sum_by, refl, sym, ap, ◌∙◌, subst, Result, Ok}
use Rattle.std.specs.List.{list_any}
use Rattle.std.specs.Prelude.{IsOk}
use Rattle.ogg_command.specs.declared.command.Command.TheVariants.{Begin as BeginOf}
use Rattle.ogg_command.specs.declared.command.Begin.{Begin}
use Rattle.ogg_command.specs.declared.command.NewStream.{NewStream}
use Rattle.ogg_command.specs.declared.refusal.Refusal.{Refusal}
use Rattle.link_chain.specs.ChainState.{ChainState}
use Rattle.chain_rules.specs.Begun.{skeleton_serial, states_of}
use Rattle.chain_rules.specs.Decision.{decision, header_bytes, has_many_headers}
use Rattle.chain_rules.specs.Limits.{longest_batch}
use Rattle.chain_rules.specs.Plan.{IsPlanOf}
use Rattle.chain_rules.specs.Shape.{ShapeState}
use Rattle.chain_rules.proofs.Kept.{IsKeptBegin, begin_fits}
use Rattle.chain_rules.proofs.Planned.{is_planned}
use Rattle.chain_rules.proofs.shape.Shape.plan_begin.Goals as goal

-- the new link isn't refused
kept_by : (chain : ChainState) (begin : Begin) (answer : Result ℕ Refusal) (size : ℕ) → answer ≡ decision chain (BeginOf begin) → answer ≡ Ok size → IsKeptBegin chain begin
kept_by chain begin answer size decided is = begin_fits chain begin (subst (λ (r : Result ℕ Refusal). IsOk r) (sym (sym decided ∙ is)) refl)

pub streams_of-streams-requires-clause-streams : goal.streams_of-streams-requires-clause-streams
streams_of-streams-requires-clause-streams c =
    subst (λ (l : List NewStream). length l + length (skeleton_serial c.args.begin.now.skeleton) ≤ 64) (sym c.as_slice.ensures)
    (kept_by c.self.inside.chain.chain c.args.begin.now c.check_begin.result c.in-Ok.size
    (c.check_begin.ensures c.self.inside.chain.chain (sym c.streams.ensures.value) (sym c.serials.ensures) (sym c.links.ensures) (sym c.len.ensures.value)) c.in-Ok.is).streams

pub streams_of-streams-requires-clause-short : goal.streams_of-streams-requires-clause-short
streams_of-streams-requires-clause-short c =
    subst (λ (l : List NewStream). sum_by header_bytes l ≤ longest_batch) (sym c.as_slice.ensures)
    (kept_by c.self.inside.chain.chain c.args.begin.now c.check_begin.result c.in-Ok.size
    (c.check_begin.ensures c.self.inside.chain.chain (sym c.streams.ensures.value) (sym c.serials.ensures) (sym c.links.ensures) (sym c.len.ensures.value)) c.in-Ok.is).fits.short

pub streams_of-streams-requires-clause-few : goal.streams_of-streams-requires-clause-few
streams_of-streams-requires-clause-few c =
    subst (λ (l : List NewStream). list_any has_many_headers l ≡ false) (sym c.as_slice.ensures)
    (kept_by c.self.inside.chain.chain c.args.begin.now c.check_begin.result c.in-Ok.size
    (c.check_begin.ensures c.self.inside.chain.chain (sym c.streams.ensures.value) (sym c.serials.ensures) (sym c.links.ensures) (sym c.len.ensures.value)) c.in-Ok.is).fits.few

pub returns-clause-planned : goal.returns-clause-planned
returns-clause-planned c =
    let begin : Begin = c.args.begin.now in
    let chain : ChainState = c.self.inside.chain.chain in
    let decided : c.check_begin.result ≡ decision chain (BeginOf begin) =
    c.check_begin.ensures chain (sym c.streams.ensures.value) (sym c.serials.ensures) (sym c.links.ensures) (sym c.len.ensures.value) in
    subst (λ (s : ShapeState). IsPlanOf s.chain (BeginOf begin) c.set.new.self) c.self.view_is
    (is_planned chain (BeginOf begin) c.set.new.self c.in-Ok.size c.streams.ensures.own (sym decided ∙ c.in-Ok.is) c.set.ensures.size
    (c.set.ensures.streams ∙ c.as_slice-2.ensures.value ∙ c.streams_of-streams.ensures ∙ ap (λ (l : List NewStream). states_of begin.skeleton l) c.as_slice.ensures))
