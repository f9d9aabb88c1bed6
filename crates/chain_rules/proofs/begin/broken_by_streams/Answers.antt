use Rattle.std.proofs.Common.{◌≡◌, ℕ, Bool, true, false, List, ◌+◌, ◌++◌, take, drop, sym, ◌∙◌, ap, Option}
use Rattle.std.specs.Prelude.{is_some}
use Rattle.ogg_command.specs.declared.command.NewStream.{NewStream}
use Rattle.ogg_command.specs.declared.refusal.Refusal.{Refusal}
use Rattle.chain_rules.specs.Begun.{skeleton_serial}
use Rattle.link_chain.specs.Rules.{first_broken}
use Rattle.chain_rules.specs.Decision.{stream_rules, streams_rules}
use Rattle.link_chain.specs.Laws.Rules.{settled_by, passes_by}
use Rattle.chain_rules.proofs.Streams.{before, stream_next}
use Rattle.chain_rules.proofs.begin.broken_by_streams.Goals as goal

pub loop-i-preserved : goal.loop-i-preserved
loop-i-preserved c = λ chain e.
    let i : ℕ = c.loop-i.i in
    let streams : List NewStream = c.args.streams.now in
    let described : Bool = is_some c.args.skeleton in
    let skeleton : List ℕ = skeleton_serial c.args.skeleton in
    let stream : NewStream = c.index-streams-i.result in
    let broken : Option Refusal = c.broken_by_stream-broken.result in
    let own : broken ≡ first_broken (stream_rules chain described (before (take i streams) ++ skeleton) stream) =
    c.broken_by_stream-broken.ensures chain e ∙ ap (λ l. first_broken (stream_rules chain described (before l ++ skeleton) stream)) c.split_at.ensures.front in
    let none : is_some broken ≡ false = sym c.is_some.ensures ∙ c.if-is_some.false in
    c.loop-i.invariant chain e ∙ ap first_broken (stream_next chain described skeleton streams i stream c.loop-i-test.true c.index-streams-i.is)
    ∙ passes_by broken (stream_rules chain described (before (take i streams) ++ skeleton) stream) (streams_rules chain described (before (take (i + 1) streams) ++ skeleton) (drop (i + 1) streams)) own none

pub returns-then-is_some : goal.returns-then-is_some
returns-then-is_some c = λ chain e.
    let i : ℕ = c.loop-i.i in
    let streams : List NewStream = c.args.streams.now in
    let described : Bool = is_some c.args.skeleton in
    let skeleton : List ℕ = skeleton_serial c.args.skeleton in
    let stream : NewStream = c.index-streams-i.result in
    let broken : Option Refusal = c.broken_by_stream-broken.result in
    let own : broken ≡ first_broken (stream_rules chain described (before (take i streams) ++ skeleton) stream) =
    c.broken_by_stream-broken.ensures chain e ∙ ap (λ l. first_broken (stream_rules chain described (before l ++ skeleton) stream)) c.split_at.ensures.front in
    let some : is_some broken ≡ true = sym c.is_some.ensures ∙ c.if-is_some.true in
    settled_by broken (stream_rules chain described (before (take i streams) ++ skeleton) stream) (streams_rules chain described (before (take (i + 1) streams) ++ skeleton) (drop (i + 1) streams)) own some
    ∙ sym (c.loop-i.invariant chain e ∙ ap first_broken (stream_next chain described skeleton streams i stream c.loop-i-test.true c.index-streams-i.is))
