use Rattle.std.proofs.Common.{◌≡◌, ◌++◌, map, take, drop}
use Rattle.std.specs.Prelude.{reverse, is_some}
use Rattle.link_chain.specs.ChainState.{ChainState}
use Rattle.chain_rules.specs.Begun.{skeleton_serial}
use Rattle.link_chain.specs.Rules.{first_broken}
use Rattle.chain_rules.specs.Decision.{streams_rules}
use Rattle.ogg_command.specs.declared.command.NewStream.{NewStream}
use Rattle.chain_rules.proofs.begin.broken_by_streams.Given as goal

-- the streams so far broke no rule
abbrev pub invariant-loop-i : goal.invariant-loop-i
invariant-loop-i l = (chain : ChainState) → chain.serials ≡ l.serials.listed →
    first_broken (streams_rules chain (is_some l.skeleton) (skeleton_serial l.skeleton) l.streams)
    ≡ first_broken (streams_rules chain (is_some l.skeleton) (reverse (map (λ (s : NewStream). s.serial) (take l.i l.streams)) ++ skeleton_serial l.skeleton) (drop l.i l.streams))
