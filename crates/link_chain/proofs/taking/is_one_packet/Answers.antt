use Rattle.std.proofs.Common.{◌-◌, List, ℕ, length, slice_index_or, sym, ◌∙◌, ap}
use Rattle.std.specs.Prelude.{nat_lt, ◌&&◌}
use Rattle.link_chain.proofs.LacingValues.{one_packet_at}
use Rattle.link_chain.proofs.taking.is_one_packet.Goals as goal

pub returns-then-are_full : goal.returns-then-are_full
returns-then-are_full c =
    let lacing : List ℕ = c.args.lacing.now in
    sym (one_packet_at lacing c.in-len1-up.len_at_least
    ∙ ap (λ b. b && nat_lt (slice_index_or lacing (length lacing - 1) 0) 255) (sym c.are_full.ensures ∙ c.if-are_full.true))

pub returns-else-are_full : goal.returns-else-are_full
returns-else-are_full c =
    let lacing : List ℕ = c.args.lacing.now in
    c.if-are_full.false
    ∙ sym (one_packet_at lacing c.in-len1-up.len_at_least
    ∙ ap (λ b. b && nat_lt (slice_index_or lacing (length lacing - 1) 0) 255) (sym c.are_full.ensures ∙ c.if-are_full.false))
