use Rattle.std.proofs.Common.{◌≡◌, ◌-◌, ◌++◌, take, drop, List, length, map, refl, sym, ap, ◌∙◌, subst, arith, vec_len}
use Rattle.link_chain.specs.declared.stream_state.StreamState.{StreamState}
use Rattle.link_chain.specs.ChainState.{ChainState}
use Rattle.link_chain.specs.Room.{ChainWithRoom}
use Rattle.link_chain.specs.Progress.{change_at, left_whole}
use Rattle.link_chain.specs.Places.{HaveOwnSerials}
use Rattle.link_chain.specs.Laws.OwnSerials.{own_stay}
use Rattle.link_chain.specs.Laws.Lent.{given_back}
use Rattle.link_chain.specs.Laws.StateBehind.{chain_of}
use Rattle.link_chain.proofs.chain.Chain.drop_packet.Goals as goal

pub invariant_of-self : goal.invariant_of-self
invariant_of-self c =
    let bytes : c.self.inside.bytes ≡ c.args.self.now.chain.length_of = ap (λ (s : ChainWithRoom). s.chain.length_of) c.self.view_is in
    let streams : List StreamState = c.self.inside.streams.items in
    let after : c.drop_packet.new.streams ≡ map (change_at c.args.serial left_whole) streams =
    c.drop_packet.ensures ∙ ap (map (change_at c.args.serial left_whole)) c.as_mut_slice.ensures.value in
    let as_long : length c.drop_packet.new.streams ≡ vec_len c.self.inside.streams = c.drop_packet.auto.streams ∙ c.as_mut_slice.ensures.len in (
      c.self.invariant.0,
      omega (arith, bytes, c.self.invariant.1),
      subst HaveOwnSerials (sym (given_back c.drop_packet.new.streams streams (vec_len c.self.inside.streams) as_long ∙ after))
          (own_stay c.args.serial left_whole streams (λ s. refl) c.self.invariant.2),
    )

pub returns : goal.returns
returns c =
    let chain : ChainState = c.args.self.now.chain in
    let change : StreamState → StreamState = change_at c.args.serial left_whole in
    let lent : c.as_mut_slice.result.now ≡ chain.streams = c.as_mut_slice.ensures.value ∙ ap (λ (s : ChainWithRoom). s.chain.streams) c.self.view_is in
    let streams : c.drop_packet.new.streams ≡ map change chain.streams = c.drop_packet.ensures ∙ ap (map change) lent in
    let as_long : length c.drop_packet.new.streams ≡ vec_len c.self.inside.streams = c.drop_packet.auto.streams ∙ c.as_mut_slice.ensures.len in
    let after : List StreamState = take (vec_len c.self.inside.streams) (c.drop_packet.new.streams ++ drop (length c.drop_packet.new.streams) c.self.inside.streams.items) in
    ap (chain_of after c.self.inside.has_data c.self.inside.serials.listed c.self.inside.links) c.saturating_sub-self-inside.ensures
    ∙ ap (λ (l : List StreamState). chain_of l c.self.inside.has_data c.self.inside.serials.listed c.self.inside.links (c.self.inside.bytes - c.args.bytes))
    (given_back c.drop_packet.new.streams c.self.inside.streams.items (vec_len c.self.inside.streams) as_long ∙ streams)
    ∙ ap (λ (s : ChainWithRoom). chain_of (map change chain.streams) s.chain.has_data s.chain.serials s.chain.links (s.chain.length_of - c.args.bytes)) c.self.view_is
