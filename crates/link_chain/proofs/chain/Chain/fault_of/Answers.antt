use Rattle.std.proofs.Common.{sym, ◌∙◌, ap}
use Rattle.link_chain.specs.ChainState.{ChainState}
use Rattle.link_chain.specs.Room.{ChainWithRoom}
use Rattle.link_chain.proofs.chain.Chain.fault_of.Goals as goal

pub returns : goal.returns
returns c =
    let chain : ChainState = c.args.self.now.chain in
    c.broken_by_page.ensures chain (sym (c.as_slice.ensures.value ∙ ap (λ (s : ChainWithRoom). s.chain.streams) c.self.view_is)) (sym (ap (λ (s : ChainWithRoom). s.chain.has_data) c.self.view_is)) (sym (ap (λ (s : ChainWithRoom). s.chain.links) c.self.view_is))
