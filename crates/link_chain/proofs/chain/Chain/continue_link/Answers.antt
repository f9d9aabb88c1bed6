use Rattle.std.proofs.Common.{◌≡◌, ◌+◌, true, List, length, map, refl, sym, ◌∙◌, ap, subst, arith, vec_len}
use Rattle.ogg_page.specs.Page.{Page, page_size}
use Rattle.link_chain.specs.declared.stream_state.StreamState.{StreamState}
use Rattle.link_chain.specs.ChainState.{ChainState}
use Rattle.link_chain.specs.Room.{ChainWithRoom}
use Rattle.link_chain.specs.Progress.{change_at}
use Rattle.link_chain.specs.Followed.{followed}
use Rattle.ogg_page.specs.PageLaws.{length-page_bytes}
use Rattle.link_chain.specs.Places.{HaveOwnSerials}
use Rattle.link_chain.specs.Laws.OwnSerials.{own_stay}
use Rattle.link_chain.specs.Laws.Lent.{given_back}
use Rattle.link_chain.specs.Laws.StateBehind.{chain_of}
use Rattle.link_chain.proofs.chain.Chain.continue_link.Goals as goal

pub invariant_of-self : goal.invariant_of-self
invariant_of-self c =
    let bytes : c.self.inside.bytes ≡ c.args.self.now.chain.length_of = ap (λ (s : ChainWithRoom). s.chain.length_of) c.self.view_is in
    let size : length c.whole.result.now ≡ page_size c.args.page.now = ap length c.whole.ensures.bytes ∙ length-page_bytes c.args.page.now in
    let page : Page = c.args.page.now in
    let streams : List StreamState = c.self.inside.streams.items in
    let after : c.follow.new.streams ≡ map (change_at page.serial (followed page)) streams =
    c.follow.ensures ∙ ap (map (change_at page.serial (followed page))) c.as_mut_slice.ensures.value in
    let as_long : length c.follow.new.streams ≡ vec_len c.self.inside.streams = c.follow.auto.streams ∙ c.as_mut_slice.ensures.len in (
      c.self.invariant.0,
      omega (arith, bytes, size, c.requires),
      subst HaveOwnSerials (sym (given_back c.follow.new.streams streams (vec_len c.self.inside.streams) as_long ∙ after))
          (own_stay page.serial (followed page) streams (λ s. refl) c.self.invariant.2),
    )

pub returns : goal.returns
returns c =
    let chain : ChainState = c.args.self.now.chain in
    let page : Page = c.args.page.now in
    let change : StreamState → StreamState = change_at page.serial (followed page) in
    let lent : c.as_mut_slice.result.now ≡ chain.streams = c.as_mut_slice.ensures.value ∙ ap (λ (s : ChainWithRoom). s.chain.streams) c.self.view_is in
    let streams : c.follow.new.streams ≡ map change chain.streams = c.follow.ensures ∙ ap (map change) lent in
    let as_long : length c.follow.new.streams ≡ vec_len c.self.inside.streams = c.follow.auto.streams ∙ c.as_mut_slice.ensures.len in
    let size : length c.whole.result.now ≡ page_size page = ap length c.whole.ensures.bytes ∙ length-page_bytes page in
    ap (λ (l : List StreamState). chain_of l true c.self.inside.serials.listed c.self.inside.links (c.self.inside.bytes + length c.whole.result.now))
    (given_back c.follow.new.streams c.self.inside.streams.items (vec_len c.self.inside.streams) as_long ∙ streams)
    ∙ ap (λ n. chain_of (map change chain.streams) true c.self.inside.serials.listed c.self.inside.links (c.self.inside.bytes + n)) size
    ∙ ap (λ (s : ChainWithRoom). chain_of (map change chain.streams) true s.chain.serials s.chain.links (s.chain.length_of + page_size page)) c.self.view_is
