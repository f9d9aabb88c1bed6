use Rattle.std.proofs.Common.{◌≡◌, ◌+◌, ◌++◌, [], ◌∷◌, false, List, ℕ, length, sym, ◌∙◌, ap, subst, arith}
use Rattle.ogg_page.specs.Page.{Page, page_size}
use Rattle.link_chain.specs.declared.stream_state.StreamState.{StreamState}
use Rattle.link_chain.specs.Room.{ChainWithRoom}
use Rattle.link_chain.specs.Followed.{entered}
use Rattle.ogg_page.specs.PageLaws.{length-page_bytes}
use Rattle.link_chain.specs.Places.{HaveOwnSerials}
use Rattle.link_chain.specs.Laws.OwnSerials.{own_one}
use Rattle.link_chain.specs.Laws.StateBehind.{chain_of}
use Rattle.link_chain.proofs.chain.Chain.open_link.Goals as goal

pub invariant_of-self-2 : goal.invariant_of-self-2
invariant_of-self-2 c =
    let bytes : c.self.inside.bytes ≡ c.args.self.now.chain.length_of = ap (λ (s : ChainWithRoom). s.chain.length_of) c.self.view_is in
    let size : length c.whole.result.now ≡ page_size c.args.page.now = ap length c.whole.ensures.bytes ∙ length-page_bytes c.args.page.now in (
      omega (arith, c.in_ok-open_link.ensures.count),
      omega (arith, bytes, size, c.requires.long),
      subst HaveOwnSerials (sym c.in_ok-open_link.ensures.streams) (own_one (entered c.args.page.now)),
    )

pub returns-clause-ok : goal.returns-clause-ok
returns-clause-ok c =
    let page : Page = c.args.page.now in
    let size : length c.whole.result.now ≡ page_size page = ap length c.whole.ensures.bytes ∙ length-page_bytes page in
    ap (λ (l : List StreamState). chain_of l false c.open_link.new.serials.listed (c.self.inside.links + 1) (c.self.inside.bytes + length c.whole.result.now)) c.in_ok-open_link.ensures.streams
    ∙ ap (λ (l : List ℕ). chain_of (entered page ∷ []) false l (c.self.inside.links + 1) (c.self.inside.bytes + length c.whole.result.now)) c.in_ok-open_link.ensures.serials
    ∙ ap (λ n. chain_of (entered page ∷ []) false (c.self.inside.serials.listed ++ page.serial ∷ []) (c.self.inside.links + 1) (c.self.inside.bytes + n)) size
    ∙ ap (λ (s : ChainWithRoom). chain_of (entered page ∷ []) false (s.chain.serials ++ page.serial ∷ []) (s.chain.links + 1) (s.chain.length_of + page_size page)) c.self.view_is
