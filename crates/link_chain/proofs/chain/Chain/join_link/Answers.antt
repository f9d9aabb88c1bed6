use Rattle.std.proofs.Common.{◌≡◌, ◌+◌, ◌++◌, [], ◌∷◌, List, ℕ, length, None, sym, ◌∙◌, ap, subst, arith}
use Rattle.ogg_page.specs.Page.{Page, page_size}
use Rattle.link_chain.specs.declared.stream_state.StreamState.{StreamState}
use Rattle.link_chain.specs.Room.{ChainWithRoom}
use Rattle.link_chain.specs.Followed.{entered}
use Rattle.ogg_page.specs.PageLaws.{length-page_bytes}
use Rattle.link_chain.specs.Progress.{stream_in}
use Rattle.link_chain.specs.Places.{HaveOwnSerials}
use Rattle.link_chain.specs.Laws.OwnSerials.{own_push}
use Rattle.link_chain.specs.Laws.StateBehind.{chain_of}
use Rattle.link_chain.proofs.chain.Chain.join_link.Goals as goal

pub invariant_of-self-2 : goal.invariant_of-self-2
invariant_of-self-2 c =
    let bytes : c.self.inside.bytes ≡ c.args.self.now.chain.length_of = ap (λ (s : ChainWithRoom). s.chain.length_of) c.self.view_is in
    let count : length c.self.inside.streams.items ≡ length c.args.self.now.chain.streams = ap (λ (s : ChainWithRoom). length s.chain.streams) c.self.view_is in
    let size : length c.whole.result.now ≡ page_size c.args.page.now = ap length c.whole.ensures.bytes ∙ length-page_bytes c.args.page.now in
    let page : Page = c.args.page.now in
    let fresh : stream_in c.self.inside.streams.items page.serial ≡ None =
    ap (λ (s : ChainWithRoom). stream_in s.chain.streams page.serial) c.self.view_is ∙ c.requires.fresh in (
      omega (arith, c.in_ok-join_link.ensures.count, count, c.self.inside.streams.ok.0, c.requires.few),
      omega (arith, bytes, size, c.requires.long),
      subst HaveOwnSerials (sym c.in_ok-join_link.ensures.streams) (own_push c.self.inside.streams.items (entered page) c.self.invariant.2 fresh),
    )

pub returns-clause-ok : goal.returns-clause-ok
returns-clause-ok c =
    let page : Page = c.args.page.now in
    let size : length c.whole.result.now ≡ page_size page = ap length c.whole.ensures.bytes ∙ length-page_bytes page in
    ap (λ (l : List StreamState). chain_of l c.self.inside.has_data c.join_link.new.serials.listed c.self.inside.links (c.self.inside.bytes + length c.whole.result.now)) c.in_ok-join_link.ensures.streams
    ∙ ap (λ (l : List ℕ). chain_of (c.self.inside.streams.items ++ entered page ∷ []) c.self.inside.has_data l c.self.inside.links (c.self.inside.bytes + length c.whole.result.now)) c.in_ok-join_link.ensures.serials
    ∙ ap (λ n. chain_of (c.self.inside.streams.items ++ entered page ∷ []) c.self.inside.has_data (c.self.inside.serials.listed ++ page.serial ∷ []) c.self.inside.links (c.self.inside.bytes + n)) size
    ∙ ap (λ (s : ChainWithRoom). chain_of (s.chain.streams ++ entered page ∷ []) s.chain.has_data (s.chain.serials ++ page.serial ∷ []) s.chain.links (s.chain.length_of + page_size page)) c.self.view_is
