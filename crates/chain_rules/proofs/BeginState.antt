-- The chain state after a new link.
use Rattle.std.proofs.Common.{◌≡◌, ℕ, ◌+◌, Bool, List, [], ◌∷◌, ◌++◌, length, map, refl, sym, ◌∙◌, ap, subst, arith, Option, Ok, length-append}
use Rattle.std.specs.Prelude.{not, IsOk}
use Rattle.std.specs.List.{list_any, flat_map}
use Rattle.std.proofs.lemmas.List.{append-nil}
use Rattle.std.proofs.lemmas.List.Concat.{flat_map-append}
use Rattle.std.proofs.lemmas.List.Sums.{sum_by-append, sum_by-cons}
use Rattle.ogg_page.specs.Page.{Page}
use Rattle.ogg_page.specs.LogicalStream.{is_first}
use Rattle.link_chain.specs.declared.stream_state.StreamState.{StreamState}
use Rattle.ogg_command.specs.declared.command.Command.TheVariants.{Begin as BeginOf}
use Rattle.ogg_command.specs.declared.command.Begin.{Begin}
use Rattle.ogg_command.specs.declared.command.NewStream.{NewStream}
use Rattle.ogg_command.specs.declared.command.SkeletonHead.{SkeletonHead}
use Rattle.link_chain.specs.Links.{serials_of}
use Rattle.link_chain.specs.ChainState.{ChainState, chain_state_of, state_of}
use Rattle.chain_rules.specs.Decision.{decision}
use Rattle.chain_rules.specs.Encoding.{pages_of_begin, pages_of_command, links_after}
use Rattle.link_chain.specs.Size.{size_of_pages}
use Rattle.chain_rules.specs.Begun.{states_of, serials_in, has_more_pages}
use Rattle.chain_rules.proofs.BeginHeld.{HasText, begin_link}
use Rattle.link_chain.specs.Laws.StateBehind.{last_is, chain_of, size_of_links}

abbrev pub behind_begin : ChainState → Option SkeletonHead → List NewStream → ChainState
behind_begin chain skeleton streams =
    record {
      streams = states_of skeleton streams;
      has_data = has_more_pages skeleton streams;
      serials = chain.serials ++ serials_in skeleton streams;
      links = chain.links + 1;
      length_of = chain.length_of + size_of_pages (pages_of_begin skeleton streams);
    }

pub begin_state : (links : List (List Page)) (begin : Begin) (size : ℕ) → HasText begin.skeleton → decision (chain_state_of links) (BeginOf begin) ≡ Ok size →
    chain_state_of (links_after links (BeginOf begin)) ≡ behind_begin (chain_state_of links) begin.skeleton begin.streams
unfolding pages_of_command
begin_state links begin size text e =
    let chain : ChainState = chain_state_of links in
    let link : List Page = pages_of_begin begin.skeleton begin.streams in
    let states : List StreamState = states_of begin.skeleton begin.streams in
    let more : Bool = has_more_pages begin.skeleton begin.streams in
    let own : List ℕ = serials_in begin.skeleton begin.streams in
    let all : List (List Page) = links ++ link ∷ [] in
    let is = begin_link chain begin (subst (λ r. IsOk r) (sym e) refl) text in
    let serials : flat_map serials_of all ≡ chain.serials ++ own =
    flat_map-append serials_of links (link ∷ []) ∙ ap (λ l. chain.serials ++ l) (append-nil (serials_of link) ∙ is.serials_are) in
    let count : length all ≡ length links + 1 = length-append links (link ∷ []) in
    let longer : size_of_links all ≡ size_of_links links + size_of_pages link =
    sum_by-append size_of_pages links (link ∷ []) ∙ ap (λ n. size_of_links links + n) (sum_by-cons size_of_pages link [] ∙ omega arith) in
    ap (λ (l : List Page). chain_of (map (state_of l) (serials_of l)) (list_any (λ page. not (is_first page)) l) (flat_map serials_of all) (length all) (size_of_links all)) (last_is links link)
    ∙ ap (λ l. chain_of l (list_any (λ page. not (is_first page)) link) (flat_map serials_of all) (length all) (size_of_links all)) is.states
    ∙ ap (λ b. chain_of states b (flat_map serials_of all) (length all) (size_of_links all)) is.has_data
    ∙ ap (λ l. chain_of states more l (length all) (size_of_links all)) serials
    ∙ ap (λ n. chain_of states more (chain.serials ++ own) n (size_of_links all)) count
    ∙ ap (λ n. chain_of states more (chain.serials ++ own) (length links + 1) n) longer
