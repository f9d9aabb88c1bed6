-- If nothing waits and no packet is unfinished, the commands hold all links.
use Rattle.std.proofs.Common.{◌≡◌, ◌≢◌, ℕ, ◌<◌, Bool, true, false, cond, List, [], ◌∷◌, ◌++◌, length, map, sym, ◌∙◌, ap, subst, arith, inl, inr}
use Rattle.std.specs.Prelude.{not, ◌&&◌, IsTrue}
use Rattle.std.specs.List.{AllByRecursion, AllZip, filter}
use Rattle.std.proofs.lemmas.Bool.{cases_Bool, cond-true, false≢true}
use Rattle.ogg_page.specs.Page.{Page}
use Rattle.ogg_page.specs.LogicalStream.{is_first}
use Rattle.ogg_page.specs.StreamLaws.{finished}
use Rattle.link_chain.specs.declared.stream_state.StreamState.{StreamState}
use Rattle.link_chain.specs.Links.{IsLink, AreLinks, pages_with, serials_of}
use Rattle.link_chain.specs.Recording.{Stream, Recording, HoldsStream, HoldsLink, HoldsLinks}
use Rattle.link_chain.specs.ChainState.{ChainState, chain_state_of, state_of, last_link, is_open}
use Rattle.link_chain.specs.Laws.LastLink.{last_is_link, any_map}
use Rattle.chain_rules.specs.Recording.{after}
use Rattle.ogg_command.specs.declared.command.Command.{Command}
use Rattle.import_gather.specs.Kept.{KeptStream, KeptLink, has_some, waits}
use Rattle.import_gather.specs.Gathered.{KeepsUp, HoldsSoFar, before_last}
use Rattle.import_gather.proofs.Others.{zip_push, zip_weaker, zip_all}
use Rattle.import_gather.proofs.Pages.{keeps_whole}
use Rattle.import_gather.proofs.Steps.{and_its_last}
use Rattle.import_gather.specs.Laws.{none_kept, nothing_in, serials}
use Rattle.import_gather.proofs.Onward.{state}
use Rattle.link_chain.specs.Laws.LeftWhole.{IsClosed, closed_by_end}

-- ---- a stream that has ended
pub closed_where_ended : (bytes : List ℕ) (links : List (List Page)) → AreLinks bytes links → is_open (chain_state_of links) ≡ false → AllByRecursion (IsClosed (last_link links)) (serials_of (last_link links))
closed_where_ended bytes [] are e = tt
closed_where_ended bytes (link ∷ links) are e =
    let last : List Page = last_link (link ∷ links) in
    closed_by_end last (serials_of last) (last_is_link (link ∷ links) are.each (λ f. cc))
    (sym (any_map (λ (s : StreamState). not s.ended) (state_of last) (serials_of last)) ∙ e)

-- ---- links that hold a recording
pub closed_where_held : (links : List (List Page)) (recording : Recording) → HoldsLinks links recording → AllByRecursion (IsClosed (last_link links)) (serials_of (last_link links))
closed_where_held [] recording h = tt
closed_where_held (link ∷ []) [] h = absurd h
closed_where_held (link ∷ []) (streams ∷ recording) h =
    zip_all (HoldsStream link) (IsClosed link) (λ serial stream s. finished (pages_with serial link) stream.packets s.packets) (serials_of link) streams h.0
closed_where_held (link ∷ next ∷ links) [] h = absurd h
closed_where_held (link ∷ next ∷ links) (streams ∷ recording) h = closed_where_held (next ∷ links) recording h.1

-- ---- all links
no_serials : (firsts others : List Page) → 0 < length firsts → AllByRecursion (λ (page : Page). IsTrue (is_first page)) firsts → serials_of (firsts ++ others) ≡ [] → ⊥
no_serials [] others some marked e = absurd (omega (arith, some))
no_serials (p ∷ firsts) others some marked e =
    let first : serials_of ((p ∷ firsts) ++ others) ≡ p.serial ∷ serials_of (firsts ++ others) =
    ap (map (λ (q : Page). q.serial)) (cond-true (is_first p) (p ∷ filter is_first (firsts ++ others)) (filter is_first (firsts ++ others)) marked.0) in
    apart' (sym first ∙ e)
  where
    apart' : {x : ℕ} {l : List ℕ} → x ∷ l ≡ [] → ⊥
    apart' e = cc

closed_streams : (pages : List Page) (streams : List KeptStream) → AllByRecursion (IsClosed pages) (serials streams) → AllByRecursion (λ (k : KeptStream). IsClosed pages k.serial) streams
closed_streams pages [] h = tt
closed_streams pages (k ∷ streams) h = (h.0, closed_streams pages streams h.1)

last_held : (pages : List Page) (streams : List KeptStream) (held : List Stream) → AllZip (KeepsUp pages) streams held → serials streams ≡ serials_of pages →
    AllByRecursion (IsClosed pages) (serials_of pages) → HoldsLink pages held
last_held pages streams held z order closed =
    subst (λ (l : List ℕ). AllZip (HoldsStream pages) l held) order
    (zip_weaker (λ (k : KeptStream). IsClosed pages k.serial) (KeepsUp pages) (HoldsStream pages) (λ (k : KeptStream). k.serial) (λ k s c u. keeps_whole pages k s c u) streams held
    (closed_streams pages streams (subst (AllByRecursion (IsClosed pages)) (sym order) closed)) z)

not_waiting : (a b : Bool) → (not a && b) ≡ false → a ≡ false → b ≡ false
not_waiting true b e f = cc
not_waiting false b e f = e

pub whole_held : (bytes : List ℕ) (links : List (List Page)) (link : KeptLink) (chain : ChainState) (given : List Command) → AreLinks bytes links →
    HoldsSoFar (before_last links) (last_link links) (state chain link) given → waits link ≡ false → AllByRecursion (IsClosed (last_link links)) (serials_of (last_link links)) →
    HoldsLinks links (after [] given)
whole_held bytes [] link chain given are h w closed =
    let none : link.streams ≡ [] = none_kept link.streams h.order in
    elim (cases_Bool link.begun) [
      | inl begun ↦ absurd (false≢true (sym (ap has_some none) ∙ h.some begun))
      | inr not' ↦ subst (HoldsLinks []) (sym (h.out ∙ ap (λ b. cond b (h.done ++ h.held ∷ []) h.done) not')) h.before
    ]
whole_held bytes (first ∷ links) link chain given are h w closed =
    let all : List (List Page) = first ∷ links in
    let some : all ≢ [] = λ f. cc in
    let last : List Page = last_link all in
    let is : IsLink last = last_is_link all are.each some in
    elim (cases_Bool link.begun) [
      | inl begun ↦
          subst (HoldsLinks all) (sym (h.out ∙ ap (λ b. cond b (h.done ++ h.held ∷ []) h.done) begun))
          (subst (λ (l : List (List Page)). HoldsLinks l (h.done ++ h.held ∷ [])) (and_its_last all some)
          (zip_push HoldsLink (before_last all) h.done last h.held h.before (last_held last link.streams h.held h.last h.order closed)))
      | inr not' ↦
          (let none : link.streams ≡ [] = nothing_in link.streams (not_waiting link.begun (has_some link.streams) w not') in
          absurd (no_serials is.first_pages is.others is.some is.marked (ap serials_of (sym is.split) ∙ sym h.order ∙ ap serials none)))
    ]
