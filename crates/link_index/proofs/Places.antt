-- The places of links.
use Rattle.std.proofs.Common.{◌≡◌, ℕ, ◌+◌, List, [], ◌∷◌, ◌++◌, length, take, drop, refl, sym, ◌∙◌, ap, subst, arith, Some, Ok}
use Rattle.std.specs.Prelude.{slice_get}
use Rattle.std.specs.List.{concat, AllByRecursion}
use Rattle.std.proofs.lemmas.List.{append-nil}
use Rattle.std.proofs.Math.Seq.{take-append_seam, drop-append_seam}
use Rattle.ogg_page.specs.Page.{Page, IsPage, bytes_of_pages}
use Rattle.ogg_page.specs.PageLaws.{pages_both, bytes_both}
use Rattle.link_chain.specs.Links.{AreLinks}
use Rattle.link_chain.specs.Taking.{AreTaken}
use Rattle.link_chain.specs.LinkLaws.{in_turn, one_chain}
use Rattle.link_index.specs.Adding.{IndexState, IsIndexOf, AddsPages}
use Rattle.link_index.specs.Index.{LinkEntry, link_entry, index_of}
use Rattle.link_index.specs.IndexLaws.{Between, between}
use Rattle.link_index.specs.Pieces.{AreAdded}
use Rattle.link_index.specs.IndexingLaws.{taken_on}
use Rattle.link_chain.specs.Laws.Lengths.{sizes_are}

-- ---- pieces
record Joined (start : List (List Page)) (pieces : List (List ℕ)) (links : List (List Page)) : Type 0 where
  pub pages : List Page
  pub are_pages : AllByRecursion IsPage pages
  pub spelled : concat pieces ≡ bytes_of_pages pages
  pub taken : AreTaken start pages links

joined : (start : List (List Page)) (pieces : List (List ℕ)) (links : List (List Page)) → AreAdded start pieces links → Joined start pieces links
joined start [] links a = record { pages = []; are_pages = tt; spelled = refl; taken = a }
joined start (piece ∷ pieces) links a =
    let rest : Joined a.1 pieces links = joined a.1 pieces links a.5 in
    record {
      pages = a.0 ++ rest.pages;
      are_pages = pages_both a.0 rest.pages a.2 rest.are_pages;
      spelled = ap (λ (b : List ℕ). b ++ concat pieces) a.3 ∙ ap (λ (b : List ℕ). bytes_of_pages a.0 ++ b) rest.spelled ∙ sym (bytes_both a.0 rest.pages);
      taken = taken_on start a.0 rest.pages a.1 links a.4 rest.taken;
    }

pub added_links : (pieces : List (List ℕ)) (links : List (List Page)) → AreAdded [] pieces links → AreLinks (concat pieces) links
added_links pieces links a =
    let j : Joined [] pieces links = joined [] pieces links a in
    subst (λ (b : List ℕ). AreLinks b links) (sym j.spelled) ((in_turn j.pages links j.are_pages).0 j.taken)

pub same_index : (pieces others : List (List ℕ)) (links other_links : List (List Page)) → AreAdded [] pieces links → AreAdded [] others other_links
    → concat pieces ≡ concat others → index_of links ≡ index_of other_links
same_index pieces others links other_links a b same =
    ap index_of (one_chain (concat pieces) links other_links (added_links pieces links a) (subst (λ (x : List ℕ). AreLinks x other_links) (sym same) (added_links others other_links b)))

-- ---- bytes that were added whole
pub whole : (bytes : List ℕ) (index : IndexState) → AddsPages [] bytes index (Ok tt) → (links : List (List Page)) × AreLinks bytes links × IsIndexOf links index × (index.chain.chain.length_of ≡ length bytes)
whole bytes index a =
    let spelled : bytes ≡ bytes_of_pages a.pages = a.spelled ∙ ap (λ (r : List ℕ). bytes_of_pages a.pages ++ r) a.left ∙ append-nil (bytes_of_pages a.pages) in
    let are : AreLinks bytes a.after = subst (λ (b : List ℕ). AreLinks b a.after) (sym spelled) ((in_turn a.pages a.after a.are_pages).0 a.taken) in
    (a.after, are, a.is_index, ap (λ c. c.length_of) a.is_index.chain_is ∙ sizes_are a.after ∙ ap length (sym are.spelled))

-- ---- places
pub tells_place : (bytes : List ℕ) (links : List (List Page)) (number : ℕ) (link : List Page) → AreLinks bytes links → slice_get links number ≡ Some link
    → (entry : LinkEntry) × (slice_get (index_of links) number ≡ Some entry) × (take entry.info.length (drop entry.info.start bytes) ≡ bytes_of_pages link)
tells_place bytes links number link l e =
    let b : Between links number 0 link = between links number 0 link l.pages e in
    let own : List ℕ = bytes_of_pages link in
    let start : ℕ = 0 + length b.before in (
      link_entry start link,
      b.entry,
      ap (λ (x : List ℕ). take (length own) (drop start x)) (l.spelled ∙ b.joined)
          ∙ ap (λ n. take (length own) (drop n (b.before ++ (own ++ b.behind)))) (omega arith)
          ∙ ap (take (length own)) (drop-append_seam b.before (own ++ b.behind))
          ∙ take-append_seam own b.behind,
    )
