-- The pages of a link are noted one after the other.
use Rattle.std.proofs.Common.{◌≡◌, ℕ, ◌+◌, ◌<◌, ◌≤◌, List, [], ◌∷◌, ◌++◌, length, drop, map, refl, sym, ◌∙◌, ap, subst, arith, append_assoc, length-append, drop-drop}
use Rattle.std.specs.List.{AllByRecursion}
use Rattle.std.proofs.lemmas.List.{drop_at}
use Rattle.ogg_page.specs.Head.{Stands}
use Rattle.ogg_page.specs.Page.{Page, IsPage, page_bytes, page_size, bytes_of_pages}
use Rattle.ogg_page.specs.PageLaws.{length-page_bytes}
use Rattle.link_chain.specs.Laws.StateBehind.{map-map}
use Rattle.page_heads.specs.Fronts.{facts_of}
use Rattle.serve_live.specs.Noting.{noted, stream_with, HasLeft}
use Rattle.page_heads.specs.declared.front.PageFacts.{PageFacts}
use Rattle.serve_live.specs.declared.joined.JoinedStream.{JoinedStream}
use Rattle.serve_live.specs.declared.joined.LinkPart.{LinkPart}

-- the page that is noted next, and what is left then
pub record NextNoted (bytes : List ℕ) (part : LinkPart) (all : List JoinedStream) (rest : List ℕ) (end place : ℕ) (now : List JoinedStream) : Type 0 where
  pub page : Page
  pub stands : Stands (drop place bytes) page
  pub after : HasLeft bytes part all rest end (place + page_size page) (map (stream_with part (facts_of page)) now)

pub next_noted : (bytes : List ℕ) (part : LinkPart) (all : List JoinedStream) (rest : List ℕ) (end place : ℕ) (now : List JoinedStream) →
    HasLeft bytes part all rest end place now → place < end → NextNoted bytes part all rest end place now
next_noted bytes part all rest end place now h some = from h.pages h.are_pages h.stand h.ends h.noted_all
  where
    from : (pages : List Page) → AllByRecursion IsPage pages → drop place bytes ≡ bytes_of_pages pages ++ rest → place + length (bytes_of_pages pages) ≡ end →
        map (noted part pages) now ≡ all → NextNoted bytes part all rest end place now
    from [] are stand ends noted_all = absurd (omega (arith, ends, some))
    from (page ∷ pages) are stand ends noted_all =
        let own : List ℕ = page_bytes page in
        let size : length own ≡ page_size page = length-page_bytes page in
        let more : List ℕ = bytes_of_pages pages ++ rest in
        let spelled : drop place bytes ≡ own ++ more = stand ∙ append_assoc own (bytes_of_pages pages) rest in
        record {
          page = page;
          stands = record { is_page = are.0; tail = more; spelled = spelled };
          after = record {
            pages = pages;
            are_pages = are.1;
            stand = sym (drop-drop (page_size page) place bytes) ∙ ap (drop (page_size page)) spelled ∙ drop_at own more (page_size page) size;
            ends = omega (arith, ends, length-append own (bytes_of_pages pages), size);
            noted_all = map-map (noted part pages) (stream_with part (facts_of page)) now ∙ noted_all;
          };
        }

pub all_noted : (bytes : List ℕ) (part : LinkPart) (all : List JoinedStream) (rest : List ℕ) (end place : ℕ) (now : List JoinedStream) →
    HasLeft bytes part all rest end place now → end ≤ place → now ≡ all
all_noted bytes part all rest end place now h none = from h.pages h.ends h.noted_all
  where
    same : (streams : List JoinedStream) → map (noted part []) streams ≡ streams
    same [] = refl
    same (s ∷ streams) = ap (λ l. s ∷ l) (same streams)

    from : (pages : List Page) → place + length (bytes_of_pages pages) ≡ end → map (noted part pages) now ≡ all → now ≡ all
    from [] ends e = sym (same now) ∙ e
    from (page ∷ pages) ends e =
        absurd (omega (arith, none, ends, length-append (page_bytes page) (bytes_of_pages pages), length-page_bytes page))

pub noted_on : (bytes : List ℕ) (part : LinkPart) (all : List JoinedStream) (rest : List ℕ) (end place : ℕ) (now new : List JoinedStream) (facts : PageFacts) →
    (n : NextNoted bytes part all rest end place now) → facts ≡ facts_of n.page → new ≡ map (stream_with part facts) now →
    HasLeft bytes part all rest end (place + facts.size) new
noted_on bytes part all rest end place now new facts n facts_is new_is =
    let streams : map (stream_with part (facts_of n.page)) now ≡ new = sym (new_is ∙ ap (λ (f : PageFacts). map (stream_with part f) now) facts_is) in
    subst (λ (f : PageFacts). HasLeft bytes part all rest end (place + f.size) new) (sym facts_is)
    (subst (λ (l : List JoinedStream). HasLeft bytes part all rest end (place + page_size n.page) l) streams n.after)
