-- What is heard is a chain of links, up to any of its pages, and grows.
use Rattle.std.proofs.Common.{◌≡◌, ℕ, ◌+◌, ◌<◌, ◌≤◌, true, List, [], ◌∷◌, ◌++◌, length, map, refl, sym, ◌∙◌, ap, subst, arith, append_assoc, length-append, inl, inr}
use Rattle.std.specs.List.{AllByRecursion, flat_map}
use Rattle.std.proofs.lemmas.Bool.{cases_Bool, cond-true, cond-false}
use Rattle.ogg_page.specs.Page.{Page, IsPage, bytes_of_pages}
use Rattle.ogg_page.specs.LogicalStream.{is_first}
use Rattle.link_chain.specs.Links.{IsLink, AreLinks, AllButLast, all_ended, flattened}
use Rattle.link_chain.specs.Recording.{Stream, Recording, HoldsLink, HoldsLinks}
use Rattle.link_chain.specs.Taking.{AreTaken}
use Rattle.link_chain.specs.LinkLaws.{in_turn, only, pages_flattened}
use Rattle.link_chain.specs.Laws.LastLink.{all_split}
use Rattle.link_chain.specs.Laws.Fronts.{page_fits}
use Rattle.link_chain.specs.Laws.InTurn.{bytes_flattened}
use Rattle.serve_live.specs.Heard.{gap, heard_page, heard_after, heard, heard_bytes, heard_link, end_pages, named_after, named_page}
use Rattle.serve_live.specs.Names.{plain}
use Rattle.serve_live.specs.declared.names.StreamName.{StreamName}
use Rattle.serve_live.specs.Joining.{AreLater, IsJoined, heard_streams}
use Rattle.serve_live.proofs.OneLink.{is_link, are_pages, still_ended, held_link}
use Rattle.link_chain.specs.Laws.TakenLinks.{taken_front}

-- ---- pages and links
-- the pages of links begin with a stream's first page, if there are any
from_link : (gaps : ℕ → ℕ) (further : List (List Page)) → AllByRecursion IsLink further → heard_after gaps (flattened further) ≡ flattened further
from_link gaps [] each = refl
from_link gaps ([] ∷ further) each =
    (let l : IsLink [] = each.0 in
    let n : 0 < length l.first_pages = l.some in
    let e : length l.first_pages + length l.others ≡ 0 = sym (length-append l.first_pages l.others) ∙ ap length (sym l.split) in
    absurd (omega arith))
from_link gaps ((page ∷ pages) ∷ further) each =
    cond-true (is_first page) (page ∷ (pages ++ flattened further)) (heard_page gaps page ∷ heard_after gaps (pages ++ flattened further))
    ((page_fits [] page pages each.0).first.1 refl)

pub heard_is : (gaps : ℕ → ℕ) (later : List Page) (further : List (List Page)) → AreLater later → AllByRecursion IsLink further →
    heard_after gaps (later ++ flattened further) ≡ map (heard_page gaps) later ++ flattened further
heard_is gaps [] further unmarked each = from_link gaps further each
heard_is gaps (page ∷ later) further unmarked each =
    cond-false (is_first page) (page ∷ (later ++ flattened further)) (heard_page gaps page ∷ heard_after gaps (later ++ flattened further)) unmarked.0
    ∙ ap (λ l. heard_page gaps page ∷ l) (heard_is gaps later further unmarked.1 each)

pub heard_flattened : (begin passed later : List Page) (further : List (List Page)) → AreLater later → AllByRecursion IsLink further →
    heard begin passed (later ++ flattened further) ≡ flattened (heard_link begin passed later ∷ further)
heard_flattened begin passed later further unmarked each =
    ap (λ l. begin ++ (end_pages begin passed ++ l)) (heard_is (gap begin passed) later further unmarked each)
    ∙ ap (λ l. begin ++ l) (sym (append_assoc (end_pages begin passed) (map (heard_page (gap begin passed)) later) (flattened further)))
    ∙ sym (append_assoc begin (end_pages begin passed ++ map (heard_page (gap begin passed)) later) (flattened further))

-- ---- links
last_back : (P : List Page → Type 0) (before : List (List Page)) (link : List Page) (further : List (List Page)) → AllButLast P (before ++ link ∷ further) → AllButLast P (link ∷ further)
last_back P [] link further h = h
last_back P (b ∷ []) link further h = h.1
last_back P (b ∷ c ∷ before) link further h = last_back P (c ∷ before) link further h.1

new_ended : (P : List Page → Type 0) (link new : List Page) (further : List (List Page)) → (P link → P new) → AllButLast P (link ∷ further) → AllButLast P (new ∷ further)
new_ended P link new [] f h = tt
new_ended P link new (next ∷ further) f h = (f h.0, h.1)

abbrev joined_links : List (List Page) → List Page → List Page → List Page → List (List Page) → List (List Page)
joined_links before begin passed later further = before ++ (begin ++ (passed ++ later)) ∷ further

pub are_links : (bytes : List ℕ) (before further : List (List Page)) (begin passed later : List Page) → AreLinks bytes (joined_links before begin passed later further) →
    IsJoined begin passed → AreLater later → AreLinks (heard_bytes begin passed (later ++ flattened further)) (heard_link begin passed later ∷ further)
are_links bytes before further begin passed later are j unmarked =
    let link : List Page = begin ++ (passed ++ later) in
    let new : List Page = heard_link begin passed later in
    let pages = (all_split (AllByRecursion IsPage) before (link ∷ further) are.pages).1 in
    let each = (all_split IsLink before (link ∷ further) are.each).1 in
    let few : length (before ++ link ∷ further) ≤ 65536 = are.few in
    let len : length (before ++ link ∷ further) ≡ length before + length (link ∷ further) = length-append before (link ∷ further) in
    record {
      spelled = ap bytes_of_pages (heard_flattened begin passed later further unmarked each.1) ∙ sym (bytes_flattened (new ∷ further));
      pages = (are_pages begin passed later each.0 pages.0, pages.1);
      few = omega (arith, few, len);
      each = (is_link begin passed later each.0 j unmarked, each.1);
      ended = new_ended (λ x. all_ended x ≡ true) link new further (λ e. still_ended begin passed later each.0 j unmarked e)
          (last_back (λ x. all_ended x ≡ true) before link further are.ended);
    }

-- nothing of a link is joined: the links that begin later are heard as they are
every_back : (P : List Page → Type 0) (before further : List (List Page)) → AllButLast P (before ++ further) → AllButLast P further
every_back P [] further h = h
every_back P (b ∷ before) [] h = tt
every_back P (b ∷ []) (link ∷ further) h = h.1
every_back P (b ∷ c ∷ before) (link ∷ further) h = every_back P (c ∷ before) (link ∷ further) h.1

pub links_behind : (bytes : List ℕ) (before further : List (List Page)) → AreLinks bytes (before ++ further) → AreLinks (flat_map bytes_of_pages further) further
links_behind bytes before further are =
    let few : length (before ++ further) ≤ 65536 = are.few in
    record {
      spelled = refl;
      pages = (all_split (AllByRecursion IsPage) before further are.pages).1;
      few = omega (arith, few, length-append before further);
      each = (all_split IsLink before further are.each).1;
      ended = every_back (λ x. all_ended x ≡ true) before further are.ended;
    }

pub wait_links : (bytes : List ℕ) (before further : List (List Page)) → AreLinks bytes (before ++ further) → AreLinks (heard_bytes [] [] (flattened further)) further
wait_links bytes before further are =
    let back : AreLinks (flat_map bytes_of_pages further) further = links_behind bytes before further are in
    subst (λ b. AreLinks b further) (bytes_flattened further ∙ sym (ap bytes_of_pages (from_link (gap [] []) further back.each))) back

-- ---- fronts
-- the first pages of a chain are a chain
pub front_is_chain : (bytes : List ℕ) (links : List (List Page)) (front rest : List Page) → AreLinks bytes links → flattened links ≡ front ++ rest →
    (some : List (List Page)) × AreLinks (bytes_of_pages front) some
front_is_chain bytes links front rest are split =
    let taken : AreTaken [] (front ++ rest) links = subst (λ (l : List Page). AreTaken [] l links) split (only bytes links are) in
    let some : (middle : List (List Page)) × AreTaken [] front middle = taken_front [] front rest links taken in
    let pages : AllByRecursion IsPage (front ++ rest) = subst (AllByRecursion IsPage) split (pages_flattened links are.pages) in
    (some.0, (in_turn front some.0 (all_split IsPage front rest pages).0).0 some.1)

pub fronts_are_chains : (bytes : List ℕ) (before further : List (List Page)) (begin passed later front rest : List Page) → AreLinks bytes (joined_links before begin passed later further) →
    IsJoined begin passed → AreLater later → heard begin passed (later ++ flattened further) ≡ front ++ rest →
    (some : List (List Page)) × AreLinks (bytes_of_pages front) some
fronts_are_chains bytes before further begin passed later front rest are j unmarked split =
    let each = (all_split IsLink before ((begin ++ (passed ++ later)) ∷ further) are.each).1 in
    front_is_chain (heard_bytes begin passed (later ++ flattened further)) (heard_link begin passed later ∷ further) front rest
    (are_links bytes before further begin passed later are j unmarked)
    (sym (heard_flattened begin passed later further unmarked each.1) ∙ split)

-- ---- what is held
pub hold_links : (bytes : List ℕ) (before further : List (List Page)) (begin passed later : List Page) (begun joined now : List Stream) (more : Recording) →
    AreLinks bytes (joined_links before begin passed later further) → IsJoined begin passed → AreLater later →
    HoldsLink begin begun → HoldsLink (begin ++ passed) joined → HoldsLink (begin ++ (passed ++ later)) now → HoldsLinks further more →
    HoldsLinks (heard_link begin passed later ∷ further) (heard_streams begun joined now ∷ more)
hold_links bytes before further begin passed later begun joined now more are j unmarked hb hj hn hm =
    let each = (all_split IsLink before ((begin ++ (passed ++ later)) ∷ further) are.each).1 in
    (held_link begin passed later begun joined now each.0 j unmarked hb hj hn, hm)

-- ---- more is heard as more is committed
pub after_grows : (names : ℕ → StreamName) (after more : List Page) → (rest : List Page) × (named_after names (after ++ more) ≡ named_after names after ++ rest)
after_grows names [] more = (named_after names more, refl)
after_grows names (page ∷ after) more =
    let next : (rest : List Page) × (named_after names (after ++ more) ≡ named_after names after ++ rest) = after_grows names after more in
    elim (cases_Bool (is_first page)) [
      | inl first ↦ (
        more,
        cond-true (is_first page) (page ∷ (after ++ more)) (named_page names page ∷ named_after names (after ++ more)) first
            ∙ ap (λ l. l ++ more) (sym (cond-true (is_first page) (page ∷ after) (named_page names page ∷ named_after names after) first)),
      )
      | inr later ↦ (
        next.0,
        cond-false (is_first page) (page ∷ (after ++ more)) (named_page names page ∷ named_after names (after ++ more)) later
            ∙ ap (λ l. named_page names page ∷ l) next.1
            ∙ ap (λ l. l ++ next.0) (sym (cond-false (is_first page) (page ∷ after) (named_page names page ∷ named_after names after) later)),
      )
    ]

pub heard_grows : (begin passed after more : List Page) → (rest : List Page) × (heard begin passed (after ++ more) ≡ heard begin passed after ++ rest)
heard_grows begin passed after more =
    let next : (rest : List Page) × (heard_after (gap begin passed) (after ++ more) ≡ heard_after (gap begin passed) after ++ rest) = after_grows (plain (gap begin passed)) after more in (
      next.0,
      ap (λ l. begin ++ (end_pages begin passed ++ l)) next.1
          ∙ ap (λ l. begin ++ l) (sym (append_assoc (end_pages begin passed) (heard_after (gap begin passed) after) next.0))
          ∙ sym (append_assoc begin (end_pages begin passed ++ heard_after (gap begin passed) after) next.0),
    )
