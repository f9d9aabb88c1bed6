-- A begin that is kept adds a link.
use Rattle.std.proofs.Common.{◌≡◌, ℕ, ◌+◌, ◌<◌, ◌≤◌, ◌^◌, true, false, List, [], ◌∷◌, ◌++◌, length, refl, sym, ◌∙◌, ap, subst, arith, Option, None, Some, Ok, length-append}
use Rattle.std.specs.Prelude.{nat_eq, IsOk, IfSome}
use Rattle.std.specs.List.{AllByRecursion, IsDistinct, list_any, flat_map}
use Rattle.std.proofs.lemmas.List.{append-nil}
use Rattle.std.proofs.lemmas.List.Concat.{flat_map-append}
use Rattle.std.proofs.lemmas.Bool.{ne_eqb, eqb-false, or_parts}
use Rattle.ogg_page.specs.Page.{Page, IsPage, bytes_of_pages}
use Rattle.ogg_command.specs.declared.command.Command.TheVariants.{Begin as BeginOf}
use Rattle.ogg_command.specs.declared.command.Begin.{Begin}
use Rattle.ogg_command.specs.declared.command.NewStream.{NewStream}
use Rattle.link_chain.specs.Links.{IsLink, AreLinks, all_ended}
use Rattle.chain_rules.specs.Recording.{Stream, Recording, HoldsLink, HoldsLinks, begun_link, add}
use Rattle.link_chain.specs.ChainState.{ChainState, chain_state_of}
use Rattle.chain_rules.specs.Encoding.{first_pages, header_pages, pages_of_begin, skeleton_stream, fisbone_pages, skeleton_end, pages_of_command, command_bytes, links_after}
use Rattle.chain_rules.specs.Decision.{decision, has_long_message, streams_rules, parts_rules}
use Rattle.ogg_command.specs.Command.{IsNewStream, IsSkeleton}
use Rattle.chain_rules.specs.Begun.{states_of, serials_in, skeleton_serial, has_more_pages}
use Rattle.ogg_command.specs.declared.command.SkeletonHead.{SkeletonHead}
use Rattle.link_chain.specs.Laws.LastLink.{closed_link, ended_links, last_is_link, all_split}
use Rattle.link_chain.specs.Laws.Grow.{all_weaker}
use Rattle.chain_rules.proofs.Unbroken.{Unbroken, numbers_fit}
use Rattle.chain_rules.proofs.Beginning.{IsGood, fresh, are_distinct, are_good, all_to_map, firsts_pages, laters_pages}
use Rattle.chain_rules.proofs.Kept.{IsKeptBegin, begin_fits}
use Rattle.chain_rules.proofs.NewLink.{IsNewLink, CanBegin, plain_link, described_link}
use Rattle.chain_rules.proofs.SkeletonPart.{fishead_page, fisbones_pages, end_is_page}
use Rattle.ogg_page.specs.Laws.PageBytes.{all_both}

zip_push : (links : List (List Page)) (recording : Recording) (link : List Page) (streams : List Stream) → HoldsLinks links recording → HoldsLink link streams →
    HoldsLinks (links ++ link ∷ []) (recording ++ streams ∷ [])
zip_push [] [] link streams h new = (new, tt)
zip_push [] (r ∷ recording) link streams h new = absurd h
zip_push (l ∷ links) [] link streams h new = absurd h
zip_push (l ∷ links) (r ∷ recording) link streams h new = (h.0, zip_push links recording link streams h.1 new)

-- a Skeleton's time in UTC has its length, as it has in every command of a program
abbrev pub HasText : Option SkeletonHead → Type 0
HasText skeleton = IfSome skeleton (λ head. length head.utc ≡ 20)

-- what a `Begin` is like that breaks no rule
parts_can : (chain : ChainState) (skeleton : Option SkeletonHead) (streams : List NewStream) → Unbroken (parts_rules chain skeleton streams) → 0 < length streams →
    length streams + length (skeleton_serial skeleton) ≤ 64 → CanBegin skeleton streams
unfolding IsDistinct
parts_can chain None streams h some few =
    record { good = are_good chain false [] streams h; distinct = are_distinct chain false [] streams h; some = some; few = few }
parts_can chain (Some head) streams h some few =
    let rest : Unbroken (streams_rules chain true (head.serial ∷ []) streams) = h.1.1 in
    record {
      good = are_good chain true (head.serial ∷ []) streams rest;
      distinct = (
        all_to_map (λ y. nat_eq head.serial y ≡ false) (λ (s : NewStream). s.serial) streams
            (all_weaker (λ (s : NewStream). list_any (nat_eq s.serial) (head.serial ∷ []) ≡ false) (λ (s : NewStream). nat_eq head.serial s.serial ≡ false)
            (λ s e. ne_eqb head.serial s.serial (λ f. eqb-false s.serial head.serial (or_parts (nat_eq s.serial head.serial) false e).0 (sym f)))
            streams (fresh chain true (head.serial ∷ []) streams rest)),
        are_distinct chain true (head.serial ∷ []) streams rest,
      );
      some = some;
      few = few;
    }

pub can_begin : (chain : ChainState) (begin : Begin) → IsOk (decision chain (BeginOf begin)) → CanBegin begin.skeleton begin.streams
can_begin chain begin ok =
    let fits : IsKeptBegin chain begin = begin_fits chain begin ok in
    parts_can chain begin.skeleton begin.streams fits.parts fits.some fits.streams

-- the pages of a `Begin` that is kept are a new link
pub begin_link : (chain : ChainState) (begin : Begin) → IsOk (decision chain (BeginOf begin)) → HasText begin.skeleton →
    IsNewLink (pages_of_begin begin.skeleton begin.streams) (begun_link begin.skeleton begin.streams) (states_of begin.skeleton begin.streams)
    (has_more_pages begin.skeleton begin.streams) (serials_in begin.skeleton begin.streams)
begin_link chain begin ok text = by begin.skeleton begin.streams (can_begin chain begin ok) (begin_fits chain begin ok).fits.media text
  where
    by : (skeleton : Option SkeletonHead) (streams : List NewStream) → CanBegin skeleton streams → IfSome skeleton (λ _. list_any has_long_message streams ≡ false) → HasText skeleton →
        IsNewLink (pages_of_begin skeleton streams) (begun_link skeleton streams) (states_of skeleton streams) (has_more_pages skeleton streams) (serials_in skeleton streams)
    by None streams can media text = plain_link streams can
    by (Some head) streams can media text = described_link head streams can text media

-- ---- its pages are pages
begin_pages : (skeleton : Option SkeletonHead) (streams : List NewStream) → IsSkeleton skeleton → AllByRecursion IsNewStream streams → AllByRecursion IsGood streams →
    AllByRecursion (λ (p : Page). p.sequence < 2 ^ 32) (pages_of_begin skeleton streams) → AllByRecursion IsPage (pages_of_begin skeleton streams)
begin_pages None streams is new good numbers =
    let split : AllByRecursion (λ (p : Page). p.sequence < 2 ^ 32) (flat_map first_pages streams) × AllByRecursion (λ (p : Page). p.sequence < 2 ^ 32) (flat_map header_pages streams) =
    all_split (λ (p : Page). p.sequence < 2 ^ 32) (flat_map first_pages streams) (flat_map header_pages streams) numbers in
    all_both IsPage (flat_map first_pages streams) (flat_map header_pages streams) (firsts_pages streams good new) (laters_pages streams new split.1)
begin_pages (Some head) streams is new good numbers =
    let N : Page → Type 0 = λ (p : Page). p.sequence < 2 ^ 32 in
    let first : List Page = first_pages (skeleton_stream head streams) in
    let fisbones : List Page = fisbone_pages head.serial 1 streams in
    let body : List Page = (first ++ flat_map first_pages streams) ++ (fisbones ++ flat_map header_pages streams) in
    let ends : List Page = skeleton_end head.serial (length streams + 1) in
    let whole : AllByRecursion N body × AllByRecursion N ends = all_split N body ends numbers in
    let later : AllByRecursion N (fisbones ++ flat_map header_pages streams) =
    (all_split N (first ++ flat_map first_pages streams) (fisbones ++ flat_map header_pages streams) whole.0).1 in
    let split : AllByRecursion N fisbones × AllByRecursion N (flat_map header_pages streams) = all_split N fisbones (flat_map header_pages streams) later in
    all_both IsPage body ends
    (all_both IsPage (first ++ flat_map first_pages streams) (fisbones ++ flat_map header_pages streams)
    (all_both IsPage first (flat_map first_pages streams) (fishead_page head streams is) (firsts_pages streams good new))
    (all_both IsPage fisbones (flat_map header_pages streams) (fisbones_pages head.serial 1 streams is.serial new split.0) (laters_pages streams new split.1)))
    (end_is_page head.serial (length streams + 1) is.serial whole.1)

text_of : (skeleton : Option SkeletonHead) → IsSkeleton skeleton → HasText skeleton
text_of None is = tt
text_of (Some head) is = is.utc_length

pub begin_is_held : (bytes : List ℕ) (links : List (List Page)) (recording : Recording) (begin : Begin) (size : ℕ) → IsSkeleton begin.skeleton → AllByRecursion IsNewStream begin.streams →
    AreLinks bytes links → HoldsLinks links recording → decision (chain_state_of links) (BeginOf begin) ≡ Ok size →
    AreLinks (bytes ++ command_bytes (chain_state_of links) (BeginOf begin)) (links_after links (BeginOf begin))
    × HoldsLinks (links_after links (BeginOf begin)) (add recording (BeginOf begin))
unfolding pages_of_command
begin_is_held bytes links recording begin size described new l h e =
    let chain : ChainState = chain_state_of links in
    let link : List Page = pages_of_begin begin.skeleton begin.streams in
    let ok : IsOk (decision chain (BeginOf begin)) = subst (λ r. IsOk r) (sym e) refl in
    let fits : IsKeptBegin chain begin = begin_fits chain begin ok in
    let is = begin_link chain begin ok (text_of begin.skeleton described) in
    let room : length links < 65536 = fits.links in
    let is_pages : AllByRecursion IsPage link =
    begin_pages begin.skeleton begin.streams described new (can_begin chain begin ok).good (numbers_fit link fits.numbered) in (
      record {
        spelled = ap (λ b. b ++ bytes_of_pages link) l.spelled ∙ ap (λ b. flat_map bytes_of_pages links ++ b) (sym (append-nil (bytes_of_pages link)))
            ∙ sym (flat_map-append bytes_of_pages links (link ∷ []));
        pages = all_both (AllByRecursion IsPage) links (link ∷ []) l.pages (is_pages, tt);
        few = omega (arith, length-append links (link ∷ []));
        each = all_both IsLink links (link ∷ []) l.each (is.link_is, tt);
        ended = ended_links (λ x. all_ended x ≡ true) links link l.ended (λ ne. closed_link links (last_is_link links l.each ne) fits.closed);
      },
      zip_push links recording link (begun_link begin.skeleton begin.streams) h is.holds,
    )
