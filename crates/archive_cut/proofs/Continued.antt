-- What is read where two files meet.
use Rattle.std.proofs.Common.{◌≡◌, ℕ, ◌+◌, ◌-◌, false, List, [], ◌∷◌, ◌++◌, length, drop, take, map, refl, sym, ◌∙◌, ap, subst, arith, append_assoc, length-append, drop-drop}
use Rattle.std.specs.Prelude.{if◌then◌else◌}
use Rattle.std.proofs.lemmas.List.{append-nil, drop_at, take_at}
use Rattle.byteorder.specs.Endian.{little_bytes}
use Rattle.ogg_page.specs.Head.{Stands, checksum_in}
use Rattle.ogg_page.specs.Page.{Page, page_bytes, page_size, bytes_of_pages}
use Rattle.ogg_page.specs.PageLaws.{bytes_both, length-page_bytes}
use Rattle.link_chain.specs.declared.stream_state.StreamState.{StreamState}
use Rattle.serve_live.specs.Heard.{heard_page}
use Rattle.serve_live.specs.Renaming.{back_of}
use Rattle.serve_live.specs.declared.names.StreamName.{StreamName}
use Rattle.archive_cut.specs.Continuing.{firsts_of}
use Rattle.archive_cut.specs.Cut.{ends_of}
use Rattle.archive_cut.specs.Cutting.{gap_if, heard_ends}
use Rattle.archive_cut.specs.HeadsLaws.{NextPage}
use Rattle.archive_cut.specs.Heads.{StandUpTo, said_of, streams_after, streams_by}
use Rattle.serve_live.specs.Renaming.{head_of, names_of}
use Rattle.serve_live.specs.RenamingLaws.{old_names}
use Rattle.archive_cut.proofs.Starts.{after_both}

-- ---- a page at the front
pub all_taken : (bytes : List ℕ) (page : Page) → bytes ≡ page_bytes page → bytes ≡ take (page_size page) (page_bytes page)
all_taken bytes page is =
    is ∙ sym (take_at (page_bytes page) [] (page_size page) (length-page_bytes page)) ∙ ap (take (page_size page)) (append-nil (page_bytes page))

-- what stands before the lacing values are counted
pub before_back : Page → List ℕ
before_back page = head_of page ++ (names_of page.serial page.sequence ++ little_bytes 4 (checksum_in page))

pub before_size : (page : Page) → length (before_back page) ≡ 26
unfolding before_back
before_size page = refl

pub in_two : (page : Page) → page_bytes page ≡ before_back page ++ back_of page
unfolding before_back
in_two page =
    old_names page
    ∙ ap (λ l. head_of page ++ l) (sym (append_assoc (names_of page.serial page.sequence) (little_bytes 4 (checksum_in page)) (back_of page)))
    ∙ sym (append_assoc (head_of page) (names_of page.serial page.sequence ++ little_bytes 4 (checksum_in page)) (back_of page))

pub back_here : (bytes : List ℕ) (place size : ℕ) (page : Page) → Stands (drop place bytes) page → size ≡ page_size page →
    take ((place + size) - (place + 26)) (drop (place + 26) bytes) ≡ back_of page
back_here bytes place size page stands size_is =
    let back : List ℕ = back_of page in
    let whole : length (page_bytes page) ≡ 26 + length back =
    ap length (in_two page) ∙ length-append (before_back page) back ∙ ap (λ n. n + length back) (before_size page) in
    let count : length back ≡ (place + size) - (place + 26) = omega (arith, whole, length-page_bytes page, size_is) in
    let there : drop (place + 26) bytes ≡ back ++ stands.tail =
    sym (drop-drop 26 place bytes) ∙ ap (drop 26) (stands.spelled ∙ ap (λ l. l ++ stands.tail) (in_two page) ∙ append_assoc (before_back page) back stands.tail)
    ∙ drop_at (before_back page) (back ++ stands.tail) 26 (before_size page) in
    ap (take ((place + size) - (place + 26))) there ∙ take_at back stands.tail ((place + size) - (place + 26)) count

-- ---- pages that are passed
pub record IsPassed (bytes : List ℕ) (begin end at : ℕ) (pages : List Page) (streams : List StreamState) : Type 0 where
  pub front : List Page
  pub back : List Page
  pub split : pages ≡ front ++ back
  pub left : StandUpTo bytes at end back
  pub ends : begin + length (bytes_of_pages front) ≡ at
  pub leaves : streams ≡ streams_after [] front

pub none_passed : (bytes : List ℕ) (begin end : ℕ) (pages : List Page) → StandUpTo bytes begin end pages → IsPassed bytes begin end begin pages []
none_passed bytes begin end pages s = record { front = []; back = pages; split = refl; left = s; ends = omega arith; leaves = refl }

pub passed_on : (bytes : List ℕ) (begin end at : ℕ) (pages : List Page) (now new : List StreamState) (size : ℕ) (w : IsPassed bytes begin end at pages now)
    (n : NextPage bytes at end w.back) → size ≡ page_size n.page → new ≡ streams_by (said_of n.page) now → IsPassed bytes begin end (at + size) pages new
passed_on bytes begin end at pages now new size w n size_is new_is =
    let one : length (bytes_of_pages (n.page ∷ [])) ≡ length (page_bytes n.page) = ap length (append-nil (page_bytes n.page)) in
    let both : length (bytes_of_pages (w.front ++ n.page ∷ [])) ≡ length (bytes_of_pages w.front) + length (bytes_of_pages (n.page ∷ [])) =
    ap length (bytes_both w.front (n.page ∷ [])) ∙ length-append (bytes_of_pages w.front) (bytes_of_pages (n.page ∷ [])) in
    record {
      front = w.front ++ n.page ∷ [];
      back = n.more;
      split = w.split ∙ ap (λ l. w.front ++ l) n.split ∙ sym (append_assoc w.front (n.page ∷ []) n.more);
      left = subst (λ k. StandUpTo bytes (at + k) end n.more) (sym size_is) n.after;
      ends = omega (arith, w.ends, both, one, length-page_bytes n.page, size_is);
      leaves = new_is ∙ ap (streams_by (said_of n.page)) w.leaves ∙ sym (after_both w.front (n.page ∷ []) []);
    }

-- ---- end pages without a gap
same_page : (page : Page) → record page { sequence = 0 + (page.sequence - 0) } ≡ page
same_page page = let e : 0 + (page.sequence - 0) ≡ page.sequence = omega arith in ap (λ n. let p : Page = record page { sequence = n } in p) e

no_gap : (gaps : List StreamName) (pages : List Page) → map (heard_page (gap_if false gaps)) pages ≡ pages
no_gap gaps [] = refl
no_gap gaps (page ∷ pages) = ap (λ p. p ∷ map (heard_page (gap_if false gaps)) pages) (same_page page) ∙ ap (λ l. page ∷ l) (no_gap gaps pages)

pub plain_ends : (gaps : List StreamName) (streams : List StreamState) → bytes_of_pages (heard_ends false gaps streams) ≡ bytes_of_pages (ends_of streams)
plain_ends gaps streams = ap bytes_of_pages (no_gap gaps (ends_of streams))

-- ---- what the first pages hold
-- what was found, and what the pages from the place on hold, is all
pub record IsFound (bytes : List ℕ) (end place : ℕ) (streams : List StreamState) (found all : List ℕ) : Type 0 where
  pub back : List Page
  pub left : StandUpTo bytes place end back
  pub joined : found ++ firsts_of streams back ≡ all

pub found_on : (bytes : List ℕ) (end place size : ℕ) (stream : StreamState) (streams : List StreamState) (found new all : List ℕ)
    (w : IsFound bytes end place (stream ∷ streams) found all) (n : NextPage bytes place end w.back) → size ≡ page_size n.page →
    new ≡ found ++ (if stream.ended then [] else back_of n.page) → IsFound bytes end (place + size) streams new all
found_on bytes end place size stream streams found new all w n size_is new_is =
    let own : List ℕ = if stream.ended then [] else back_of n.page in
    record {
      back = n.more;
      left = subst (λ k. StandUpTo bytes (place + k) end n.more) (sym size_is) n.after;
      joined = ap (λ l. l ++ firsts_of streams n.more) new_is ∙ append_assoc found own (firsts_of streams n.more)
          ∙ ap (λ l. found ++ firsts_of (stream ∷ streams) l) (sym n.split) ∙ w.joined;
    }
