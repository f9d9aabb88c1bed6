-- Pages are walked over one after the other.
use Rattle.std.proofs.Common.{◌≡◌, ℕ, ◌+◌, ◌≤◌, true, false, List, [], ◌∷◌, ◌++◌, length, drop, take, refl, sym, ◌∙◌, ap, subst, arith, length-append}
use Rattle.std.proofs.lemmas.Bool.{cond-true, cond-false}
use Rattle.std.proofs.lemmas.List.{append-nil, drop_at, take-append-le, take_at}
use Rattle.ogg_page.specs.Head.{Stands, checksum_in, head_size}
use Rattle.ogg_page.specs.LogicalStream.{is_first}
use Rattle.ogg_page.specs.Page.{Page, IsPage, fixed_part, page_bytes, page_size, bytes_of_pages}
use Rattle.ogg_page.specs.PageLaws.{length-page_bytes}
use Rattle.link_chain.specs.declared.stream_state.StreamState.{StreamState}
use Rattle.archive_cut.specs.HeadsLaws.{NextPage}
use Rattle.archive_cut.specs.Heads.{AreWalked, IsSought, StandUpTo, said_of, streams_after, streams_by, up_to_first}

-- no page is left at the end
pub no_page : (bytes : List ℕ) (place end : ℕ) (pages : List Page) → StandUpTo bytes place end pages → end ≤ place → pages ≡ []
no_page bytes place end [] s none = refl
no_page bytes place end (page ∷ pages) s none =
    let ends : place + length (page_bytes page ++ bytes_of_pages pages) ≡ end = s.ends in
    absurd (omega (arith, none, ends, length-append (page_bytes page) (bytes_of_pages pages), length-page_bytes page))

-- ---- the streams
pub walked_on : (bytes : List ℕ) (all : List StreamState) (end place : ℕ) (now new : List StreamState) (size : ℕ) (w : AreWalked bytes all end place now)
    (n : NextPage bytes place end w.pages) → size ≡ page_size n.page → new ≡ streams_by (said_of n.page) now → AreWalked bytes all end (place + size) new
walked_on bytes all end place now new size w n size_is new_is =
    record {
      pages = n.more;
      left = subst (λ k. StandUpTo bytes (place + k) end n.more) (sym size_is) n.after;
      then_all = ap (λ s. streams_after s n.more) new_is ∙ ap (streams_after now) (sym n.split) ∙ w.then_all;
    }

pub all_walked : (bytes : List ℕ) (all : List StreamState) (end place : ℕ) (now : List StreamState) → AreWalked bytes all end place now → end ≤ place → now ≡ all
all_walked bytes all end place now w none = ap (streams_after now) (sym (no_page bytes place end w.pages w.left none)) ∙ w.then_all

-- ---- the next first page
pub sought_on : (bytes : List ℕ) (first end place size : ℕ) (w : IsSought bytes first end place) (n : NextPage bytes place end w.pages) → size ≡ page_size n.page →
    is_first n.page ≡ false → IsSought bytes first end (place + size)
sought_on bytes first end place size w n size_is later =
    let rest : List Page = up_to_first n.more in
    let split : up_to_first w.pages ≡ n.page ∷ rest = ap up_to_first n.split ∙ cond-false (is_first n.page) [] (n.page ∷ rest) later in
    let all : place + length (page_bytes n.page ++ bytes_of_pages rest) ≡ first = ap (λ l. place + length (bytes_of_pages l)) (sym split) ∙ w.then_first in
    record {
      pages = n.more;
      left = subst (λ k. StandUpTo bytes (place + k) end n.more) (sym size_is) n.after;
      then_first = omega (arith, all, size_is, length-append (page_bytes n.page) (bytes_of_pages rest), length-page_bytes n.page);
    }

pub found_first : (bytes : List ℕ) (first end place : ℕ) (w : IsSought bytes first end place) (n : NextPage bytes place end w.pages) → is_first n.page ≡ true →
    place ≡ first
found_first bytes first end place w n begins =
    let none : up_to_first w.pages ≡ [] = ap up_to_first n.split ∙ cond-true (is_first n.page) [] (n.page ∷ up_to_first n.more) begins in
    let all : place + 0 ≡ first = ap (λ l. place + length (bytes_of_pages l)) (sym none) ∙ w.then_first in
    omega (arith, all)

pub found_end : (bytes : List ℕ) (first end place : ℕ) → IsSought bytes first end place → end ≤ place → place ≡ first
found_end bytes first end place w over =
    let all : place + 0 ≡ first = ap (λ l. place + length (bytes_of_pages (up_to_first l))) (sym (no_page bytes place end w.pages w.left over)) ∙ w.then_first in
    omega (arith, all)

-- ---- the head of a page
pub lacing_is : (page : Page) → drop 27 (take (head_size page) (page_bytes page)) ≡ page.lacing
unfolding page_bytes fixed_part
lacing_is page =
    let fixed : List ℕ = fixed_part (checksum_in page) page in
    let size : length (fixed ++ page.lacing) ≡ head_size page = length-append fixed page.lacing in
    ap (drop 27) (take_at (fixed ++ page.lacing) page.body (head_size page) size) ∙ drop_at fixed page.lacing 27 refl

pub stands_alone : (page : Page) → IsPage page → Stands (page_bytes page) page
stands_alone page is = record { is_page = is; tail = []; spelled = sym (append-nil (page_bytes page)) }

pub head_in_front : (page : Page) (rest : List ℕ) → take (head_size page) (page_bytes page ++ rest) ≡ take (head_size page) (page_bytes page)
head_in_front page rest = take-append-le (head_size page) (page_bytes page) rest (omega (arith, length-page_bytes page))
