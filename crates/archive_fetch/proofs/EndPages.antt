-- Pages that end streams, and pages that a file begins with.
use Rattle.std.proofs.Common.{◌≡◌, ℕ, ◌+◌, ◌-◌, ◌*◌, ◌<◌, ◌≤◌, false, List, [], ◌∷◌, ◌++◌, length, drop, refl, sym, ◌∙◌, ap, subst, arith, append_assoc, length-append, drop-drop, inl, inr}
use Rattle.std.specs.List.{AllByRecursion}
use Rattle.std.proofs.lemmas.Bool.{cases_Bool, cond-true, cond-false}
use Rattle.std.proofs.lemmas.List.{append-nil, drop_at}
use Rattle.ogg_page.specs.Head.{Stands}
use Rattle.ogg_page.specs.Page.{Page, IsPage, page_bytes, page_size, bytes_of_pages}
use Rattle.ogg_page.specs.PageLaws.{bytes_both, length-page_bytes}
use Rattle.link_chain.specs.declared.stream_state.StreamState.{StreamState}
use Rattle.archive_cut.specs.Cut.{end_of, ends_of}
use Rattle.archive_cut.specs.Heads.{StandUpTo}
use Rattle.archive_cut.specs.HeadsLaws.{NextPage}
use Rattle.archive_fetch.specs.Meetings.{EndIn, StandIn}

-- ---- pages that end streams
ends_both : (streams : List StreamState) (stream : StreamState) → stream.ended ≡ false →
    ends_of (streams ++ stream ∷ []) ≡ ends_of streams ++ end_of stream ∷ []
ends_both [] stream goes = cond-false stream.ended [] (end_of stream ∷ []) goes
ends_both (one ∷ streams) stream goes =
    let both : List Page = ends_of (streams ++ stream ∷ []) in
    let more : List Page = end_of stream ∷ [] in
    let rest : both ≡ ends_of streams ++ more = ends_both streams stream goes in
    elim (cases_Bool one.ended) [
      | inl over ↦
          cond-true one.ended both (end_of one ∷ both) over ∙ rest
          ∙ ap (λ l. l ++ more) (sym (cond-true one.ended (ends_of streams) (end_of one ∷ ends_of streams) over))
      | inr on ↦
          cond-false one.ended both (end_of one ∷ both) on ∙ ap (λ l. end_of one ∷ l) rest
          ∙ ap (λ l. l ++ more) (sym (cond-false one.ended (ends_of streams) (end_of one ∷ ends_of streams) on))
    ]

-- what was taken, and what is left
pub record AreTaken (bytes : List ℕ) (streams : List StreamState) (rest : List ℕ) : Type 0 where
  pub joined : bytes ≡ bytes_of_pages (ends_of streams) ++ rest
  pub size : length bytes ≡ 27 * length streams + length rest

pub taken_on : (bytes : List ℕ) (streams : List StreamState) (rest after : List ℕ) (page : Page) (stream : StreamState) → AreTaken bytes streams rest →
    rest ≡ page_bytes page ++ after → page ≡ end_of stream → stream.ended ≡ false → AreTaken bytes (streams ++ stream ∷ []) after
taken_on bytes streams rest after page stream taken rest_is page_is goes =
    let own : List ℕ = page_bytes (end_of stream) in
    let before : List ℕ = bytes_of_pages (ends_of streams) in
    let rest' : rest ≡ own ++ after = rest_is ∙ ap (λ p. page_bytes p ++ after) page_is in
    let together : bytes_of_pages (ends_of (streams ++ stream ∷ [])) ≡ before ++ own =
    ap bytes_of_pages (ends_both streams stream goes) ∙ bytes_both (ends_of streams) (end_of stream ∷ []) ∙ ap (λ l. before ++ l) (append-nil own) in
    let size : length own ≡ 27 = length-page_bytes (end_of stream) in
    record {
      joined = taken.joined ∙ ap (λ l. before ++ l) rest' ∙ sym (append_assoc before own after) ∙ ap (λ l. l ++ after) (sym together);
      size = omega (arith, taken.size, ap (λ l. length l) rest', length-append own after, size, length-append streams (stream ∷ []));
    }

-- the last bytes are pages that end streams, after the page before them
pub at_end : (all bytes : List ℕ) (count : ℕ) (streams : List StreamState) → bytes ≡ drop (length all - (27 + 27 * count)) all → 27 + 27 * count ≤ length all →
    EndIn (drop 27 bytes) 0 streams → length streams ≡ count → EndIn all (length all - 27 * count) streams
at_end all bytes count streams is fits ends so_many =
    let place : (length all - (27 + 27 * count)) + 27 ≡ length all - 27 * count = omega (arith, fits) in
    record {
      pages = ap (λ n. drop n all) (sym place) ∙ sym (drop-drop 27 (length all - (27 + 27 * count)) all) ∙ ap (drop 27) (sym is) ∙ ends.pages;
      size = omega (arith, fits, so_many);
    }

-- ---- pages that a file begins with
-- these pages were passed
pub record IsPassed (bytes : List ℕ) (end at : ℕ) (pages : List Page) : Type 0 where
  pub front : List Page
  pub back : List Page
  pub split : pages ≡ front ++ back
  pub left : StandUpTo bytes at end back
  pub ends : length (bytes_of_pages front) ≡ at

pub passed_on : (bytes : List ℕ) (end at : ℕ) (pages : List Page) (size : ℕ) (w : IsPassed bytes end at pages)
    (n : NextPage bytes at end w.back) → size ≡ page_size n.page → IsPassed bytes end (at + size) pages
passed_on bytes end at pages size w n size_is =
    let one : length (bytes_of_pages (n.page ∷ [])) ≡ length (page_bytes n.page) = ap (λ l. length l) (append-nil (page_bytes n.page)) in
    let both : length (bytes_of_pages (w.front ++ n.page ∷ [])) ≡ length (bytes_of_pages w.front) + length (bytes_of_pages (n.page ∷ [])) =
    ap (λ l. length l) (bytes_both w.front (n.page ∷ [])) ∙ length-append (bytes_of_pages w.front) (bytes_of_pages (n.page ∷ [])) in
    record {
      front = w.front ++ n.page ∷ [];
      back = n.more;
      split = w.split ∙ ap (λ l. w.front ++ l) n.split ∙ sym (append_assoc w.front (n.page ∷ []) n.more);
      left = subst (λ k. StandUpTo bytes (at + k) end n.more) (sym size_is) n.after;
      ends = omega (arith, w.ends, both, one, length-page_bytes n.page, size_is);
    }

front_are : (front back : List Page) → AllByRecursion IsPage (front ++ back) → AllByRecursion IsPage front
front_are [] back all = tt
front_are (page ∷ front) back all = (all.0, front_are front back all.1)

pub passed_stand : (bytes : List ℕ) (end at : ℕ) (pages : List Page) → StandUpTo bytes 0 end pages → IsPassed bytes end at pages → StandIn bytes at pages
passed_stand bytes end at pages s w =
    let all : AllByRecursion IsPage (w.front ++ w.back) = subst (λ l. AllByRecursion IsPage l) w.split s.are_pages in
    record {
      front = w.front;
      back = w.back;
      split = w.split;
      stand = record {
        are_pages = front_are w.front w.back all;
        rest = bytes_of_pages w.back ++ s.rest;
        stand = s.stand ∙ ap (λ l. bytes_of_pages l ++ s.rest) w.split ∙ ap (λ l. l ++ s.rest) (bytes_both w.front w.back)
            ∙ append_assoc (bytes_of_pages w.front) (bytes_of_pages w.back) s.rest;
        ends = omega (arith, w.ends);
      };
    }
