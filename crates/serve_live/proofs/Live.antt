-- What a session gets stays, and more follows it.
use Rattle.std.proofs.Common.{◌≡◌, ℕ, ◌+◌, ◌≤◌, List, [], ◌∷◌, ◌++◌, length, take, drop, refl, sym, ◌∙◌, ap, subst, arith, append_assoc, length-append, length-drop}
use Rattle.std.specs.List.{AllByRecursion}
use Rattle.std.proofs.lemmas.List.{take-append-le, drop-append-le}
use Rattle.ogg_page.specs.Page.{Page, IsPage, page_bytes, bytes_of_pages}
use Rattle.ogg_page.specs.PageLaws.{pages_both, bytes_both}
use Rattle.ogg_page.specs.Laws.Prefixes.{same_fronts}
use Rattle.link_chain.specs.Laws.InTurn.{same_pages}
use Rattle.serve_live.specs.Heard.{heard, heard_bytes, named_after}
use Rattle.serve_live.specs.Names.{name_in}
use Rattle.serve_live.specs.Heads.{next_heard}
use Rattle.serve_live.specs.Listening.{ArePagesLeft, IsLeft, IsWithin, ListenerState, part_at}
use Rattle.serve_live.specs.Live.{Moment, IsLive}
use Rattle.serve_live.specs.declared.names.StreamName.{StreamName}
use Rattle.serve_live.proofs.Chain.{heard_grows, after_grows}
use Rattle.serve_live.proofs.NextPage.{heard_size, next_is, names_after}

pub one_live : (moment : Moment) (committed bytes others : List ℕ) → IsLive moment committed bytes → IsLive moment committed others → bytes ≡ others
one_live moment committed bytes others a b =
    let e = same_fronts a.front b.front (bytes_of_pages a.after) (bytes_of_pages b.after) (a.place_is ∙ sym b.place_is) (sym a.split ∙ b.split) in
    a.bytes_are
    ∙ ap (heard_bytes moment.begin moment.passed) (same_pages a.after b.after a.are_pages b.are_pages e.1)
    ∙ sym b.bytes_are

pub live_grows : (moment : Moment) (committed bytes : List ℕ) (more : List Page) → IsLive moment committed bytes → AllByRecursion IsPage more →
    (new : List ℕ) × IsLive moment (committed ++ bytes_of_pages more) (bytes ++ new)
live_grows moment committed bytes more live are =
    let next = heard_grows moment.begin moment.passed live.after more in (
      bytes_of_pages next.0,
      record {
        front = live.front;
        after = live.after ++ more;
        split = ap (λ l. l ++ bytes_of_pages more) live.split ∙ append_assoc live.front (bytes_of_pages live.after) (bytes_of_pages more)
            ∙ ap (λ l. live.front ++ l) (sym (bytes_both live.after more));
        place_is = live.place_is;
        are_pages = pages_both live.after more live.are_pages are;
        bytes_are = ap (λ l. l ++ bytes_of_pages next.0) live.bytes_are
            ∙ sym (bytes_both (heard moment.begin moment.passed live.after) next.0)
            ∙ ap bytes_of_pages (sym next.1);
      },
    )

-- what is left of the pages grows likewise
room_of : (names : List StreamName) (skip : ℕ) (pages : List Page) → IsWithin skip pages → skip ≤ length (bytes_of_pages (named_after (name_in names) pages))
room_of names skip [] inside = omega (arith, inside)
room_of names skip (page ∷ pages) inside =
    let own : List ℕ = page_bytes (next_heard (name_in names) page) in
    let others : List ℕ = bytes_of_pages (named_after (name_in (names_after names page)) pages) in
    omega (arith, inside, heard_size (name_in names) page, ap (λ l. length (bytes_of_pages l)) (next_is names page pages), length-append own others)

pub left_grows_by : (committed : List ℕ) (names : List StreamName) (place skip : ℕ) (rest : List ℕ) (more : List Page) (left : ArePagesLeft committed names place skip rest) →
    AllByRecursion IsPage more → (next : List Page) → named_after (name_in names) (left.pages ++ more) ≡ named_after (name_in names) left.pages ++ next →
    ArePagesLeft (committed ++ bytes_of_pages more) names place skip (rest ++ bytes_of_pages next)
left_grows_by committed names place skip rest more left are next next_is = record {
  front = left.front;
  pages = left.pages ++ more;
  split = ap (λ l. l ++ bytes_of_pages more) left.split ∙ append_assoc left.front (bytes_of_pages left.pages) (bytes_of_pages more)
      ∙ ap (λ l. left.front ++ l) (sym (bytes_both left.pages more));
  place_is = left.place_is;
  are_pages = pages_both left.pages more left.are_pages are;
  inside = longer left.pages left.inside;
  rest_is = ap (λ l. l ++ bytes_of_pages next) left.rest_is
      ∙ sym (drop-append-le skip (bytes_of_pages (named_after (name_in names) left.pages)) (bytes_of_pages next) (room_of names skip left.pages left.inside))
      ∙ ap (drop skip) (sym (bytes_both (named_after (name_in names) left.pages) next) ∙ ap bytes_of_pages (sym next_is));
}
  where
    none : (pages : List Page) → IsWithin 0 pages
    none [] = refl
    none (p ∷ pages) = omega arith

    longer : (pages : List Page) → IsWithin skip pages → IsWithin skip (pages ++ more)
    longer [] inside = subst (λ n. IsWithin n more) (sym inside) (none more)
    longer (p ∷ pages) inside = inside

pub listener_grows_by : (committed : List ℕ) (listener : ListenerState) (rest : List ℕ) (more : List Page) (left : IsLeft committed listener rest) →
    AllByRecursion IsPage more → (next : List Page) →
    named_after (name_in listener.names) (left.pages_left.pages ++ more) ≡ named_after (name_in listener.names) left.pages_left.pages ++ next →
    IsLeft (committed ++ bytes_of_pages more) listener (rest ++ bytes_of_pages next)
listener_grows_by committed listener rest more left are next next_is =
    let place : ℕ = listener.begin_place in
    let count : ℕ = listener.begin_left in
    let there : place + count ≤ length committed = left.begins in
    let new : List ℕ = bytes_of_pages next in
    let part : List ℕ = part_at place count committed in
    record {
      begins = omega (arith, there, length-append committed (bytes_of_pages more));
      pages = left.pages ++ new;
      pages_left = left_grows_by committed listener.names listener.place listener.skip left.pages more left.pages_left are next next_is;
      joined = ap (λ l. l ++ new) left.joined ∙ append_assoc part (listener.text ++ left.pages) new
          ∙ ap (λ l. part ++ l) (append_assoc listener.text left.pages new)
          ∙ ap (λ l. l ++ (listener.text ++ (left.pages ++ new)))
          (sym (ap (take count) (drop-append-le place committed (bytes_of_pages more) (omega (arith, there)))
          ∙ take-append-le count (drop place committed) (bytes_of_pages more) (omega (arith, there, length-drop place committed))));
    }

pub listener_grows : (committed : List ℕ) (listener : ListenerState) (rest : List ℕ) (more : List Page) → IsLeft committed listener rest →
    AllByRecursion IsPage more → (new : List ℕ) × IsLeft (committed ++ bytes_of_pages more) listener (rest ++ new)
listener_grows committed listener rest more left are =
    let next = after_grows (name_in listener.names) left.pages_left.pages more in
    (bytes_of_pages next.0, listener_grows_by committed listener rest more left are next.0 next.1)
