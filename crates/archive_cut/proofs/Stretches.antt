-- A stretch of a file that is given piece by piece.
use Rattle.std.proofs.Common.{◌≡◌, ℕ, ◌+◌, ◌-◌, ◌≤◌, List, [], ◌∷◌, ◌++◌, subst, length, take, drop, min, refl, sym, ◌∙◌, ap, arith, drop-drop}
use Rattle.std.proofs.lemmas.List.{drop-take, drop_at, drop_min, length-drop, length-take-le, take-take, take_min, take_rest}
use Rattle.std.proofs.lemmas.Bool.{cond_both}
use Rattle.std.proofs.Math.Seq.{take-append-add}
use Rattle.ogg_page.specs.Laws.Halves.{Halves, halves}
use Rattle.ogg_page.specs.LogicalStream.{is_first}
use Rattle.ogg_page.specs.Page.{Page, bytes_of_pages}
use Rattle.serve_live.specs.Names.{name_in}
use Rattle.serve_live.specs.Heard.{named_after, named_page}
use Rattle.serve_live.specs.Joined.{IsNew}
use Rattle.serve_live.specs.Listening.{ArePagesLeft, IsLeft, ListenerState, part_at}
use Rattle.serve_live.specs.Live.{Moment}
use Rattle.serve_live.specs.declared.names.StreamName.{StreamName}
use Rattle.archive_cut.specs.Cut.{IsCut}
use Rattle.archive_cut.specs.Cutting.{CutState, IsCutting}
use Rattle.archive_cut.specs.Stretch.{GivesStretch, stretch_rest}

min_turned : (a b : ℕ) → min a b ≡ min b a
min_turned a b = omega arith

-- what is left of it after its first bytes
stretch_left : (bytes : List ℕ) (place end n : ℕ) → place + n ≤ end → drop n (part_at place (end - place) bytes) ≡ part_at (place + n) (end - (place + n)) bytes
stretch_left bytes place end n le =
    let size : end - place ≡ n + (end - (place + n)) = omega (arith, le) in
    ap (λ k. drop n (take k (drop place bytes))) size
    ∙ drop-take n (end - (place + n)) (drop place bytes)
    ∙ ap (λ l. take (end - (place + n)) l) (drop-drop n place bytes)

pub stretch_gives : (bytes text : List ℕ) (place end size n told : ℕ) (front room text_left : List ℕ) → place ≤ end → end ≤ length bytes → n ≡ min (end - place) size →
    front ≡ take n (drop place bytes) → length front ≡ n → told ≡ min (length text) (size - n) → take told room ≡ take (size - n) text → text_left ≡ drop told text →
    GivesStretch bytes (record { place = place; end = end; text = text }) size (front ++ room) (n + told) (record { place = place + n; end = end; text = text_left })
stretch_gives bytes text place end size n told front room text_left inside fits n_is front_is front_len told_is room_is text_is =
    let own : List ℕ = part_at place (end - place) bytes in
    let long : length own ≡ end - place =
    length-take-le (end - place) (drop place bytes) (let e : length (drop place bytes) ≡ length bytes - place = length-drop place bytes in omega (arith, e, fits)) in
    let n_own : n ≡ min (length own) size = n_is ∙ ap (λ k. min k size) (sym long) in
    let few : n ≤ end - place = omega (arith, n_is) in
    let h : Halves own text size n = halves own text size n n_own in
    let front_own : front ≡ take size own =
    front_is ∙ sym (take-take n (end - place) (drop place bytes) few) ∙ ap (λ k. take k own) (n_own ∙ min_turned (length own) size) ∙ take_min size own in
    let own_left : drop n own ≡ drop size own = ap (λ k. drop k own) (n_own ∙ min_turned (length own) size) ∙ drop_min size own in
    let text_now : drop (size - n) text ≡ text_left =
    sym (drop_min (size - n) text) ∙ ap (λ k. drop k text) (min_turned (size - n) (length text) ∙ sym told_is) ∙ sym text_is in
    let within : place + n ≤ end = omega (arith, few, inside) in
    record {
      count_is = h.count told told_is;
      given = ap (λ k. take (k + told) (front ++ room)) (sym front_len) ∙ take-append-add front room told
          ∙ ap (λ l. l ++ take told room) front_own ∙ ap (λ l. take size own ++ l) room_is ∙ sym h.given;
      left = ap (λ l. l ++ text_left) (sym (stretch_left bytes place end n within)) ∙ ap (λ l. l ++ text_left) own_left
          ∙ ap (λ l. drop size own ++ l) (sym text_now) ∙ ap (λ l. l ++ drop (size - n) text) (sym own_left) ∙ sym h.left;
    }

-- ---- a cut that waits
-- without gaps pages are heard as they are
heard_none : (pages : List Page) → named_after (name_in []) pages ≡ pages
heard_none [] = refl
heard_none (page ∷ pages) =
    cond_both (is_first page) (page ∷ pages) (named_page (name_in []) page ∷ named_after (name_in []) pages) (λ l. l ≡ page ∷ pages)
    (λ _. refl)
    (λ _. ap (λ l. named_page (name_in []) page ∷ l) (heard_none pages)
    ∙ ap (λ (n : ℕ). record page { sequence = n } ∷ pages) (let e : 0 + (page.sequence - 0) ≡ page.sequence = omega arith in e))

pages_left : (committed rest : List ℕ) (start : ℕ) → ArePagesLeft committed [] start 0 rest → rest ≡ drop start committed
pages_left committed rest start left =
    left.rest_is ∙ ap bytes_of_pages (heard_none left.pages)
    ∙ sym (ap (drop start) left.split ∙ drop_at left.front (bytes_of_pages left.pages) start left.place_is)

waited : (committed heard : List ℕ) (listener : ListenerState) (start : ℕ) → IsNew start 0 start [] listener → IsLeft committed listener heard → heard ≡ drop start committed
waited committed heard listener start new left =
    left.joined
    ∙ (λ i. part_at (new.begin_place i) (new.begin_left i) committed ++ (new.text i ++ left.pages))
    ∙ pages_left committed left.pages start
    (subst (λ (k : ℕ). ArePagesLeft committed [] start k left.pages) new.skip
    (subst (λ (p : ℕ). ArePagesLeft committed [] p listener.skip left.pages) new.place
    (subst (λ (names : List StreamName). ArePagesLeft committed names listener.place listener.skip left.pages) new.names left.pages_left)))

pub waits_plainly : (moment : Moment) (committed : List ℕ) (cut : CutState) (start : ℕ) → IsCutting moment committed cut [] → IsNew start 0 start [] cut.listener →
    IsCut moment committed (stretch_rest committed (record { place = start; end = cut.end; text = cut.text }))
waits_plainly moment committed cut start cutting new =
    let all : part_at start (cut.end - start) committed ≡ drop start committed =
    ap (λ n. take (n - start) (drop start committed)) cutting.left.end_is ∙ take_rest committed start in
    let same : cutting.rest ≡ part_at start (cut.end - start) committed ++ cut.text =
    cutting.left.rest_is ∙ ap (λ l. l ++ cut.text) (waited committed cutting.left.heard cut.listener start new cutting.left.left ∙ sym all) in
    subst (IsCut moment committed) same cutting.whole
