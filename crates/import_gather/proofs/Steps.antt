-- The commands given so far, with another page.
use Rattle.std.proofs.Common.{◌≡◌, ◌≢◌, ℕ, zero, suc, ◌≤◌, Bool, true, false, cond, List, [], ◌∷◌, ◌++◌, length, map, take, drop, refl, sym, ◌∙◌, ap, subst, arith, append_assoc, append-nil, inl, inr, length-append, take-append-drop}
use Rattle.std.specs.Prelude.{nat_eq, ◌||◌}
use Rattle.std.specs.List.{AllByRecursion, AllZip, list_any}
use Rattle.std.proofs.lemmas.Bool.{ne_eqb, eqb-true, eqb-false, eq-eqb, cases_Bool}
use Rattle.std.proofs.lemmas.List.Folds.{list_any-append}
use Rattle.ogg_page.specs.Page.{Page}
use Rattle.ogg_page.specs.LogicalStream.{is_last}
use Rattle.link_chain.specs.Links.{with_pages, has_ended}
use Rattle.link_chain.specs.ChainState.{last_link}
use Rattle.link_chain.specs.Laws.Grow.{ended_both}
use Rattle.chain_rules.specs.Recording.{Stream}
use Rattle.import_gather.specs.Headers.{lacking}
use Rattle.import_gather.specs.Kept.{KeptStream, KeptLink, TakenBy, ends_by, room_of}
use Rattle.import_gather.specs.Gathered.{KeepsUp, AreWanted, before_last, held_back}
use Rattle.import_gather.specs.Laws.{serials}
use Rattle.import_gather.proofs.Others.{Others, map_step, all_step, zip_step, zip_all}
use Rattle.import_gather.proofs.Issued.{stream_of, grows, grows_own, grows_other, begun_as}
use Rattle.import_gather.proofs.Pages.{keeps_grown, keeps_beside}
use Rattle.std.proofs.Math.Bool.{or-false}
use Rattle.link_chain.specs.Laws.StateBehind.{map-map}

-- ---- the last link
pub before_with : (links : List (List Page)) (pages : List Page) → before_last (with_pages links pages) ≡ before_last links
before_with [] pages = refl
before_with (link ∷ []) pages = refl
before_with (link ∷ next ∷ links) pages = behind link (next ∷ links) pages (λ e. cc) ∙ ap (λ l. link ∷ l) (before_with (next ∷ links) pages)
  where
    behind : (link : List Page) (links : List (List Page)) (pages : List Page) → links ≢ [] → before_last (link ∷ with_pages links pages) ≡ link ∷ before_last (with_pages links pages)
    behind link [] pages some = absurd (some refl)
    behind link (a ∷ []) pages some = refl
    behind link (a ∷ b ∷ links) pages some = refl

pub before_new : (links : List (List Page)) (link : List Page) → before_last (links ++ link ∷ []) ≡ links
before_new [] link = refl
before_new (a ∷ []) link = refl
before_new (a ∷ b ∷ links) link = ap (λ l. a ∷ l) (before_new (b ∷ links) link)

pub and_its_last : (links : List (List Page)) → links ≢ [] → before_last links ++ last_link links ∷ [] ≡ links
and_its_last [] some = absurd (some refl)
and_its_last (a ∷ []) some = refl
and_its_last (a ∷ b ∷ links) some = ap (λ l. a ∷ l) (and_its_last (b ∷ links) (λ e. cc))

-- ---- what a page adds to the packets of a link
-- the page's stream among those that are kept has the packets that end in it
pub record Taken (page : Page) (link : KeptLink) (streams : List KeptStream) (pages : List Page) (held : List Stream) (later : List (List ℕ)) : Type 0 where
  pub taken : TakenBy link.begun page link.streams streams later
  pub front : Others page.serial taken.front
  pub back : Others page.serial taken.back
  pub last : AllZip (KeepsUp pages) (taken.front ++ taken.stream ∷ taken.back) held

pub taken_last : (page : Page) (link : KeptLink) (streams : List KeptStream) (pages : List Page) (held : List Stream) (later : List (List ℕ)) → (t : Taken page link streams pages held later) →
    AllZip (KeepsUp (pages ++ page ∷ [])) streams (map (grows page t.taken.takes.packets (is_last page)) held)
taken_last page link streams pages held later t =
    let k : TakenBy link.begun page link.streams streams later = t.taken in
    subst (λ (l : List KeptStream). AllZip (KeepsUp (pages ++ page ∷ [])) l (map (grows page k.takes.packets (is_last page)) held)) (sym k.is)
    (zip_step page.serial k.stream k.changed (KeepsUp pages) (KeepsUp (pages ++ page ∷ [])) (grows page k.takes.packets (is_last page)) k.front k.back held t.front t.back t.last
    (λ kept stream other u. keeps_beside pages page kept stream k.takes.packets other u)
    (λ stream u. keeps_grown pages page k.stream k.changed stream k.takes.packets k.own k.takes.serial k.takes.cut k.takes.ended u))

pub taken_serials : (page : Page) (link : KeptLink) (streams : List KeptStream) (later : List (List ℕ)) → (k : TakenBy link.begun page link.streams streams later) → serials streams ≡ serials link.streams
taken_serials page link streams later k =
    ap serials k.is ∙ swap k.front ∙ sym (ap serials k.was)
  where
    swap : (front : List KeptStream) → serials (front ++ k.changed ∷ k.back) ≡ serials (front ++ k.stream ∷ k.back)
    swap [] = ap (λ n. n ∷ serials k.back) k.takes.serial
    swap (x ∷ front) = ap (λ l. x.serial ∷ l) (swap front)

-- ---- while the link waits
-- headers and packets are all that ended
shared : (old : List (List ℕ)) (n : ℕ) (packets : List (List ℕ)) → (old ++ take n packets) ++ drop n packets ≡ old ++ packets
shared old n packets = append_assoc old (take n packets) (drop n packets) ∙ ap (λ l. old ++ l) (take-append-drop n packets)

abbrev pub Marks : List Page → KeptStream → Type 0
Marks pages kept = kept.ended ≡ has_ended pages kept.serial

pub marks : (pages : List Page) (kept : KeptStream) (stream : Stream) → KeepsUp pages kept stream → Marks pages kept
marks pages kept stream u = u.marked ∙ u.ended

-- the `Begin`, the ends, the page's packets and its end make the same as all packets of the page, added to what was
-- kept
pub begun_same : (page : Page) (link : KeptLink) (streams : List KeptStream) (pages : List Page) (held : List Stream) (later : List (List ℕ)) → (t : Taken page link streams pages held later) →
    link.begun ≡ false → ((serial : ℕ) → list_any (nat_eq serial) link.ends ≡ has_ended pages serial) → held ≡ map held_back link.streams →
    map (grows page later (is_last page)) (map (begun_as link.ends) streams) ≡ map (grows page t.taken.takes.packets (is_last page)) held
begun_same page link streams pages held later t waits_is ends kept =
    let k : TakenBy link.begun page link.streams streams later = t.taken in
    let last : Bool = is_last page in
    let p : List (List ℕ) = k.takes.packets in
    let n : ℕ = room_of link.begun k.stream in
    map-map (grows page later last) (begun_as link.ends) streams
    ∙ ap (map (λ x. grows page later last (begun_as link.ends x))) k.is
    ∙ map_step page.serial k.stream k.changed (Marks pages) (λ x. grows page later last (begun_as link.ends x)) (λ x. grows page p last (held_back x)) k.front k.back t.front t.back
    (zip_all (KeepsUp pages) (Marks pages) (marks pages) (k.front ++ k.stream ∷ k.back) held t.last)
    (λ x other m.
    grows_other page later last (begun_as link.ends x) other
    ∙ ap (stream_of x.serial x.headers) (ends x.serial ∙ sym m)
    ∙ sym (grows_other page p last (held_back x) other))
    (λ m.
    grows_own page later last (begun_as link.ends k.changed) (eq-eqb k.changed.serial page.serial (k.takes.serial ∙ k.own))
    ∙ ap (λ s. stream_of s (k.changed.headers ++ later) (list_any (nat_eq s) link.ends || last)) k.takes.serial
    ∙ ap (λ b. stream_of k.stream.serial (k.changed.headers ++ later) (b || last)) (ends k.stream.serial ∙ sym m)
    ∙ ap (λ l. stream_of k.stream.serial l (k.stream.ended || last)) (ap (λ l. l ++ later) k.takes.headers ∙ ap (λ l. (k.stream.headers ++ take n p) ++ l) k.takes.others ∙ shared k.stream.headers n p)
    ∙ sym (grows_own page p last (held_back k.stream) (eq-eqb k.stream.serial page.serial k.own)))
    ∙ sym (map-map (grows page p last) held_back (k.front ++ k.stream ∷ k.back))
    ∙ ap (λ l. map (grows page p last) (map held_back l)) (sym k.was)
    ∙ ap (map (grows page p last)) (sym kept)

-- all that ended is kept
pub kept_same : (page : Page) (link : KeptLink) (streams : List KeptStream) (pages : List Page) (held : List Stream) (later : List (List ℕ)) → (t : Taken page link streams pages held later) →
    later ≡ [] → held ≡ map held_back link.streams → map (grows page t.taken.takes.packets (is_last page)) held ≡ map held_back streams
kept_same page link streams pages held later t none kept =
    let k : TakenBy link.begun page link.streams streams later = t.taken in
    let last : Bool = is_last page in
    let p : List (List ℕ) = k.takes.packets in
    let n : ℕ = room_of link.begun k.stream in
    let all : k.changed.headers ≡ k.stream.headers ++ p =
    k.takes.headers ∙ sym (append-nil (k.stream.headers ++ take n p)) ∙ ap (λ l. (k.stream.headers ++ take n p) ++ l) (sym (sym k.takes.others ∙ none)) ∙ shared k.stream.headers n p in
    ap (map (grows page p last)) (kept ∙ ap (map held_back) k.was)
    ∙ map-map (grows page p last) held_back (k.front ++ k.stream ∷ k.back)
    ∙ sym (map_step page.serial k.stream k.changed (Marks pages) held_back (λ x. grows page p last (held_back x)) k.front k.back t.front t.back
    (zip_all (KeepsUp pages) (Marks pages) (marks pages) (k.front ++ k.stream ∷ k.back) held t.last)
    (λ x other m. sym (grows_other page p last (held_back x) other))
    (λ m.
    ap (λ s. stream_of s k.changed.headers k.changed.ended) k.takes.serial
    ∙ ap (λ l. stream_of k.stream.serial l k.changed.ended) all
    ∙ ap (stream_of k.stream.serial (k.stream.headers ++ p)) k.takes.ended
    ∙ sym (grows_own page p last (held_back k.stream) (eq-eqb k.stream.serial page.serial k.own))))
    ∙ ap (map held_back) (sym k.is)

-- and each of them is still wanted
more_wanted : (headers packets : List (List ℕ)) → AreWanted headers → AreWanted (headers ++ take (lacking headers) packets)
more_wanted [] packets w = absurd (omega (arith, w.some))
more_wanted (first ∷ headers) packets w =
    let room : ℕ = lacking (first ∷ headers) in
    record {
      some = omega arith;
      few = omega (arith, w.few, length-append (first ∷ headers) (take room packets), short room packets);
    }
  where
    short : (n : ℕ) (l : List (List ℕ)) → length (take n l) ≤ n
    short zero l = omega arith
    short (suc n) [] = omega arith
    short (suc n) (x ∷ l) = omega (arith, short n l)

pub taken_wanted : (page : Page) (link : KeptLink) (streams : List KeptStream) (later : List (List ℕ)) → (k : TakenBy link.begun page link.streams streams later) → link.begun ≡ false →
    AllByRecursion (λ (stream : KeptStream). AreWanted stream.headers) link.streams → AllByRecursion (λ (stream : KeptStream). AreWanted stream.headers) streams
taken_wanted page link streams later k waits_is all =
    subst (AllByRecursion (λ (stream : KeptStream). AreWanted stream.headers)) (sym k.is)
    (all_step page.serial k.stream k.changed (λ (stream : KeptStream). AreWanted stream.headers) (λ (stream : KeptStream). AreWanted stream.headers) k.front k.back
    (subst (AllByRecursion (λ (stream : KeptStream). AreWanted stream.headers)) k.was all)
    (λ x w. w)
    (λ w.
    subst AreWanted (ap (λ b. k.stream.headers ++ take (cond b 0 (lacking k.stream.headers)) k.takes.packets) (sym waits_is) ∙ sym k.takes.headers)
    (more_wanted k.stream.headers k.takes.packets w)))

-- the ends that wait, with the page's
pub ends_more : (pages : List Page) (page : Page) (ends : List ℕ) → ((serial : ℕ) → list_any (nat_eq serial) ends ≡ has_ended pages serial) →
    (serial : ℕ) → list_any (nat_eq serial) (ends ++ ends_by page) ≡ has_ended (pages ++ page ∷ []) serial
ends_more pages page ends h serial =
    list_any-append (nat_eq serial) ends (ends_by page)
    ∙ ap (λ b. b || list_any (nat_eq serial) (ends_by page)) (h serial)
    ∙ ap (λ b. has_ended pages serial || b) (one (is_last page) refl)
    ∙ sym (ended_both serial pages (page ∷ []))
  where
    turn : (b : Bool) (m n : ℕ) → nat_eq m n ≡ nat_eq n m
    turn b m n =
        elim (cases_Bool (nat_eq m n)) [
          | inl same ↦ same ∙ sym (eq-eqb n m (sym (eqb-true m n same)))
          | inr other ↦ other ∙ sym (ne_eqb n m (λ f. eqb-false m n other (sym f)))
        ]

    pick : (b last : Bool) → is_last page ≡ last → cond b (last || false) false ≡ list_any is_last (cond b (page ∷ []) [])
    pick true last e = ap (λ x. x || false) (sym e)
    pick false last e = refl

    fold_in : (b last : Bool) → list_any (nat_eq serial) (cond last (page.serial ∷ []) []) ≡ cond (nat_eq serial page.serial) (last || false) false
    fold_in b true = or-false (nat_eq serial page.serial) ∙ as_cond (nat_eq serial page.serial)
      where
        as_cond : (b : Bool) → b ≡ cond b true false
        as_cond true = refl
        as_cond false = refl
    fold_in b false = nothing (nat_eq serial page.serial)
      where
        nothing : (b : Bool) → false ≡ cond b false false
        nothing true = refl
        nothing false = refl

    one : (last : Bool) → is_last page ≡ last → list_any (nat_eq serial) (cond last (page.serial ∷ []) []) ≡ has_ended (page ∷ []) serial
    one last e = fold_in last last ∙ ap (λ b. cond b (last || false) false) (turn last serial page.serial) ∙ pick (nat_eq page.serial serial) last e
