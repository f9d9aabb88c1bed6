-- The links without the unfinished packet of a stream of the last one.
use Rattle.std.proofs.Common.{◌≡◌, ◌≢◌, ℕ, ◌+◌, ◌-◌, ◌≤◌, Bool, true, false, cond, List, [], ◌∷◌, ◌++◌, length, map, refl, sym, ◌∙◌, ap, subst, arith, inl, inr, length-append}
use Rattle.std.specs.Prelude.{nat_eq, nat_lt, not, ◌||◌, sum_by}
use Rattle.std.specs.List.{AllByRecursion, AllZip, flat_map, list_any}
use Rattle.std.proofs.lemmas.Bool.{cases_Bool, cases_eq, cond-true, cond-false, eq-eqb, ne_eqb}
use Rattle.std.proofs.lemmas.List.{length-map}
use Rattle.std.proofs.lemmas.List.Sums.{sum_by-cons}
use Rattle.ogg_page.specs.Page.{Page, IsPage, bytes_of_pages, page_size}
use Rattle.ogg_page.specs.Lacing.{ends_open}
use Rattle.ogg_page.specs.LogicalStream.{FlagsFit, HoldsPackets, is_first, is_last, joined_bodies, joined_lacing, number_behind}
use Rattle.link_chain.specs.ChainState.{ChainState, chain_state_of, last_link, last_position, state_of}
use Rattle.link_chain.specs.Followed.{dropped}
use Rattle.link_chain.specs.Links.{AllButLast, AreLinks, IsLink, all_ended, has_ended, has_stream, pages_with, serials_of}
use Rattle.link_chain.specs.Progress.{change_at, left_whole}
use Rattle.link_chain.specs.Size.{size_of_pages}
use Rattle.link_chain.specs.Laws.Grow.{all_filter}
use Rattle.link_chain.specs.Laws.LastLink.{last_is_link}
use Rattle.link_chain.specs.Laws.StateBehind.{chain_of, map-map, map-same, size_of_links, state}
use Rattle.link_chain.specs.Laws.TakenLinks.{without}
use Rattle.chain_rules.specs.Recording.{Stream}
use Rattle.ogg_command.specs.declared.command.Command.{Command}
use Rattle.import_gather.specs.Gathered.{AreWanted, Gathered, HasGathered, HoldsSoFar, KeepsUp, Waits, before_last, held_back, without_packet}
use Rattle.import_gather.specs.Kept.{KeptStream, is_ready, is_waiting, kept_bytes, rest_of, size_of_rest, without_rest}
use Rattle.import_gather.specs.Laws.{serials}
use Rattle.import_mend.specs.Cut.{cut_back, cut_before, cut_links, cut_pages}
use Rattle.import_mend.proofs.Alike.{Alike, AreAlike, any_alike, ended_alike, itself, link_alike, number_alike, position_alike, serials_alike, with_alike}
use Rattle.import_mend.proofs.Cuts.{before_alike, before_is_page, cut_closed, cut_fits, cut_holds, less_bodies, less_lacing}

-- ---- the pages of the last link
abbrev piece : ℕ → Page → List Page → Page
piece serial page pages = cond (nat_eq page.serial serial) (cut_before (pages_with serial pages) page) page

piece_alike : (serial : ℕ) (page : Page) (pages : List Page) → Alike page (piece serial page pages)
piece_alike serial page pages = by_case (nat_eq page.serial serial)
  where
    by_case : (b : Bool) → Alike page (cond b (cut_before (pages_with serial pages) page) page)
    by_case true = before_alike (pages_with serial pages) page
    by_case false = itself page

pub back_alike : (serial : ℕ) (pages : List Page) → AreAlike pages (cut_back serial pages)
back_alike serial [] = tt
back_alike serial (page ∷ pages) = (piece_alike serial page pages, back_alike serial pages)

pub back_pages : (serial : ℕ) (pages : List Page) → AllByRecursion IsPage pages → AllByRecursion IsPage (cut_back serial pages)
back_pages serial [] all = tt
back_pages serial (page ∷ pages) all = (by_case (nat_eq page.serial serial), back_pages serial pages all.1)
  where
    by_case : (b : Bool) → IsPage (cond b (cut_before (pages_with serial pages) page) page)
    by_case true = before_is_page (pages_with serial pages) page all.0
    by_case false = all.0

with_own : (serial : ℕ) (page : Page) (pages : List Page) → nat_eq page.serial serial ≡ true → pages_with serial (page ∷ pages) ≡ page ∷ pages_with serial pages
with_own serial page pages own = cond-true (nat_eq page.serial serial) (page ∷ pages_with serial pages) (pages_with serial pages) own

with_other : (serial : ℕ) (page : Page) (pages : List Page) → nat_eq page.serial serial ≡ false → pages_with serial (page ∷ pages) ≡ pages_with serial pages
with_other serial page pages other = cond-false (nat_eq page.serial serial) (page ∷ pages_with serial pages) (pages_with serial pages) other

pub own_cut : (serial : ℕ) (pages : List Page) → pages_with serial (cut_back serial pages) ≡ cut_pages (pages_with serial pages)
own_cut serial [] = refl
own_cut serial (page ∷ pages) =
    let p : Page = piece serial page pages in
    let named : nat_eq p.serial serial ≡ nat_eq page.serial serial = ap (λ n. nat_eq n serial) (piece_alike serial page pages).serial in
    elim (cases_Bool (nat_eq page.serial serial)) [
      | inl own ↦
          with_own serial p (cut_back serial pages) (named ∙ own)
          ∙ ap (λ (q : Page). q ∷ pages_with serial (cut_back serial pages)) (cond-true (nat_eq page.serial serial) (cut_before (pages_with serial pages) page) page own)
          ∙ ap (λ l. cut_before (pages_with serial pages) page ∷ l) (own_cut serial pages)
          ∙ ap cut_pages (sym (with_own serial page pages own))
      | inr other ↦ with_other serial p (cut_back serial pages) (named ∙ other) ∙ own_cut serial pages ∙ ap cut_pages (sym (with_other serial page pages other))
    ]

pub other_cut : (serial other : ℕ) (pages : List Page) → (other ≡ serial → ⊥) → pages_with other (cut_back serial pages) ≡ pages_with other pages
other_cut serial other [] ne = refl
other_cut serial other (page ∷ pages) ne =
    let p : Page = piece serial page pages in
    let rest : pages_with other (cut_back serial pages) ≡ pages_with other pages = other_cut serial other pages ne in
    elim (cases_eq page.serial serial) [
      | inl own ↦
          (let apart : nat_eq page.serial other ≡ false = ne_eqb page.serial other (λ e. ne (sym e ∙ own)) in
          with_other other p (cut_back serial pages) (ap (λ n. nat_eq n other) (piece_alike serial page pages).serial ∙ apart)
          ∙ rest ∙ sym (with_other other page pages apart))
      | inr away ↦
          ap (λ (q : Page). pages_with other (q ∷ cut_back serial pages)) (cond-false (nat_eq page.serial serial) (cut_before (pages_with serial pages) page) page (ne_eqb page.serial serial away))
          ∙ ap (λ l. cond (nat_eq page.serial other) (page ∷ l) l) rest
    ]

-- how many bytes they lose
pub back_size : (serial : ℕ) (pages : List Page) →
    size_of_pages (cut_back serial pages) + length (joined_lacing (pages_with serial pages)) + length (joined_bodies (pages_with serial pages))
    ≡ size_of_pages pages + length (joined_lacing (cut_pages (pages_with serial pages))) + length (joined_bodies (cut_pages (pages_with serial pages)))
back_size serial [] = refl
back_size serial (page ∷ pages) =
    let p : Page = piece serial page pages in
    let own : List Page = pages_with serial pages in
    let here = sum_by-cons page_size page pages in
    let there = sum_by-cons page_size p (cut_back serial pages) in
    let rest = back_size serial pages in
    elim (cases_Bool (nat_eq page.serial serial)) [
      | inl mine ↦
          (let c : Page = cut_before own page in
          let is : p ≡ c = cond-true (nat_eq page.serial serial) c page mine in
          let old : pages_with serial (page ∷ pages) ≡ page ∷ own = with_own serial page pages mine in
          omega (
            arith,
            here,
            there,
            rest,
            ap page_size is,
            ap (λ l. length (joined_lacing l)) old,
            ap (λ l. length (joined_bodies l)) old,
            ap (λ l. length (joined_lacing (cut_pages l))) old,
            ap (λ l. length (joined_bodies (cut_pages l))) old,
            length-append page.lacing (joined_lacing own),
            length-append page.body (joined_bodies own),
            length-append c.lacing (joined_lacing (cut_pages own)),
            length-append c.body (joined_bodies (cut_pages own)),
          ))
      | inr other ↦
          (let is : p ≡ page = cond-false (nat_eq page.serial serial) (cut_before own page) page other in
          let old : pages_with serial (page ∷ pages) ≡ own = with_other serial page pages other in
          omega (
            arith,
            here,
            there,
            rest,
            ap page_size is,
            ap (λ l. length (joined_lacing l)) old,
            ap (λ l. length (joined_bodies l)) old,
            ap (λ l. length (joined_lacing (cut_pages l))) old,
            ap (λ l. length (joined_bodies (cut_pages l))) old,
          ))
    ]

-- ---- all links
last_cut : (serial : ℕ) (links : List (List Page)) → last_link (cut_links serial links) ≡ cut_back serial (last_link links)
last_cut serial [] = refl
last_cut serial (l ∷ []) = refl
last_cut serial (l ∷ n ∷ []) = refl
last_cut serial (l ∷ n ∷ m ∷ links) = last_cut serial (n ∷ m ∷ links)

before_cut : (serial : ℕ) (links : List (List Page)) → before_last (cut_links serial links) ≡ before_last links
before_cut serial [] = refl
before_cut serial (l ∷ []) = refl
before_cut serial (l ∷ n ∷ []) = refl
before_cut serial (l ∷ n ∷ m ∷ links) = ap (λ x. l ∷ x) (before_cut serial (n ∷ m ∷ links))

length_cut : (serial : ℕ) (links : List (List Page)) → length (cut_links serial links) ≡ length links
length_cut serial [] = refl
length_cut serial (l ∷ []) = refl
length_cut serial (l ∷ n ∷ links) = omega (arith, length_cut serial (n ∷ links))

serials_cut : (serial : ℕ) (links : List (List Page)) → flat_map serials_of (cut_links serial links) ≡ flat_map serials_of links
serials_cut serial [] = refl
serials_cut serial (l ∷ []) = ap (λ x. x ++ []) (serials_alike l (cut_back serial l) (back_alike serial l))
serials_cut serial (l ∷ n ∷ links) = ap (λ x. serials_of l ++ x) (serials_cut serial (n ∷ links))

but_last_cut : (P : List Page → Type 0) (serial : ℕ) (links : List (List Page)) → AllButLast P links → AllButLast P (cut_links serial links)
but_last_cut P serial [] all = tt
but_last_cut P serial (l ∷ []) all = tt
but_last_cut P serial (l ∷ n ∷ []) all = all
but_last_cut P serial (l ∷ n ∷ m ∷ links) all = (all.0, but_last_cut P serial (n ∷ m ∷ links) all.1)

each_cut : (P : List Page → Type 0) (serial : ℕ) (links : List (List Page)) → AllByRecursion P links → (links ≢ [] → P (cut_back serial (last_link links))) → AllByRecursion P (cut_links serial links)
each_cut P serial [] all last = tt
each_cut P serial (l ∷ []) all last = (last (λ e. cc), tt)
each_cut P serial (l ∷ n ∷ links) all last = (all.0, each_cut P serial (n ∷ links) all.1 (λ _. last (λ e. cc)))

size_cut : (serial n : ℕ) (links : List (List Page)) → size_of_pages (cut_back serial (last_link links)) + n ≡ size_of_pages (last_link links) → size_of_links (cut_links serial links) ≡ size_of_links links - n
size_cut serial n [] e = omega arith
size_cut serial n (l ∷ []) e = omega (arith, e, sum_by-cons size_of_pages l [], sum_by-cons size_of_pages (cut_back serial l) [])
size_cut serial n (l ∷ k ∷ links) e =
    omega (
      arith,
      size_cut serial n (k ∷ links) e,
      size_last (k ∷ links) (λ f. cc),
      e,
      sum_by-cons size_of_pages l (k ∷ links),
      sum_by-cons size_of_pages l (cut_links serial (k ∷ links)),
    )
  where
    size_last : (links : List (List Page)) → links ≢ [] → size_of_pages (last_link links) ≤ size_of_links links
    size_last [] some = absurd (some refl)
    size_last (l ∷ []) some = omega (arith, sum_by-cons size_of_pages l [])
    size_last (l ∷ n ∷ links) some = omega (arith, sum_by-cons size_of_pages l (n ∷ links), size_last (n ∷ links) (λ f. cc))

-- ---- what is kept of the streams
-- the pages of a stream hold packets, and then this rest of one
pub record HoldsRest (pages : List Page) (rest : List ℕ) : Type 0 where
  pub packets : List (List ℕ)
  pub segments : ℕ
  pub holds : HoldsPackets pages packets segments rest

pub find_rest : (serial : ℕ) (pages : List Page) (streams : List KeptStream) (held : List Stream) → AllZip (KeepsUp pages) streams held
    → (list_any (nat_eq serial) (serials streams) ≡ false → pages_with serial pages ≡ []) → HoldsRest (pages_with serial pages) (rest_of serial streams)
find_rest serial pages [] [] z none =
    record { packets = []; segments = 0; holds = subst (λ (l : List Page). HoldsPackets l [] 0 []) (sym (none refl)) (record { lacing = refl; bodies = refl; rest_size = refl }) }
find_rest serial pages [] (s ∷ held) z none = absurd z
find_rest serial pages (k ∷ streams) [] z none = absurd z
find_rest serial pages (k ∷ streams) (s ∷ held) z none =
    elim (cases_eq k.serial serial) [
      | inl own ↦
          record {
            packets = s.packets;
            segments = z.0.segments;
            holds = subst (λ (l : List ℕ). HoldsPackets (pages_with serial pages) s.packets z.0.segments l) (sym (cond-true (nat_eq k.serial serial) k.rest (rest_of serial streams) (eq-eqb k.serial serial own)))
                (subst (λ n. HoldsPackets (pages_with n pages) s.packets z.0.segments k.rest) own z.0.packets);
          }
      | inr other ↦
          subst (λ (l : List ℕ). HoldsRest (pages_with serial pages) l) (sym (cond-false (nat_eq k.serial serial) k.rest (rest_of serial streams) (ne_eqb k.serial serial other)))
          (find_rest serial pages streams held z.1 (λ e. none (ap (λ b. b || list_any (nat_eq serial) (serials streams)) (ne_eqb serial k.serial (λ f. other (sym f))) ∙ e)))
    ]

-- without a rest nothing else changes
lighter : {X : Type 0} (f : KeptStream → X) (serial : ℕ) (k : KeptStream) → f (record k { rest = [] }) ≡ f k → f (without_rest serial k) ≡ f k
lighter {X} f serial k same = by_case (nat_eq k.serial serial)
  where
    by_case : (b : Bool) → f (cond b (record k { rest = [] }) k) ≡ f k
    by_case true = same
    by_case false = refl

keeps_cut : (serial : ℕ) (pages : List Page) (k : KeptStream) (s : Stream) → AllByRecursion IsPage pages → KeepsUp pages k s → KeepsUp (cut_back serial pages) (without_rest serial k) s
keeps_cut serial pages k s all u =
    elim (cases_eq k.serial serial) [
      | inl own ↦
          (let is : without_rest serial k ≡ record k { rest = [] } = cond-true (nat_eq k.serial serial) (record k { rest = [] }) k (eq-eqb k.serial serial own) in
          let pages_own : AllByRecursion IsPage (pages_with serial pages) = all_filter IsPage (λ (p : Page). nat_eq p.serial serial) pages all in
          let before : HoldsPackets (pages_with serial pages) s.packets u.segments k.rest = subst (λ n. HoldsPackets (pages_with n pages) s.packets u.segments k.rest) own u.packets in
          let now : HoldsPackets (pages_with serial (cut_back serial pages)) s.packets 0 [] =
          subst (λ (l : List Page). HoldsPackets l s.packets 0 []) (sym (own_cut serial pages)) (cut_holds (pages_with serial pages) s.packets u.segments k.rest pages_own before) in
          subst (λ (x : KeptStream). KeepsUp (cut_back serial pages) x s) (sym is) (record {
            serial = u.serial;
            segments = 0;
            packets = subst (λ n. HoldsPackets (pages_with n (cut_back serial pages)) s.packets 0 []) (sym own) now;
            ended = u.ended ∙ sym (ended_alike pages (cut_back serial pages) k.serial (back_alike serial pages));
            marked = u.marked;
          }))
      | inr other ↦
          (let is : without_rest serial k ≡ k = cond-false (nat_eq k.serial serial) (record k { rest = [] }) k (ne_eqb k.serial serial other) in
          subst (λ (x : KeptStream). KeepsUp (cut_back serial pages) x s) (sym is) (record {
            serial = u.serial;
            segments = u.segments;
            packets = subst (λ (l : List Page). HoldsPackets l s.packets u.segments k.rest) (sym (other_cut serial k.serial pages other)) u.packets;
            ended = u.ended ∙ sym (ended_alike pages (cut_back serial pages) k.serial (back_alike serial pages));
            marked = u.marked;
          }))
    ]

all_keep : (serial : ℕ) (pages : List Page) (streams : List KeptStream) (held : List Stream) → AllByRecursion IsPage pages → AllZip (KeepsUp pages) streams held →
    AllZip (KeepsUp (cut_back serial pages)) (map (without_rest serial) streams) held
all_keep serial pages [] [] all z = tt
all_keep serial pages [] (s ∷ held) all z = absurd z
all_keep serial pages (k ∷ streams) [] all z = absurd z
all_keep serial pages (k ∷ streams) (s ∷ held) all z = (keeps_cut serial pages k s all z.0, all_keep serial pages streams held all z.1)

each_lighter : {X : Type 0} (f : KeptStream → X) (serial : ℕ) → ((k : KeptStream) → f (record k { rest = [] }) ≡ f k) → (streams : List KeptStream) → map f (map (without_rest serial) streams) ≡ map f streams
each_lighter f serial same [] = refl
each_lighter f serial same (k ∷ streams) =
    ap (λ x. x ∷ map f (map (without_rest serial) streams)) (lighter f serial k (same k)) ∙ ap (λ l. f k ∷ l) (each_lighter f serial same streams)

still_wanted : (serial : ℕ) (streams : List KeptStream) → AllByRecursion (λ (k : KeptStream). AreWanted k.headers) streams → AllByRecursion (λ (k : KeptStream). AreWanted k.headers) (map (without_rest serial) streams)
still_wanted serial [] all = tt
still_wanted serial (k ∷ streams) all =
    (subst AreWanted (sym (lighter (λ (x : KeptStream). x.headers) serial k refl)) all.0, still_wanted serial streams all.1)

still_waiting : (serial : ℕ) (streams : List KeptStream) → list_any is_waiting (map (without_rest serial) streams) ≡ list_any is_waiting streams
still_waiting serial [] = refl
still_waiting serial (k ∷ streams) =
    ap (λ b. b || list_any is_waiting (map (without_rest serial) streams)) (lighter is_waiting serial k refl) ∙ ap (λ b. is_waiting k || b) (still_waiting serial streams)

still_kept : (serial : ℕ) (streams : List KeptStream) → kept_bytes (map (without_rest serial) streams) ≡ kept_bytes streams
still_kept serial [] = refl
still_kept serial (k ∷ streams) =
    sum_by-cons (λ (x : KeptStream). sum_by length x.headers) (without_rest serial k) (map (without_rest serial) streams)
    ∙ ap (λ n. n + kept_bytes (map (without_rest serial) streams)) (lighter (λ (x : KeptStream). sum_by length x.headers) serial k refl)
    ∙ ap (λ n. sum_by length k.headers + n) (still_kept serial streams)
    ∙ sym (sum_by-cons (λ (x : KeptStream). sum_by length x.headers) k streams)

still_ready : (serial : ℕ) (streams : List KeptStream) → is_ready (map (without_rest serial) streams) ≡ is_ready streams
still_ready serial streams =
    ap (λ b. not b || nat_lt 4194304 (kept_bytes (map (without_rest serial) streams))) (still_waiting serial streams)
    ∙ ap (λ n. not (list_any is_waiting streams) || nat_lt 4194304 n) (still_kept serial streams)

-- ---- the chain state
states_cut : (serial : ℕ) (pages : List Page) (rest : List ℕ) → AllByRecursion IsPage pages → HoldsRest (pages_with serial pages) rest → (other : ℕ) →
    state_of (cut_back serial pages) other ≡ change_at serial left_whole (state_of pages other)
states_cut serial pages rest all h other =
    let cut : List Page = cut_back serial pages in
    let alike : AreAlike (pages_with other pages) (pages_with other cut) = with_alike other pages cut (back_alike serial pages) in
    let same : (finished : Bool) → state other (number_behind (pages_with other cut)) (last_position (pages_with other cut)) (has_ended cut other) finished
    ≡ state other (number_behind (pages_with other pages)) (last_position (pages_with other pages)) (has_ended pages other) finished =
    λ finished. (
    ap (λ n. state other n (last_position (pages_with other cut)) (has_ended cut other) finished) (number_alike (pages_with other pages) (pages_with other cut) alike)
    ∙ ap (λ n. state other (number_behind (pages_with other pages)) n (has_ended cut other) finished) (position_alike (pages_with other pages) (pages_with other cut) alike)
    ∙ ap (λ b. state other (number_behind (pages_with other pages)) (last_position (pages_with other pages)) b finished) (ended_alike pages cut other (back_alike serial pages))
    ) in
    elim (cases_eq other serial) [
      | inl own ↦
          (let pages_own : AllByRecursion IsPage (pages_with serial pages) = all_filter IsPage (λ (p : Page). nat_eq p.serial serial) pages all in
          let closed : ends_open (joined_lacing (pages_with other cut)) ≡ false =
          ap (λ n. ends_open (joined_lacing (pages_with n cut))) own ∙ ap (λ l. ends_open (joined_lacing l)) (own_cut serial pages)
          ∙ cut_closed (pages_with serial pages) h.packets h.segments rest pages_own h.holds in
          ap (λ b. state other (number_behind (pages_with other cut)) (last_position (pages_with other cut)) (has_ended cut other) (not b)) closed
          ∙ same true
          ∙ sym (cond-true (nat_eq other serial) (left_whole (state_of pages other)) (state_of pages other) (eq-eqb other serial own)))
      | inr away ↦
          ap (λ (l : List Page). state other (number_behind l) (last_position l) (list_any is_last l) (not (ends_open (joined_lacing l)))) (other_cut serial other pages away)
          ∙ sym (cond-false (nat_eq other serial) (left_whole (state_of pages other)) (state_of pages other) (ne_eqb other serial away))
    ]

module _ (serial : ℕ) (links : List (List Page)) (rest : List ℕ) (all : AllByRecursion IsPage (last_link links)) (h : HoldsRest (pages_with serial (last_link links)) rest) where
  abbrev last : List Page
  last = last_link links

  abbrev cut : List Page
  cut = cut_back serial last

  lost : size_of_pages cut + size_of_rest rest ≡ size_of_pages last
  lost =
      let pages_own : AllByRecursion IsPage (pages_with serial last) = all_filter IsPage (λ (p : Page). nat_eq p.serial serial) last all in
      omega (
        arith,
        back_size serial last,
        less_lacing (pages_with serial last) h.packets h.segments rest pages_own h.holds,
        less_bodies (pages_with serial last) h.packets h.segments rest pages_own h.holds,
        h.holds.rest_size,
      )

  chain_cut : chain_state_of (cut_links serial links) ≡ dropped (chain_state_of links) serial (size_of_rest rest)
  chain_cut =
      let streams : map (state_of cut) (serials_of cut) ≡ map (change_at serial left_whole) (map (state_of last) (serials_of last)) =
      ap (map (state_of cut)) (serials_alike last cut (back_alike serial last))
      ∙ map-same (state_of cut) (λ s. change_at serial left_whole (state_of last s)) (states_cut serial last rest all h) (serials_of last)
      ∙ sym (map-map (change_at serial left_whole) (state_of last) (serials_of last)) in
      let now : List (List Page) = cut_links serial links in
      let later : List Page → Bool = λ l. list_any (λ (p : Page). not (is_first p)) l in
      ap (λ (l : List Page). chain_of (map (state_of l) (serials_of l)) (list_any (λ (p : Page). not (is_first p)) l) (flat_map serials_of now) (length now) (size_of_links now)) (last_cut serial links)
      ∙ ap (λ l. chain_of l (later cut) (flat_map serials_of now) (length now) (size_of_links now)) streams
      ∙ ap (λ b. chain_of (map (change_at serial left_whole) (map (state_of last) (serials_of last))) b (flat_map serials_of now) (length now) (size_of_links now))
      (any_alike (λ (p : Page). not (is_first p)) (λ p q a. ap not a.first) last cut (back_alike serial last))
      ∙ ap (λ s. chain_of (map (change_at serial left_whole) (map (state_of last) (serials_of last))) (later last) s (length now) (size_of_links now)) (serials_cut serial links)
      ∙ ap (λ n. chain_of (map (change_at serial left_whole) (map (state_of last) (serials_of last))) (later last) (flat_map serials_of links) n (size_of_links now)) (length_cut serial links)
      ∙ ap (λ n. chain_of (map (change_at serial left_whole) (map (state_of last) (serials_of last))) (later last) (flat_map serials_of links) (length links) n) (size_cut serial (size_of_rest rest) links lost)

-- ---- the links
pub pages_of_last : (links : List (List Page)) → AllByRecursion (AllByRecursion IsPage) links → AllByRecursion IsPage (last_link links)
pages_of_last [] all = tt
pages_of_last (l ∷ []) all = all.0
pages_of_last (l ∷ n ∷ links) all = pages_of_last (n ∷ links) all.1

cut_is_link : (serial : ℕ) (pages : List Page) → AllByRecursion IsPage pages → IsLink pages → IsLink (cut_back serial pages)
cut_is_link serial pages all l = link_alike pages (cut_back serial pages) (back_alike serial pages) l fit
  where
    fit : (other : ℕ) → FlagsFit (pages_with other (cut_back serial pages))
    fit other =
        elim (cases_eq other serial) [
          | inl own ↦
              subst (λ n. FlagsFit (pages_with n (cut_back serial pages))) (sym own)
              (subst (λ (x : List Page). FlagsFit x) (sym (own_cut serial pages))
              (cut_fits [] [] (pages_with serial pages) tt (λ _. refl) (λ _. refl) (all_filter IsPage (λ (p : Page). nat_eq p.serial serial) pages all) (l.streams serial)))
          | inr away ↦ subst (λ (x : List Page). FlagsFit x) (sym (other_cut serial other pages away)) (l.streams other)
        ]

pub cut_are_links : (serial : ℕ) (bytes : List ℕ) (links : List (List Page)) → AreLinks bytes links → AreLinks (flat_map bytes_of_pages (cut_links serial links)) (cut_links serial links)
cut_are_links serial bytes links a = record {
  spelled = refl;
  pages = each_cut (AllByRecursion IsPage) serial links a.pages (λ some. back_pages serial (last_link links) (pages_of_last links a.pages));
  few = omega (arith, a.few, length_cut serial links);
  each = each_cut IsLink serial links a.each (λ some. cut_is_link serial (last_link links) (pages_of_last links a.pages) (last_is_link links a.each some));
  ended = but_last_cut (λ link. all_ended link ≡ true) serial links a.ended;
}

-- a stream that isn't there has no pages
pub absent_pages : (serial : ℕ) (bytes : List ℕ) (links : List (List Page)) → AreLinks bytes links → has_stream (last_link links) serial ≡ false → pages_with serial (last_link links) ≡ []
absent_pages serial bytes [] a none = refl
absent_pages serial bytes (l ∷ links) a none = without (last_link (l ∷ links)) serial (last_is_link (l ∷ links) a.each (λ e. cc)) none

-- ---- what is gathered
pub drops : (serial : ℕ) (links : List (List Page)) (g : Gathered) (given : List Command) → HasGathered links g given → HasGathered (cut_links serial links) (without_packet serial g) given
drops serial links g given h =
    let pages : List Page = last_link links in
    let cut : List Page = cut_back serial pages in
    let alike : AreAlike pages cut = back_alike serial pages in
    let all : AllByRecursion IsPage pages = pages_of_last links h.are.pages in
    let rest : List ℕ = rest_of serial g.link.streams in
    let held : HoldsRest (pages_with serial pages) rest =
    find_rest serial pages g.link.streams h.so_far.held h.so_far.last (λ none. absent_pages serial h.bytes links h.are (ap (list_any (nat_eq serial)) (sym h.so_far.order) ∙ none)) in
    let streams : List KeptStream = map (without_rest serial) g.link.streams in
    let chain : ChainState = dropped g.chain serial (size_of_rest rest) in
    record {
      bytes = flat_map bytes_of_pages (cut_links serial links);
      are = cut_are_links serial h.bytes links h.are;
      chain = ap (λ (c : ChainState). dropped c serial (size_of_rest rest)) h.chain ∙ sym (chain_cut serial links rest all held);
      so_far =
          subst (λ (f : List (List Page)). HoldsSoFar f (last_link (cut_links serial links)) (without_packet serial g) given) (sym (before_cut serial links))
          (subst (λ (l : List Page). HoldsSoFar (before_last links) l (without_packet serial g) given) (sym (last_cut serial links))
          (record {
            done = h.so_far.done;
            before = h.so_far.before;
            held = h.so_far.held;
            last = all_keep serial pages g.link.streams h.so_far.held all h.so_far.last;
            order = each_lighter (λ (k : KeptStream). k.serial) serial (λ k. refl) g.link.streams ∙ h.so_far.order ∙ sym (serials_alike pages cut alike);
            some = λ begun. ap (λ n. not (nat_eq n 0)) (length-map g.link.streams (without_rest serial)) ∙ h.so_far.some begun;
            out = h.so_far.out;
            waiting = λ waits.
                let w : Waits pages g.chain g.link h.so_far.held = h.so_far.waiting waits in
                record {
                  kept = w.kept ∙ sym (each_lighter held_back serial (λ k. refl) g.link.streams);
                  ends = λ s. w.ends s ∙ sym (ended_alike pages cut s alike);
                  each = still_wanted serial g.link.streams w.each;
                  unready = λ e. still_ready serial g.link.streams ∙ w.unready e;
                };
          }));
    }
