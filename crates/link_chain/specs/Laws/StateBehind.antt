-- The chain state after further pages of one stream.
use Rattle.std.proofs.Common.{◌≡◌, ◌≢◌, ℕ, ◌+◌, ◌<◌, Bool, true, List, [], ◌∷◌, ◌++◌, length, map, sum_by, refl, sym, ◌∙◌, ap, arith, inl, inr, eq-eqb}
use Rattle.std.specs.Prelude.{nat_eq, not}
use Rattle.std.specs.List.{list_any, flat_map}
use Rattle.std.proofs.lemmas.Bool.{cond-true, cond-false, ne_eqb, cases_eq, or_left, or_right}
use Rattle.std.proofs.lemmas.List.Folds.{list_any-append}
use Rattle.std.proofs.lemmas.List.Sums.{sum_by-append, sum_by-cons}
use Rattle.ogg_page.specs.Page.{Page, page_size}
use Rattle.ogg_page.specs.Lacing.{ends_open}
use Rattle.ogg_page.specs.LogicalStream.{is_first, is_last, joined_lacing, number_behind}
use Rattle.link_chain.specs.declared.stream_state.StreamState.{StreamState}
use Rattle.link_chain.specs.Followed.{moved_by}
use Rattle.link_chain.specs.Links.{serials_of}
use Rattle.link_chain.specs.ChainState.{ChainState, chain_state_of, state_of, last_link, last_position}
use Rattle.link_chain.specs.Progress.{change_at}
use Rattle.link_chain.specs.Links.{with_pages}
use Rattle.link_chain.specs.Size.{size_of_pages}
use Rattle.link_chain.specs.Laws.Grow.{Own, Unmarked, with_other, serials_same}
use Rattle.link_chain.specs.Laws.LastLink.{length_more}

-- ---- what further pages of the last link leave
pub last_is : (done : List (List Page)) (link : List Page) → last_link (done ++ link ∷ []) ≡ link
last_is [] link = refl
last_is (d ∷ []) link = refl
last_is (d ∷ e ∷ done) link = last_is (e ∷ done) link

pub last_with : (links : List (List Page)) (pages : List Page) → links ≢ [] → last_link (with_pages links pages) ≡ last_link links ++ pages
last_with [] pages some = absurd (some refl)
last_with (link ∷ []) pages some = refl
last_with (link ∷ next ∷ links) pages some = last_behind link (next ∷ links) pages (λ e. cc) ∙ last_with (next ∷ links) pages (λ e. cc)
  where
    last_behind : (link : List Page) (links : List (List Page)) (pages : List Page) → links ≢ [] → last_link (link ∷ with_pages links pages) ≡ last_link (with_pages links pages)
    last_behind link [] pages some = absurd (some refl)
    last_behind link (a ∷ []) pages some = refl
    last_behind link (a ∷ b ∷ links) pages some = refl

serials_with : (links : List (List Page)) (pages : List Page) → Unmarked pages → flat_map serials_of (with_pages links pages) ≡ flat_map serials_of links
serials_with [] pages h = refl
serials_with (link ∷ []) pages h = ap (λ l. l ++ []) (serials_same link pages h)
serials_with (link ∷ next ∷ links) pages h = ap (λ l. serials_of link ++ l) (serials_with (next ∷ links) pages h)

abbrev pub size_of_links : List (List Page) → ℕ
size_of_links links = sum_by (λ link. sum_by page_size link) links

pub size_with : (links : List (List Page)) (pages : List Page) → links ≢ [] → size_of_links (with_pages links pages) ≡ size_of_links links + size_of_pages pages
size_with [] pages some = absurd (some refl)
size_with (link ∷ []) pages some =
    omega (arith, sum_by-cons size_of_pages (link ++ pages) [], sum_by-cons size_of_pages link [], sum_by-append page_size link pages)
size_with (link ∷ next ∷ links) pages some =
    omega (arith, sum_by-cons size_of_pages link (with_pages (next ∷ links) pages), sum_by-cons size_of_pages link (next ∷ links), size_with (next ∷ links) pages (λ e. cc))

pub data_with : (link pages : List Page) → 0 < length pages → Unmarked pages → list_any (λ page. not (is_first page)) (link ++ pages) ≡ true
data_with link [] some h = absurd (omega arith)
data_with link (page ∷ pages) some h =
    list_any-append (λ (p : Page). not (is_first p)) link (page ∷ pages)
    ∙ or_right (list_any (λ (p : Page). not (is_first p)) link) (list_any (λ (p : Page). not (is_first p)) (page ∷ pages))
    (or_left (not (is_first page)) (list_any (λ (p : Page). not (is_first p)) pages) (ap not h.0))

-- a stream's state, by what is said of it
abbrev pub state : ℕ → ℕ → ℕ → Bool → Bool → StreamState
state serial next position ended finished =
    record { serial = serial; next_sequence = next; last_position = position; ended = ended; finished = finished }

pub state_other : (link pages : List Page) (serial other : ℕ) → Own serial pages → (serial ≡ other → ⊥) → state_of (link ++ pages) other ≡ state_of link other
state_other link pages serial other own ne =
    ap (λ (own : List Page). state other (number_behind own) (last_position own) (list_any is_last own) (not (ends_open (joined_lacing own))))
    (with_other serial other link pages own ne)

pub map-same : {X Y : Type 0} (f g : X → Y) → ((x : X) → f x ≡ g x) → (xs : List X) → map f xs ≡ map g xs
map-same f g e [] = refl
map-same f g e (x ∷ xs) = ap (λ y. y ∷ map f xs) (e x) ∙ ap (λ l. g x ∷ l) (map-same f g e xs)

pub map-map : {X Y Z : Type 0} (g : Y → Z) (f : X → Y) (xs : List X) → map g (map f xs) ≡ map (λ x. g (f x)) xs
map-map g f [] = refl
map-map g f (x ∷ xs) = ap (λ l. g (f x) ∷ l) (map-map g f xs)

each_changed : (link pages : List Page) (serial : ℕ) (change : StreamState → StreamState) → Own serial pages →
    state_of (link ++ pages) serial ≡ change (state_of link serial) → (other : ℕ) → state_of (link ++ pages) other ≡ change_at serial change (state_of link other)
each_changed link pages serial change own e other =
    elim (cases_eq other serial) [
      | inl same ↦
          ap (state_of (link ++ pages)) same ∙ e ∙ ap (λ s. change (state_of link s)) (sym same)
          ∙ sym (cond-true (nat_eq other serial) (change (state_of link other)) (state_of link other) (eq-eqb other serial same))
      | inr ne ↦
          state_other link pages serial other own (λ s. ne (sym s))
          ∙ sym (cond-false (nat_eq other serial) (change (state_of link other)) (state_of link other) (ne_eqb other serial ne))
    ]

abbrev pub chain_of : List StreamState → Bool → List ℕ → ℕ → ℕ → ChainState
chain_of streams has_data serials links length_of = record { streams = streams; has_data = has_data; serials = serials; links = links; length_of = length_of }

pub state_behind : (links : List (List Page)) (pages : List Page) (serial : ℕ) (change : StreamState → StreamState) → links ≢ [] → 0 < length pages → Own serial pages → Unmarked pages →
    state_of (last_link links ++ pages) serial ≡ change (state_of (last_link links) serial) →
    chain_state_of (with_pages links pages) ≡ moved_by (chain_state_of links) serial change (size_of_pages pages)
state_behind links pages serial change some many own unmarked e =
    let last : List Page = last_link links in
    let is_last_link : last_link (with_pages links pages) ≡ last ++ pages = last_with links pages some in
    let streams : map (state_of (last ++ pages)) (serials_of (last ++ pages)) ≡ map (change_at serial change) (map (state_of last) (serials_of last)) =
    ap (map (state_of (last ++ pages))) (serials_same last pages unmarked)
    ∙ map-same (state_of (last ++ pages)) (λ s. change_at serial change (state_of last s)) (each_changed last pages serial change own e) (serials_of last)
    ∙ sym (map-map (change_at serial change) (state_of last) (serials_of last)) in
    ap (λ (l : List Page). chain_of (map (state_of l) (serials_of l)) (list_any (λ page. not (is_first page)) l) (flat_map serials_of (with_pages links pages)) (length (with_pages links pages)) (size_of_links (with_pages links pages))) is_last_link
    ∙ ap (λ l. chain_of l (list_any (λ page. not (is_first page)) (last ++ pages)) (flat_map serials_of (with_pages links pages)) (length (with_pages links pages)) (size_of_links (with_pages links pages))) streams
    ∙ ap (λ b. chain_of (map (change_at serial change) (map (state_of last) (serials_of last))) b (flat_map serials_of (with_pages links pages)) (length (with_pages links pages)) (size_of_links (with_pages links pages))) (data_with last pages many unmarked)
    ∙ ap (λ s. chain_of (map (change_at serial change) (map (state_of last) (serials_of last))) true s (length (with_pages links pages)) (size_of_links (with_pages links pages))) (serials_with links pages unmarked)
    ∙ ap (λ n. chain_of (map (change_at serial change) (map (state_of last) (serials_of last))) true (flat_map serials_of links) n (size_of_links (with_pages links pages))) (length_more links pages)
    ∙ ap (λ n. chain_of (map (change_at serial change) (map (state_of last) (serials_of last))) true (flat_map serials_of links) (length links) n) (size_with links pages some)
