-- What is left of a page may follow.
use Rattle.std.proofs.Common.{◌≡◌, ◌≢◌, ◌≤◌, ◌<◌, ℕ, zero, suc, ◌+◌, ◌^◌, Bool, true, false, cond, List, [], ◌∷◌, length, map, take, sum, Some, None, refl, sym, ◌∙◌, ap, arith, inl, inr}
use Rattle.std.specs.Prelude.{nat_eq, nat_lt, not, ◌&&◌, ◌||◌, is_none}
use Rattle.std.specs.Option.{option_map_or}
use Rattle.std.proofs.lemmas.Bool.{cases_Bool, cond-true, cond-false, ne_eqb, ltb-true, ltb-false, le-ltb, eq-eqb}
use Rattle.std.proofs.lemmas.List.{length-map, length-take-le}
use Rattle.std.proofs.lemmas.List.Sums.{sum_by-cons}
use Rattle.ogg_page.specs.Page.{Page, IsPage}
use Rattle.ogg_page.specs.Lacing.{ends_open}
use Rattle.ogg_page.specs.LogicalStream.{is_first, is_last, is_continued}
use Rattle.ogg_page.specs.PageLaws.{page_fits}
use Rattle.ogg_page.specs.StreamLaws.{ends_open-at}
use Rattle.link_chain.specs.declared.stream_state.StreamState.{StreamState}
use Rattle.link_chain.specs.ChainState.{ChainState}
use Rattle.link_chain.specs.Progress.{stream_in, change_at, left_whole as whole_stream}
use Rattle.link_chain.specs.Taking.{fault_of_page, leaves_open}
use Rattle.link_chain.specs.Laws.PageRules.{later_none}
use Rattle.import_gather.specs.Cutting.{first_size}
use Rattle.import_gather.specs.Gathered.{Gathered}
use Rattle.import_gather.specs.Kept.{KeptStream, is_too_long, rest_of, without_rest}
use Rattle.import_mend.specs.Mended.{behind_rest, ends_some, is_joined, mended, whole_values, with_values}
use Rattle.import_mend.specs.Steps.{broken_off}
use Rattle.import_mend.specs.Ways.{number_due}
use Rattle.import_mend.proofs.Kept.{behind_last, mended_first, mended_last, mended_serial, joined_behind, joined_continued, broken_continued, mended_is_page}
use Rattle.import_mend.proofs.Lacings.{whole_within}

-- ---- a page that isn't its stream's first
pub later_fits : (chain : ChainState) (page : Page) (stream : StreamState) → is_first page ≡ false → nat_eq chain.links 0 ≡ false
    → stream_in chain.streams page.serial ≡ Some stream → stream.ended ≡ false → not (nat_eq page.sequence stream.next_sequence) ≡ false
    → cond (is_continued page) stream.finished (not stream.finished) ≡ false → (is_last page && leaves_open page stream) ≡ false →
    fault_of_page chain page ≡ None
later_fits chain page stream later some known unended number continued last =
    let at : (test : StreamState → Bool) → option_map_or test (stream_in chain.streams page.serial) false ≡ test stream = λ test. ap (λ o. option_map_or test o false) known in
    later_none chain page later (
      some,
      (
        ap is_none known,
        (
          at (λ s. s.ended) ∙ unended,
          (
            at (λ s. not (nat_eq page.sequence s.next_sequence)) ∙ number,
            (
              at (λ s. cond (is_continued page) s.finished (not s.finished)) ∙ continued,
              (at (λ s. is_last page && leaves_open page s) ∙ last, tt),
            ),
          ),
        ),
      ),
    )

-- ---- the streams after the unfinished packet of one was dropped
pub found_changed : (serial : ℕ) (change : StreamState → StreamState) (streams : List StreamState) (stream : StreamState) → ((s : StreamState) → (change s).serial ≡ s.serial) →
    stream_in streams serial ≡ Some stream → stream_in (map (change_at serial change) streams) serial ≡ Some (change stream)
found_changed serial change [] stream keeps e = cc
found_changed serial change (x ∷ xs) stream keeps e =
    elim (cases_Bool (nat_eq x.serial serial)) [
      | inl own ↦
          (let at : change_at serial change x ≡ change x = cond-true (nat_eq x.serial serial) (change x) x own in
          let is : x ≡ stream = some_same (sym (cond-true (nat_eq x.serial serial) (Some x) (stream_in xs serial) own) ∙ e) in
          cond-true (nat_eq (change_at serial change x).serial serial) (Some (change_at serial change x)) (stream_in (map (change_at serial change) xs) serial)
          (ap (λ (s : StreamState). nat_eq s.serial serial) at ∙ ap (λ n. nat_eq n serial) (keeps x) ∙ own)
          ∙ ap Some (at ∙ ap change is))
      | inr other ↦
          (let at : change_at serial change x ≡ x = cond-false (nat_eq x.serial serial) (change x) x other in
          cond-false (nat_eq (change_at serial change x).serial serial) (Some (change_at serial change x)) (stream_in (map (change_at serial change) xs) serial)
          (ap (λ (s : StreamState). nat_eq s.serial serial) at ∙ other)
          ∙ found_changed serial change xs stream keeps (sym (cond-false (nat_eq x.serial serial) (Some x) (stream_in xs serial) other) ∙ e))
    ]
  where
    some_same : {a b : StreamState} → Some a ≡ Some b → a ≡ b
    some_same e = cc

pub no_rest : (serial : ℕ) (streams : List KeptStream) → rest_of serial (map (without_rest serial) streams) ≡ []
no_rest serial [] = refl
no_rest serial (x ∷ xs) =
    let emptied : KeptStream = record x { rest = [] } in
    let changed : KeptStream = without_rest serial x in
    elim (cases_Bool (nat_eq x.serial serial)) [
      | inl own ↦
          (let at : changed ≡ emptied = cond-true (nat_eq x.serial serial) emptied x own in
          cond-true (nat_eq changed.serial serial) changed.rest (rest_of serial (map (without_rest serial) xs))
          (ap (λ (s : KeptStream). nat_eq s.serial serial) at ∙ own) ∙ ap (λ (s : KeptStream). s.rest) at)
      | inr other ↦
          (let at : changed ≡ x = cond-false (nat_eq x.serial serial) emptied x other in
          cond-false (nat_eq changed.serial serial) changed.rest (rest_of serial (map (without_rest serial) xs))
          (ap (λ (s : KeptStream). nat_eq s.serial serial) at ∙ other) ∙ no_rest serial xs)
    ]

-- the stream after it
abbrev pub broken_stream : Bool → StreamState → StreamState
broken_stream joined stream = cond joined stream (whole_stream stream)

pub broken_known : (joined : Bool) (serial : ℕ) (gathered : Gathered) (stream : StreamState) → stream_in gathered.chain.streams serial ≡ Some stream →
    stream_in (broken_off joined serial gathered).chain.streams serial ≡ Some (broken_stream joined stream)
broken_known true serial gathered stream known = known
broken_known false serial gathered stream known = found_changed serial whole_stream gathered.chain.streams stream (λ s. refl) known

pub broken_count : (joined : Bool) (serial : ℕ) (g : Gathered) → length (broken_off joined serial g).chain.streams ≡ length g.chain.streams
broken_count true serial g = refl
broken_count false serial g = length-map g.chain.streams (change_at serial whole_stream)

pub some_same : {a b : StreamState} → Some a ≡ Some b → a ≡ b
some_same e = cc

pub broken_links : (joined : Bool) (serial : ℕ) (gathered : Gathered) → (broken_off joined serial gathered).chain.links ≡ gathered.chain.links
broken_links true serial gathered = refl
broken_links false serial gathered = refl

pub broken_length : (joined : Bool) (serial : ℕ) (gathered : Gathered) → (broken_off joined serial gathered).chain.length_of ≤ gathered.chain.length_of
broken_length true serial gathered = omega arith
broken_length false serial gathered = omega arith

-- ---- lacing values of whole packets
pub some_whole : (values : List ℕ) → ends_some values ≡ true → whole_values values ≢ 0
some_whole [] e f = cc
some_whole (value ∷ values) e f =
    absurd (omega (arith, sym (cond-true (ends_some (value ∷ values)) (suc (whole_values values)) 0 e) ∙ f))

pub whole_length : (values : List ℕ) → length (take (whole_values values) values) ≡ whole_values values
whole_length values = length-take-le (whole_values values) values (whole_within values)

-- they end with one that isn't full
closing : (value : ℕ) (front : List ℕ) → ends_open front ≡ false → (front ≡ [] → nat_lt value 255 ≡ true) → ends_open (value ∷ front) ≡ false
closing value [] closed small = ne_eqb value 255 (λ e. omega (arith, ltb-true value 255 (small refl), e))
closing value (next ∷ front) closed small = ends_open-at (value ∷ []) next front ∙ closed

last_is_small : (value : ℕ) (values : List ℕ) → ends_some (value ∷ values) ≡ true → take (whole_values values) values ≡ [] → nat_lt value 255 ≡ true
last_is_small value values some none =
    elim (cases_Bool (ends_some values)) [
      | inl later ↦ absurd (some_whole values later (sym (whole_length values) ∙ ap length none))
      | inr no_later ↦ or_nothing (nat_lt value 255) (sym (ap (λ b. nat_lt value 255 || b) no_later) ∙ some)
    ]
  where
    or_nothing : (b : Bool) → (b || false) ≡ true → b ≡ true
    or_nothing true e = refl
    or_nothing false e = e

pub closed_end : (values : List ℕ) → ends_open (take (whole_values values) values) ≡ false
closed_end [] = refl
closed_end (value ∷ values) =
    elim (cases_Bool (ends_some (value ∷ values))) [
      | inl some ↦
          ap (λ n. ends_open (take n (value ∷ values))) (cond-true (ends_some (value ∷ values)) (suc (whole_values values)) 0 some)
          ∙ closing value (take (whole_values values) values) (closed_end values) (last_is_small value values some)
      | inr none ↦ ap (λ n. ends_open (take n (value ∷ values))) (cond-false (ends_some (value ∷ values)) (suc (whole_values values)) 0 none)
    ]

-- ---- what the page leaves of a packet
leaves_closed : (lacing : List ℕ) (finished : Bool) → ends_open lacing ≡ false → (lacing ≡ [] → finished ≡ true) →
    cond (nat_eq (length lacing) 0) (not finished) (ends_open lacing) ≡ false
leaves_closed [] finished closed none = ap not (none refl)
leaves_closed (value ∷ values) finished closed none =
    cond-false (nat_eq (length (value ∷ values)) 0) (not finished) (ends_open (value ∷ values)) (ne_eqb (length (value ∷ values)) 0 (λ e. omega (arith, e))) ∙ closed

whole_lacing : (joined : Bool) (number : ℕ) (page : Page) → is_last page ≡ true →
    (mended joined number page).lacing ≡ take (whole_values (behind_rest joined page).lacing) (behind_rest joined page).lacing
whole_lacing joined number page last =
    let rest : Page = behind_rest joined page in
    ap (λ (p : Page). p.lacing) (cond-true (is_last rest) (with_values (whole_values rest.lacing) rest) rest (behind_last joined page ∙ last))

last_closes : (joined : Bool) (number : ℕ) (page : Page) (stream : StreamState) →
    ((mended joined number page).lacing ≡ [] → is_last page ≡ true → stream.finished ≡ true) →
    (is_last (mended joined number page) && leaves_open (mended joined number page) stream) ≡ false
last_closes joined number page stream none =
    elim (cases_Bool (is_last page)) [
      | inl last ↦
          (let lacing : List ℕ = (mended joined number page).lacing in
          let values : List ℕ = (behind_rest joined page).lacing in
          let closed : ends_open lacing ≡ false = ap ends_open (whole_lacing joined number page last) ∙ closed_end values in
          ap (λ b. is_last (mended joined number page) && b) (leaves_closed lacing stream.finished closed (λ e. none e last)) ∙ and_no (is_last (mended joined number page)))
      | inr later ↦ ap (λ b. b && leaves_open (mended joined number page) stream) (mended_last joined number page ∙ later)
    ]
  where
    and_no : (b : Bool) → (b && false) ≡ false
    and_no true = refl
    and_no false = refl

-- ---- a page that is joined
pub four_parts : (a b c d : Bool) → (a && b && c && d) ≡ true → (a ≡ true) × (b ≡ true) × (c ≡ true) × (d ≡ true)
four_parts true true true true e = (refl, refl, refl, refl)
four_parts true true true false e = cc
four_parts true true false d e = cc
four_parts true false c d e = cc
four_parts false b c d e = cc

flipped : (continued finished : Bool) → cond continued (not finished) finished ≡ true → cond continued finished (not finished) ≡ false
flipped true true e = cc
flipped true false e = refl
flipped false true e = refl
flipped false false e = cc

pub same_number : (n : ℕ) → not (nat_eq n n) ≡ false
same_number n = ap not (eq-eqb n n refl)

-- with no packet left, the stream had none unfinished
nothing_left : (number : ℕ) (page : Page) (finished : Bool) → cond (is_continued page) (not finished) finished ≡ true
    → not (is_last page && is_continued page && not (ends_some page.lacing)) ≡ true → (mended true number page).lacing ≡ [] → is_last page ≡ true →
    finished ≡ true
nothing_left number page finished fits closes none last =
    elim (cases_Bool (is_continued page)) [
      | inl continued ↦
          (let some : ends_some page.lacing ≡ true = ends (ends_some page.lacing)
          (sym (ap (λ b. not (b && is_continued page && not (ends_some page.lacing))) last ∙ ap (λ b. not (true && b && not (ends_some page.lacing))) continued) ∙ closes) in
          let lacing : take (whole_values page.lacing) page.lacing ≡ [] =
          sym (ap (λ (p : Page). take (whole_values p.lacing) p.lacing) (joined_behind page)) ∙ sym (whole_lacing true number page last) ∙ none in
          absurd (some_whole page.lacing some (sym (whole_length page.lacing) ∙ ap length lacing)))
      | inr not_continued ↦ sym (ap (λ b. cond b (not finished) finished) not_continued) ∙ fits
    ]
  where
    ends : (b : Bool) → not (true && true && not b) ≡ true → b ≡ true
    ends true e = refl
    ends false e = cc

-- ---- any page of a stream
pub mended_fits : (lost : ℕ) (stream : StreamState) (page : Page) (g : Gathered) (joined : Bool) → joined ≡ is_joined lost stream (is_too_long g.link page) page
    → is_first page ≡ false → nat_eq g.chain.links 0 ≡ false → stream_in g.chain.streams page.serial ≡ Some stream → stream.ended ≡ false →
    fault_of_page (broken_off joined page.serial g).chain (mended joined stream.next_sequence page) ≡ None
mended_fits lost stream page g true is later some known unended =
    let n : ℕ = stream.next_sequence in
    let m : Page = mended true n page in
    let parts = four_parts (nat_eq page.sequence (number_due lost stream)) (cond (is_continued page) (not stream.finished) stream.finished) (not (is_too_long g.link page))
    (not (is_last page && is_continued page && not (ends_some page.lacing))) (sym is) in
    later_fits g.chain m stream (mended_first true n page ∙ later) some (ap (stream_in g.chain.streams) (mended_serial true n page) ∙ known) unended (same_number n)
    (ap (λ b. cond b stream.finished (not stream.finished)) (joined_continued n page) ∙ flipped (is_continued page) stream.finished parts.1)
    (last_closes true n page stream (nothing_left n page stream.finished parts.1 parts.3))
mended_fits lost stream page g false is later some known unended =
    let n : ℕ = stream.next_sequence in
    let m : Page = mended false n page in
    later_fits (broken_off false page.serial g).chain m (whole_stream stream) (mended_first false n page ∙ later) some
    (ap (stream_in (broken_off false page.serial g).chain.streams) (mended_serial false n page) ∙ broken_known false page.serial g stream known) unended (same_number n)
    (ap (λ b. cond b true (not true)) (broken_continued n page))
    (last_closes false n page (whole_stream stream) (λ e l. refl))

-- ---- no packet is too long
first_front : (n : ℕ) (values : List ℕ) → first_size (take n values) ≤ first_size values
first_front zero values = omega arith
first_front (suc n) [] = omega arith
first_front (suc n) (value ∷ values) = by_case (nat_lt value 255) (first_size (take n values)) (first_size values) (first_front n values)
  where
    by_case : (b : Bool) (x y : ℕ) → x ≤ y → cond b value (value + x) ≤ cond b value (value + y)
    by_case true x y le = omega arith
    by_case false x y le = omega (arith, le)

first_of_sum : (values : List ℕ) → first_size values ≤ sum values
first_of_sum [] = omega arith
first_of_sum (value ∷ values) =
    by_case (nat_lt value 255) (first_size values) (first_of_sum values) (sum_by-cons (λ x. x) value values)
  where
    by_case : (b : Bool) (x : ℕ) → x ≤ sum values → sum (value ∷ values) ≡ value + sum values → cond b value (value + x) ≤ sum (value ∷ values)
    by_case true x le e = omega (arith, e)
    by_case false x le e = omega (arith, le, e)

joined_first : (number : ℕ) (page : Page) → first_size (mended true number page).lacing ≤ first_size page.lacing
joined_first number page =
    elim (cases_Bool (is_last page)) [
      | inl last ↦
          (let front : first_size (take (whole_values page.lacing) page.lacing) ≤ first_size page.lacing = first_front (whole_values page.lacing) page.lacing in
          omega (arith, front, ap first_size (whole_lacing true number page last), ap (λ (p : Page). first_size (take (whole_values p.lacing) p.lacing)) (joined_behind page)))
      | inr later ↦
          (let rest : Page = behind_rest true page in
          omega (
            arith,
            ap (λ (p : Page). first_size p.lacing) (cond-false (is_last rest) (with_values (whole_values rest.lacing) rest) rest (behind_last true page ∙ later)),
            ap (λ (p : Page). first_size p.lacing) (joined_behind page),
          ))
    ]

pub mended_is_short : (lost : ℕ) (stream : StreamState) (page : Page) (g : Gathered) (joined : Bool) → joined ≡ is_joined lost stream (is_too_long g.link page) page
    → is_first page ≡ false → IsPage page → stream.next_sequence < 2 ^ 32 →
    is_too_long (broken_off joined page.serial g).link (mended joined stream.next_sequence page) ≡ false
mended_is_short lost stream page g true is later is_page small =
    let n : ℕ = stream.next_sequence in
    let m : Page = mended true n page in
    let parts = four_parts (nat_eq page.sequence (number_due lost stream)) (cond (is_continued page) (not stream.finished) stream.finished) (not (is_too_long g.link page))
    (not (is_last page && is_continued page && not (ends_some page.lacing))) (sym is) in
    let short : nat_lt 8388608 (length (rest_of page.serial g.link.streams) + first_size page.lacing) ≡ false =
    sym (ap (λ b. not b && nat_lt 8388608 (length (rest_of page.serial g.link.streams) + first_size page.lacing)) later) ∙ no (is_too_long g.link page) parts.2 in
    let fits : length (rest_of page.serial g.link.streams) + first_size page.lacing ≤ 8388608 =
    ltb-false 8388608 (length (rest_of page.serial g.link.streams) + first_size page.lacing) short in
    let own : length (rest_of m.serial g.link.streams) ≡ length (rest_of page.serial g.link.streams) = ap (λ s. length (rest_of s g.link.streams)) (mended_serial true n page) in
    ap (λ b. not (is_first m) && b) (le-ltb 8388608 (length (rest_of m.serial g.link.streams) + first_size m.lacing) (omega (arith, fits, own, joined_first n page)))
    ∙ and_no (not (is_first m))
  where
    no : (b : Bool) → not b ≡ true → b ≡ false
    no true e = cc
    no false e = refl

    and_no : (b : Bool) → (b && false) ≡ false
    and_no true = refl
    and_no false = refl
mended_is_short lost stream page g false is later is_page small =
    let n : ℕ = stream.next_sequence in
    let m : Page = mended false n page in
    let m_is : IsPage m = mended_is_page false n page small is_page in
    let streams : List KeptStream = (broken_off false page.serial g).link.streams in
    let none : length (rest_of m.serial streams) ≡ 0 = ap (λ s. length (rest_of s streams)) (mended_serial false n page) ∙ ap length (no_rest page.serial g.link.streams) in
    ap (λ b. not (is_first m) && b)
    (le-ltb 8388608 (length (rest_of m.serial streams) + first_size m.lacing) (omega (arith, none, first_of_sum m.lacing, m_is.whole, page_fits m m_is)))
    ∙ and_no (not (is_first m))
  where
    and_no : (b : Bool) → (b && false) ≡ false
    and_no true = refl
    and_no false = refl
