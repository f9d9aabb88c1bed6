-- What is known of a page that is taken.
use Rattle.std.proofs.Common.{◌≡◌, ◌<◌, ℕ, ◌-◌, ◌^◌, Bool, true, false, cond, Some, None, refl, sym, ◌∙◌, ap, arith, inl, inr}
use Rattle.std.specs.Prelude.{nat_eq, nat_lt, nat_le, not, is_some, length, Option, ◌&&◌, ◌||◌}
use Rattle.std.proofs.lemmas.Bool.{cases_Bool, cond-true, cond-false, eqb-true, leb-false, ltb-true, and_parts, or_parts}
use Rattle.ogg_page.specs.Page.{Page}
use Rattle.ogg_page.specs.LogicalStream.{is_first, is_last, is_continued}
use Rattle.link_chain.specs.declared.stream_state.StreamState.{StreamState}
use Rattle.link_chain.specs.ChainState.{ChainState, is_open}
use Rattle.link_chain.specs.Taking.{fault_of_page, is_whole_packet}
use Rattle.link_chain.specs.Laws.PageRules.{joining_none, opening_none}
use Rattle.link_chain.specs.Progress.{stream_in}
use Rattle.import_mend.specs.Ways.{leaves_number, is_one_more, is_repeated, restarts, number_due, way_of, way_of_first, way_of_known, way_of_later}
use Rattle.import_mend.specs.Mended.{ends_some, is_joined, left_whole, mended}
use Rattle.import_mend.specs.declared.ways.Way.{Way}
use Rattle.import_mend.specs.declared.ways.Way.TheVariants.{Take, Restart, Stranger, Repeated, Misshapen, Full}
use Rattle.import_mend.proofs.Kept.{joined_behind}
use Rattle.import_mend.proofs.Fits.{four_parts}

pub if_taken : (b : Bool) (x y : Way) → (x ≡ Take → ⊥) → cond b x y ≡ Take → (b ≡ false) × (y ≡ Take)
if_taken true x y other e = absurd (other e)
if_taken false x y other e = (refl, e)

pub full : Full ≡ Take → ⊥
full e = cc

pub stranger : Stranger ≡ Take → ⊥
stranger e = cc

pub repeated : Repeated ≡ Take → ⊥
repeated e = cc

pub number_left : (page : Page) (n : ℕ) → leaves_number page n ≡ true → n < 2 ^ 32
number_left page n e =
    elim (cases_Bool (nat_lt n (2 ^ 32 - 1))) [
      | inl low ↦ omega (arith, ltb-true n (2 ^ 32 - 1) low)
      | inr high ↦ ltb-true n (2 ^ 32) (and_parts (is_last page) (nat_lt n (2 ^ 32)) (sym (ap (λ b. b || (is_last page && nat_lt n (2 ^ 32))) high) ∙ e)).1
    ]

pub record TakenLater (chain : ChainState) (lost : ℕ) (page : Page) (stream : StreamState) : Type 0 where
  pub small : chain.length_of < 2 ^ 62
  pub unrepeated : is_repeated lost stream page ≡ false
  pub links : nat_eq chain.links 0 ≡ false
  pub unended : stream.ended ≡ false
  pub number : stream.next_sequence < 2 ^ 32

pub taken_later : (chain : ChainState) (lost : ℕ) (page : Page) (stream : StreamState) → is_first page ≡ false → stream_in chain.streams page.serial ≡ Some stream
    → way_of chain lost page ≡ Take → TakenLater chain lost page stream
taken_later chain lost page stream later known way =
    let known_way : Way = way_of_known chain lost page (stream_in chain.streams page.serial) in
    let a = if_taken (nat_le (2 ^ 62) chain.length_of) Full (cond (is_first page) (way_of_first chain page) known_way) full way in
    let b : way_of_known chain lost page (Some stream) ≡ Take =
    ap (way_of_known chain lost page) (sym known) ∙ sym (cond-false (is_first page) (way_of_first chain page) known_way later) ∙ a.1 in
    let c = if_taken (nat_eq chain.links 0) Stranger (way_of_later lost stream page) stranger b in
    let numbered : Way = cond (not (leaves_number page stream.next_sequence)) Full Take in
    let d = if_taken stream.ended Stranger (cond (is_repeated lost stream page) Repeated numbered) stranger c.1 in
    let e = if_taken (is_repeated lost stream page) Repeated numbered repeated d.1 in
    let f = if_taken (not (leaves_number page stream.next_sequence)) Full Take full e.1 in
    record {
      small = leb-false (2 ^ 62) chain.length_of a.0;
      unrepeated = e.0;
      links = c.0;
      unended = d.0;
      number = number_left page stream.next_sequence (not_not (leaves_number page stream.next_sequence) f.0);
    }
  where
    not_not : (b : Bool) → not b ≡ false → b ≡ true
    not_not true e = refl
    not_not false e = cc

-- a page that is joined, whole, and has the number that it is given, stays as it is
pub unchanged : (lost : ℕ) (stream : StreamState) (too_long : Bool) (page : Page) → is_joined lost stream too_long page ≡ true → lost ≡ 0 → left_whole page ≡ page →
    mended true stream.next_sequence page ≡ page
unchanged lost stream too_long page joined none whole =
    let parts = four_parts (nat_eq page.sequence (number_due lost stream)) (cond (is_continued page) (not stream.finished) stream.finished) (not too_long)
    (not (is_last page && is_continued page && not (ends_some page.lacing))) joined in
    let number : stream.next_sequence ≡ page.sequence = omega (arith, eqb-true page.sequence (number_due lost stream) parts.0, none) in
    ap (λ (p : Page). record (left_whole p) { sequence = stream.next_sequence }) (joined_behind page)
    ∙ ap (λ (p : Page). record p { sequence = stream.next_sequence }) whole
    ∙ ap (λ n. record page { sequence = n }) number

-- ---- a stream's first page
misshapen : Misshapen ≡ Take → ⊥
misshapen e = cc

restart : Restart ≡ Take → ⊥
restart e = cc

pub first_fits : (chain : ChainState) (lost : ℕ) (page : Page) → is_first page ≡ true → way_of chain lost page ≡ Take → fault_of_page chain page ≡ None
first_fits chain lost page first way =
    let later : Way = way_of_known chain lost page (stream_in chain.streams page.serial) in
    let a = if_taken (nat_le (2 ^ 62) chain.length_of) Full (cond (is_first page) (way_of_first chain page) later) full way in
    let last : Way = cond (restarts chain page) Restart Take in
    let numbered : Way = cond (not (leaves_number page page.sequence)) Full last in
    let b = if_taken (not (is_whole_packet page)) Misshapen (cond (is_one_more chain page) Full numbered) misshapen
    (sym (cond-true (is_first page) (way_of_first chain page) later first) ∙ a.1) in
    let c = if_taken (is_one_more chain page) Full numbered full b.1 in
    let d = if_taken (not (leaves_number page page.sequence)) Full last full c.1 in
    let e = if_taken (restarts chain page) Restart Take restart d.1 in
    elim (cases_Bool (is_open chain)) [
      | inl opened ↦
          (let none = or_parts chain.has_data (is_some (stream_in chain.streams page.serial))
          (sym (ap (λ b. b && (chain.has_data || is_some (stream_in chain.streams page.serial))) opened) ∙ e.0) in
          let few : nat_le 64 (length chain.streams) ≡ false =
          sym (cond-true (is_open chain && not (restarts chain page)) (nat_le 64 (length chain.streams)) (nat_le 65536 chain.links)
          (ap (λ b. b && not (restarts chain page)) opened ∙ ap not e.0)) ∙ c.0 in
          joining_none chain page first opened (none.0, (none.1, (b.0, (few, tt)))))
      | inr closed ↦
          (let few : nat_le 65536 chain.links ≡ false =
          sym (cond-false (is_open chain && not (restarts chain page)) (nat_le 64 (length chain.streams)) (nat_le 65536 chain.links)
          (ap (λ b. b && not (restarts chain page)) closed)) ∙ c.0 in
          opening_none chain page first closed (b.0, (few, tt)))
    ]

first_ways : (page : Page) (chain : ChainState) (lost : ℕ) (b : Bool) → is_first page ≡ b → way_of chain lost page ≡ Restart → b ≡ true
first_ways page chain lost true e way = refl
first_ways page chain lost false e way =
    let known : Way = way_of_known chain lost page (stream_in chain.streams page.serial) in
    absurd (never (nat_le (2 ^ 62) chain.length_of) known (later (stream_in chain.streams page.serial))
    (sym (ap (λ w. cond (nat_le (2 ^ 62) chain.length_of) Full w) (cond-false (is_first page) (way_of_first chain page) known e)) ∙ way))
  where
    never : (b : Bool) (w : Way) → (w ≡ Restart → ⊥) → cond b Full w ≡ Restart → ⊥
    never true w other f = cc
    never false w other f = other f

    five : (a b c d : Bool) → cond a Stranger (cond b Stranger (cond c Repeated (cond d Full Take))) ≡ Restart → ⊥
    five true b c d f = cc
    five false true c d f = cc
    five false false true d f = cc
    five false false false true f = cc
    five false false false false f = cc

    later : (o : Option StreamState) → way_of_known chain lost page o ≡ Restart → ⊥
    later None f = cc
    later (Some stream) f = five (nat_eq chain.links 0) stream.ended (is_repeated lost stream page) (not (leaves_number page stream.next_sequence)) f

-- only a first page begins a link of its own
pub restarts_first : (chain : ChainState) (lost : ℕ) (page : Page) → way_of chain lost page ≡ Restart → is_first page ≡ true
restarts_first chain lost page way = first_ways page chain lost (is_first page) refl way
