-- Each page leaves room for the pages that end the open streams.
use Rattle.std.proofs.Common.{◌≡◌, ℕ, ◌+◌, ◌-◌, ◌*◌, ◌^◌, ◌≤◌, ◌<◌, Bool, true, false, cond, List, [], ◌∷◌, ◌++◌, length, map, Option, Some, refl, sym, ◌∙◌, ap, subst, arith, inl, inr, length-append}
use Rattle.std.specs.Prelude.{nat_eq, nat_lt, nat_le, not, ◌||◌, ◌&&◌}
use Rattle.std.specs.List.{AllByRecursion}
use Rattle.std.proofs.lemmas.Bool.{cases_Bool, cond-true, cond-false, leb-false, ltb-true, or_parts, ne_eqb, false≢true}
use Rattle.std.proofs.lemmas.List.{length-map}
use Rattle.ogg_page.specs.Page.{Page, IsPage}
use Rattle.ogg_page.specs.PageLaws.{page_fits}
use Rattle.ogg_page.specs.LogicalStream.{is_first, is_last}
use Rattle.ogg_page.specs.Window.{LentAt}
use Rattle.link_chain.specs.declared.stream_state.StreamState.{StreamState}
use Rattle.link_chain.specs.ChainState.{ChainState, chain_state_of, is_open}
use Rattle.link_chain.specs.Followed.{after_page, continued, entered, followed, joined as joined_chain, opened}
use Rattle.link_chain.specs.Progress.{change_at, stream_in, left_whole as whole_stream}
use Rattle.link_chain.specs.Taking.{is_whole_packet}
use Rattle.link_chain.specs.Laws.PageRules.{joining_kept}
use Rattle.ogg_command.specs.declared.command.Command.{Command}
use Rattle.import_gather.specs.Gathered.{Gathered}
use Rattle.import_gather.specs.Kept.{is_too_long}
use Rattle.import_mend.specs.Gives.{BeginsAgain, EndsEach, EndsStreams, Gives, Mending, open_streams}
use Rattle.import_mend.specs.Mended.{end_page, is_joined, mended}
use Rattle.import_mend.specs.Room.{HasNumber, HasRoom}
use Rattle.import_mend.specs.Steps.{Mends, after_end, after_later, broken_off}
use Rattle.import_mend.specs.Ways.{is_one_more, is_repeated, leaves_number, restarts, way_of, way_of_first, way_of_known, way_of_later}
use Rattle.import_mend.specs.Whole.{IsStart, TakesPages, lost_of, pages_of}
use Rattle.import_mend.specs.declared.mend.Mend.{Mend}
use Rattle.import_mend.specs.declared.ways.Way.{Way}
use Rattle.import_mend.specs.declared.ways.Way.TheVariants.{Take, Restart, Stranger, Repeated, Misshapen, Full}
use Rattle.import_mend.proofs.Fits.{broken_length, broken_count, broken_links}
use Rattle.import_mend.proofs.Held.{known_later}
use Rattle.import_mend.proofs.Kept.{mended_first, mended_is_page, mended_last}
use Rattle.import_mend.proofs.Open.{none_unended}
use Rattle.import_mend.proofs.Rooms.{numbers_stay, open_few, some_open}
use Rattle.import_mend.proofs.Taken.{TakenLater, first_fits, full, if_taken, repeated, restarts_first, stranger, taken_later}
use Rattle.ogg_page.specs.Laws.PageBytes.{all_both}

-- ---- what is known of a page that is taken
leaves_one : (page : Page) (n : ℕ) → leaves_number page n ≡ true → is_last page ≡ false → n + 1 < 2 ^ 32
leaves_one page n e more =
    let small : nat_lt n (2 ^ 32 - 1) ≡ true = or_no (nat_lt n (2 ^ 32 - 1)) (sym (ap (λ b. nat_lt n (2 ^ 32 - 1) || (b && nat_lt n (2 ^ 32))) more) ∙ e) in
    omega (arith, ltb-true n (2 ^ 32 - 1) small)
  where
    or_no : (b : Bool) → (b || false) ≡ true → b ≡ true
    or_no true f = refl
    or_no false f = absurd (false≢true f)

record Numbered (chain : ChainState) (page : Page) (number : ℕ) : Type 0 where
  numbered : leaves_number page number ≡ true
  small : chain.length_of < 2 ^ 62

-- a first page, whether it begins a link of its own or not
first_numbered : (chain : ChainState) (lost : ℕ) (page : Page) (way : Way) → is_first page ≡ true → way_of chain lost page ≡ way → (way ≡ Full → ⊥) → (way ≡ Misshapen → ⊥) → Numbered chain page page.sequence
first_numbered chain lost page way first e other shaped =
    let known : Way = way_of_known chain lost page (stream_in chain.streams page.serial) in
    let is : cond (nat_le (2 ^ 62) chain.length_of) Full (way_of_first chain page) ≡ way =
    ap (λ w. cond (nat_le (2 ^ 62) chain.length_of) Full w) (sym (cond-true (is_first page) (way_of_first chain page) known first)) ∙ e in
    let facts = at (nat_le (2 ^ 62) chain.length_of) (is_whole_packet page) (is_one_more chain page) (leaves_number page page.sequence) (restarts chain page) is in
    record { numbered = facts.1; small = leb-false (2 ^ 62) chain.length_of facts.0 }
  where
    at : (a b c d e' : Bool) → cond a Full (cond (not b) Misshapen (cond c Full (cond (not d) Full (cond e' Restart Take)))) ≡ way → (a ≡ false) × (d ≡ true)
    at true b c d e' f = absurd (other (sym f))
    at false false c d e' f = absurd (shaped (sym f))
    at false true true d e' f = absurd (other (sym f))
    at false true false false e' f = absurd (other (sym f))
    at false true false true e' f = (refl, refl)

later_numbered : (chain : ChainState) (lost : ℕ) (page : Page) (stream' : StreamState) → is_first page ≡ false → stream_in chain.streams page.serial ≡ Some stream' → way_of chain lost page ≡ Take →
    leaves_number page stream'.next_sequence ≡ true
later_numbered chain lost page stream' later known way =
    let known_way : Way = way_of_known chain lost page (stream_in chain.streams page.serial) in
    let a = if_taken (nat_le (2 ^ 62) chain.length_of) Full (cond (is_first page) (way_of_first chain page) known_way) full way in
    let b : way_of_known chain lost page (Some stream') ≡ Take =
    ap (way_of_known chain lost page) (sym known) ∙ sym (cond-false (is_first page) (way_of_first chain page) known_way later) ∙ a.1 in
    let c = if_taken (nat_eq chain.links 0) Stranger (way_of_later lost stream' page) stranger b in
    let numbered : Way = cond (not (leaves_number page stream'.next_sequence)) Full Take in
    let d = if_taken stream'.ended Stranger (cond (is_repeated lost stream' page) Repeated numbered) stranger c.1 in
    let e = if_taken (is_repeated lost stream' page) Repeated numbered repeated d.1 in
    let f = if_taken (not (leaves_number page stream'.next_sequence)) Full Take full e.1 in
    not_not (leaves_number page stream'.next_sequence) f.0
  where
    not_not : (b : Bool) → not b ≡ false → b ≡ true
    not_not true e = refl
    not_not false e = cc

entered_number : (chain : ChainState) (page : Page) → Numbered chain page page.sequence → HasNumber (entered page)
entered_number chain page n e = leaves_one page page.sequence n.numbered (or_parts false (is_last page) e).1

-- ---- the first page of a link
room_opens : (chain : ChainState) (page : Page) (new : ChainState) → IsPage page → is_first page ≡ true → is_open chain ≡ false → HasNumber (entered page) → chain.length_of < 2 ^ 62 + 2 ^ 19 → new ≡ after_page chain page → HasRoom new
room_opens chain page new is first closed number small e =
    let after : new ≡ opened chain page =
    e ∙ cond-true (is_first page) (cond (is_open chain) (joined_chain chain page) (opened chain page)) (continued chain page) first
    ∙ cond-false (is_open chain) (joined_chain chain page) (opened chain page) closed in
    record {
      few = omega (arith, ap (λ (c : ChainState). length c.streams) after);
      links = λ _. ap (λ (c : ChainState). nat_eq c.links 0) after ∙ ne_eqb (chain.links + 1) 0 (λ f. omega (arith, f));
      numbers = subst (λ (c : ChainState). AllByRecursion HasNumber c.streams) (sym after) (number, tt);
      small = omega (arith, small, ap (λ (c : ChainState). c.length_of) after, page_fits page is);
    }

room_first : (chain : ChainState) (lost : ℕ) (page : Page) (new : ChainState) → IsPage page → HasRoom chain → is_first page ≡ true → way_of chain lost page ≡ Take → new ≡ after_page chain page → HasRoom new
room_first chain lost page new is r first way e =
    let n : Numbered chain page page.sequence = first_numbered chain lost page Take first way (λ f. cc) (λ f. cc) in
    elim (cases_Bool (is_open chain)) [
      | inl open' ↦
          (let kept = joining_kept chain page first open' (first_fits chain lost page first way) in
          let after : new ≡ joined_chain chain page =
          e ∙ cond-true (is_first page) (cond (is_open chain) (joined_chain chain page) (opened chain page)) (continued chain page) first
          ∙ cond-true (is_open chain) (joined_chain chain page) (opened chain page) open' in
          record {
            few = omega (arith, ap (λ (c : ChainState). length c.streams) after, length-append chain.streams (entered page ∷ []), leb-false 64 (length chain.streams) kept.1.1.1.0);
            links = λ _. ap (λ (c : ChainState). nat_eq c.links 0) after ∙ r.links open';
            numbers = subst (λ (c : ChainState). AllByRecursion HasNumber c.streams) (sym after)
                (all_both HasNumber chain.streams (entered page ∷ []) r.numbers (entered_number chain page n, tt));
            small = omega (arith, n.small, ap (λ (c : ChainState). c.length_of) after, page_fits page is);
          })
      | inr closed ↦ room_opens chain page new is first closed (entered_number chain page n) (omega (arith, n.small)) e
    ]

-- ---- another page of a stream
broken_numbers : (joined : Bool) (serial : ℕ) (g : Gathered) → AllByRecursion HasNumber g.chain.streams → AllByRecursion HasNumber (broken_off joined serial g).chain.streams
broken_numbers true serial g all = all
broken_numbers false serial g all = numbers_stay serial whole_stream g.chain.streams (λ s h. h) all

room_later : (lost : ℕ) (page : Page) (stream' : StreamState) (g : Gathered) (new : ChainState) → IsPage page → HasRoom g.chain → is_first page ≡ false → way_of g.chain lost page ≡ Take
    → stream_in g.chain.streams page.serial ≡ Some stream' → new ≡ after_later lost stream' page g → HasRoom new
room_later lost page stream' g new is r later way known e =
    let joined : Bool = is_joined lost stream' (is_too_long g.link page) page in
    let number : ℕ = stream'.next_sequence in
    let m : Page = mended joined number page in
    let b : Gathered = broken_off joined page.serial g in
    let t : TakenLater g.chain lost page stream' = taken_later g.chain lost page stream' later known way in
    let m_is : IsPage m = mended_is_page joined number page t.number is in
    let after : new ≡ continued b.chain m = e ∙ cond-false (is_first m) (cond (is_open b.chain) (joined_chain b.chain m) (opened b.chain m)) (continued b.chain m) (mended_first joined number page ∙ later) in
    record {
      few = omega (arith, r.few, ap (λ (c : ChainState). length c.streams) after, length-map b.chain.streams (change_at m.serial (followed m)), broken_count joined page.serial g);
      links = λ _. ap (λ (c : ChainState). nat_eq c.links 0) after ∙ ap (λ n. nat_eq n 0) (broken_links joined page.serial g) ∙ t.links;
      numbers = subst (λ (c : ChainState). AllByRecursion HasNumber c.streams) (sym after)
          (numbers_stay m.serial (followed m) b.chain.streams
          (λ s h f. leaves_one page number (later_numbered g.chain lost page stream' later known way) (sym (mended_last joined number page) ∙ (or_parts s.ended (is_last m) f).1))
          (broken_numbers joined page.serial g r.numbers));
      small = omega (arith, t.small, ap (λ (c : ChainState). c.length_of) after, broken_length joined page.serial g, page_fits m m_is);
    }

-- ---- streams that are ended
pub record EndsWell (count : ℕ) (old new : ChainState) : Type 0 where
  pub numbers : AllByRecursion HasNumber old.streams → AllByRecursion HasNumber new.streams
  pub streams : length new.streams ≡ length old.streams
  pub links : new.links ≡ old.links
  pub small : new.length_of ≤ old.length_of + 27 * count

each_well : (streams : List StreamState) (old new : Gathered) (more : List Command) → EndsEach streams old new more → EndsWell (length streams) old.chain new.chain
each_well [] old new more e =
    subst (λ (g : Gathered). EndsWell 0 old.chain g.chain) (sym e.0) (record { numbers = λ all. all; streams = refl; links = refl; small = omega arith })
each_well (s ∷ streams) old new more (next, own, others, one, each, all) =
    let rest : EndsWell (length streams) next.chain new.chain = each_well streams next new others each in
    let after : next.chain ≡ after_end s old = one.after in
    record {
      numbers = λ h. rest.numbers (subst (λ (c : ChainState). AllByRecursion HasNumber c.streams) (sym after)
          (numbers_stay s.serial (followed (end_page s.next_sequence s)) (map (change_at s.serial whole_stream) old.chain.streams) (λ x n f. absurd (false≢true (sym f ∙ or_true x.ended)))
          (numbers_stay s.serial whole_stream old.chain.streams (λ x n. n) h)));
      streams = rest.streams ∙ ap (λ (c : ChainState). length c.streams) after ∙ length-map (map (change_at s.serial whole_stream) old.chain.streams) (change_at s.serial (followed (end_page s.next_sequence s)))
          ∙ length-map old.chain.streams (change_at s.serial whole_stream);
      links = rest.links ∙ ap (λ (c : ChainState). c.links) after;
      small = omega (arith, rest.small, ap (λ (c : ChainState). c.length_of) after);
    }
  where
    or_true : (b : Bool) → (b || true) ≡ true
    or_true true = refl
    or_true false = refl

still_open : (old new : ChainState) (ended : List StreamState) → open_streams old ≡ ended ++ open_streams new → is_open new ≡ true → is_open old ≡ true
still_open old new ended e open' =
    elim (cases_Bool (is_open old)) [
      | inl was ↦ was
      | inr closed ↦
          absurd (omega (arith, some_open new.streams open', ap length e, ap length (none_unended old.streams closed), length-append ended (open_streams new)))
    ]

room_ended : (old new : Gathered) (more : List Command) → HasRoom old.chain → old.chain.length_of < 2 ^ 62 → EndsStreams old new more → HasRoom new.chain
room_ended old new more r small e =
    let w : EndsWell (length e.ended) old.chain new.chain = each_well e.ended old new more e.each in
    let count : length e.ended ≤ length (open_streams old.chain) = omega (arith, ap length e.open_ones, length-append e.ended (open_streams new.chain)) in
    record {
      few = omega (arith, w.streams, r.few);
      links = λ open'. ap (λ n. nat_eq n 0) w.links ∙ r.links (still_open old.chain new.chain e.ended e.open_ones open');
      numbers = w.numbers r.numbers;
      small = omega (arith, w.small, small, count, open_few old.chain.streams, r.few);
    }

-- ---- any page
room_page : (way : Way) (offset : ℕ) (page : Page) (old new : Mending) (mend : Option Mend) (more : List Command) → way_of old.gathered.chain (lost_of old page) page ≡ way → IsPage page → HasRoom old.gathered.chain
    → Mends way offset (lost_of old page) page old.gathered new.gathered mend → Gives way offset (lost_of old page) page old new mend more → HasRoom new.gathered.chain
room_page Take offset page old new mend more way is r m g =
    elim (cases_Bool (is_first page)) [
      | inl first ↦ room_first old.gathered.chain (lost_of old page) page new.gathered.chain is r first way (m.0 first).0
      | inr later ↦
          (let (stream', known) = known_later old.gathered.chain (lost_of old page) page later way in
          room_later (lost_of old page) page stream' old.gathered new.gathered.chain is r later way known (m.1 later stream' known).0)
    ]
room_page Restart offset page old new mend more way is r m g =
    let first : is_first page ≡ true = restarts_first old.gathered.chain (lost_of old page) page way in
    let n : Numbered old.gathered.chain page page.sequence = first_numbered old.gathered.chain (lost_of old page) page Restart first way (λ f. cc) (λ f. cc) in
    elim g [
      | inl b ↦
          (let again : BeginsAgain page old new more = b.1 in
          let w : EndsWell (length (open_streams old.gathered.chain)) old.gathered.chain again.closed.chain =
          each_well (open_streams old.gathered.chain) old.gathered again.closed again.ends again.each in
          room_opens again.closed.chain page new.gathered.chain is first again.shut (entered_number old.gathered.chain page n)
          (omega (arith, w.small, n.small, open_few old.gathered.chain.streams, r.few)) again.after)
      | inr f ↦ room_ended old.gathered new.gathered more r n.small f.1
    ]
room_page Stranger offset page old new mend more way is r m g = subst (λ (s : Mending). HasRoom s.gathered.chain) (sym g.0) r
room_page Repeated offset page old new mend more way is r m g = subst (λ (s : Mending). HasRoom s.gathered.chain) (sym g.0) r
room_page Misshapen offset page old new mend more way is r m g = subst (λ (s : Mending). HasRoom s.gathered.chain) (sym g.0) r
room_page Full offset page old new mend more way is r m g = subst (λ (s : Mending). HasRoom s.gathered.chain) (sym g.0) r

-- ---- all pages
all_room : (pages : List LentAt) (old new : Mending) (mends : List (Option Mend)) (given : List Command) → AllByRecursion IsPage (pages_of pages) → HasRoom old.gathered.chain → TakesPages pages old new mends given →
    HasRoom new.gathered.chain
all_room [] old new mends given are r t = subst (λ (s : Mending). HasRoom s.gathered.chain) (sym t.0) r
all_room (lent ∷ later) old new mends given are r (next, mend, own, others, rest, one, all, told, is) =
    all_room later next new others rest are.1 (room_page (way_of old.gathered.chain (lost_of old lent.1) lent.1) lent.0 lent.1 old next mend own refl are.0 r one.0 one.1) all

pub room_from_start : (pages : List LentAt) (start new : Mending) (mends : List (Option Mend)) (given : List Command) → AllByRecursion IsPage (pages_of pages) → IsStart start → TakesPages pages start new mends given →
    HasRoom new.gathered.chain
room_from_start pages start new mends given are s t =
    let chain : start.gathered.chain ≡ chain_state_of [] = s.gathered.chain in
    all_room pages start new mends given are
    (record {
      few = omega (arith, ap (λ (c : ChainState). length c.streams) chain);
      links = λ e. absurd (false≢true (sym (ap is_open chain) ∙ e));
      numbers = subst (λ (c : ChainState). AllByRecursion HasNumber c.streams) (sym chain) tt;
      small = omega (arith, ap (λ (c : ChainState). c.length_of) chain);
    })
    t
