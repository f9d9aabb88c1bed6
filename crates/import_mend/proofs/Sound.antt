-- A page of a sound bitstream is taken as it is.
use Rattle.std.proofs.Common.{◌≡◌, ℕ, ◌-◌, ◌^◌, ◌<◌, Bool, true, false, cond, List, [], ◌∷◌, length, replicate, take, sum, zero, suc, Option, Some, None, refl, sym, ◌∙◌, ap, subst, arith, inl, inr}
use Rattle.std.specs.Prelude.{nat_eq, nat_lt, nat_le, not, ◌||◌, ◌&&◌, is_none, is_some, slice_index, slice_set}
use Rattle.std.specs.List.{AllByRecursion}
use Rattle.std.specs.Option.{option_map_or}
use Rattle.std.proofs.lemmas.Bool.{cases_Bool, cases_eq, cond-true, cond-false, eq-eqb, eqb-true, ne_eqb, le-ltb, lt-leb, ltb-true, ltb-false, and_parts, false≢true}
use Rattle.std.proofs.lemmas.List.{get_or-set_same, get_or-set_other, get_or_past, length-set}
use Rattle.std.proofs.Math.Seq.{take-length}
use Rattle.ogg_page.specs.Page.{Page, IsPage, IsByte}
use Rattle.ogg_page.specs.Lacing.{ends_open}
use Rattle.ogg_page.specs.LogicalStream.{is_continued, is_first, is_last}
use Rattle.link_chain.specs.declared.stream_state.StreamState.{StreamState}
use Rattle.link_chain.specs.ChainState.{ChainState, is_open}
use Rattle.link_chain.specs.Progress.{stream_in}
use Rattle.link_chain.specs.Taking.{fault_of_page, is_whole_packet, joining_rules, later_rules, leaves_open, opening_rules}
use Rattle.link_chain.specs.Laws.PageRules.{joining_kept, later_kept, opening_kept}
use Rattle.link_chain.specs.Laws.Rules.{NoneBroken}
use Rattle.ogg_command.specs.declared.command.Command.{Command}
use Rattle.import_gather.specs.Gathered.{GathersPage}
use Rattle.import_gather.specs.Kept.{is_too_long}
use Rattle.import_mend.specs.Gives.{Gives, Mending}
use Rattle.import_mend.specs.Losses.{lost_at, lost_in, place_in, with_lost, with_lost_at}
use Rattle.import_mend.specs.Mended.{ends_some, is_joined, left_whole, mended, whole_values, with_values}
use Rattle.import_mend.specs.Steps.{Mends, broken_off}
use Rattle.import_mend.specs.Telling.{mend_of}
use Rattle.import_mend.specs.Ways.{is_one_more, is_repeated, leaves_number, number_due, restarts, way_of, way_of_first, way_of_known, way_of_later}
use Rattle.import_mend.specs.Whole.{LostNone}
use Rattle.import_mend.specs.declared.mend.Mend.{Mend}
use Rattle.import_mend.specs.declared.mend.Mend.TheVariants.{Gap as GapOf, TooLong as TooLongOf, Unfinished as UnfinishedOf}
use Rattle.import_mend.specs.declared.ways.Way.{Way}
use Rattle.import_mend.specs.declared.ways.Way.TheVariants.{Take, Restart, Stranger, Repeated, Misshapen, Full}
use Rattle.import_mend.proofs.Lacings.{none_whole, whole_closed}
use Rattle.import_mend.proofs.Taken.{unchanged}
use Rattle.std.proofs.Math.Bool.{and-false}

-- ---- no page was lost
pub all_none : (count : ℕ) → LostNone (replicate count 0)
all_none zero place = get_or_past [] place 0 (omega arith)
all_none (suc count) zero = refl
all_none (suc count) (suc place) = all_none count place

pub none_lost : (losses : List ℕ) (streams : List StreamState) (serial : ℕ) → LostNone losses → lost_in losses streams serial ≡ 0
none_lost losses streams serial none = at (place_in streams serial)
  where
    at : (o : Option ℕ) → lost_at losses o ≡ 0
    at None = refl
    at (Some place) = none place

pub set_none : (losses : List ℕ) (place : ℕ) → LostNone losses → LostNone (slice_set losses place 0)
set_none losses place none i =
    elim (cases_eq i place) [
      | inl here ↦
          elim (cases_Bool (nat_lt place (length losses))) [
            | inl inside ↦ ap (λ n. slice_index (slice_set losses place 0) n) here ∙ get_or-set_same losses place 0 0 (ltb-true place (length losses) inside)
            | inr past ↦
                get_or_past (slice_set losses place 0) i 0
                (omega (arith, length-set losses place 0, here, ltb-false place (length losses) past))
          ]
      | inr other ↦ get_or-set_other losses place i 0 0 other ∙ none i
    ]

pub lost_none : (losses : List ℕ) (streams : List StreamState) (serial count : ℕ) → count ≡ 0 → LostNone losses → LostNone (with_lost losses streams serial count)
lost_none losses streams serial count nothing none = at (place_in streams serial)
  where
    at : (o : Option ℕ) → LostNone (with_lost_at losses count o)
    at None = none
    at (Some place) = subst (λ n. LostNone (slice_set losses place n)) (sym nothing) (set_none losses place none)

-- ---- a page in its turn, within the limits
pub record InTurn (chain : ChainState) (page : Page) : Type 0 where
  pub is_page : IsPage page
  pub follows : fault_of_page chain page ≡ None
  pub numbered : leaves_number page page.sequence ≡ true
  pub small : chain.length_of < 2 ^ 62

-- a stream's first page
first_chosen : (chain : ChainState) (page : Page) → not (is_whole_packet page) ≡ false → is_one_more chain page ≡ false → leaves_number page page.sequence ≡ true → restarts chain page ≡ false →
    way_of_first chain page ≡ Take
first_chosen chain page whole few numbered again =
    ap (λ b. cond b Misshapen (cond (is_one_more chain page) Full (cond (not (leaves_number page page.sequence)) Full (cond (restarts chain page) Restart Take)))) whole
    ∙ ap (λ b. cond b Full (cond (not (leaves_number page page.sequence)) Full (cond (restarts chain page) Restart Take))) few
    ∙ ap (λ b. cond (not b) Full (cond (restarts chain page) Restart Take)) numbered
    ∙ ap (λ b. cond b Restart Take) again

first_turn : (chain : ChainState) (page : Page) → is_first page ≡ true → InTurn chain page → way_of_first chain page ≡ Take
first_turn chain page first t =
    elim (cases_Bool (is_open chain)) [
      | inl opened ↦
          (let kept : NoneBroken (joining_rules chain page) = joining_kept chain page first opened t.follows in
          let again : restarts chain page ≡ false =
          ap (λ b. is_open chain && (b || is_some (stream_in chain.streams page.serial))) kept.0 ∙ ap (λ b. is_open chain && b) kept.1.0 ∙ and-false (is_open chain) in
          let few : is_one_more chain page ≡ false =
          cond-true (is_open chain && not (restarts chain page)) (nat_le 64 (length chain.streams)) (nat_le 65536 chain.links)
          (ap (λ b. b && not (restarts chain page)) opened ∙ ap not again)
          ∙ kept.1.1.1.0 in
          first_chosen chain page kept.1.1.0 few t.numbered again)
      | inr closed ↦
          (let kept : NoneBroken (opening_rules chain page) = opening_kept chain page first closed t.follows in
          let again : restarts chain page ≡ false = ap (λ b. b && (chain.has_data || is_some (stream_in chain.streams page.serial))) closed in
          let few : is_one_more chain page ≡ false =
          cond-false (is_open chain && not (restarts chain page)) (nat_le 64 (length chain.streams)) (nat_le 65536 chain.links) (ap (λ b. b && not (restarts chain page)) closed)
          ∙ kept.1.0 in
          first_chosen chain page kept.0 few t.numbered again)
    ]

-- another page of a stream
pub record LaterTurn (chain : ChainState) (page : Page) (stream : StreamState) : Type 0 where
  pub known : stream_in chain.streams page.serial ≡ Some stream
  pub links : nat_eq chain.links 0 ≡ false
  pub unended : stream.ended ≡ false
  pub number : page.sequence ≡ stream.next_sequence
  pub continued : cond (is_continued page) stream.finished (not stream.finished) ≡ false
  pub last : (is_last page && leaves_open page stream) ≡ false

pub later_turn : (chain : ChainState) (page : Page) → is_first page ≡ false → InTurn chain page → (stream : StreamState) × LaterTurn chain page stream
later_turn chain page later t = at (stream_in chain.streams page.serial) refl
  where
    kept : NoneBroken (later_rules chain page)
    kept = later_kept chain page later t.follows

    at : (o : Option StreamState) → stream_in chain.streams page.serial ≡ o → (stream : StreamState) × LaterTurn chain page stream
    at None e = absurd (false≢true (sym kept.1.0 ∙ ap is_none e))
    at (Some stream) e =
        let has : (test : StreamState → Bool) → option_map_or test (stream_in chain.streams page.serial) false ≡ test stream = λ test. ap (λ o. option_map_or test o false) e in (
          stream,
          record {
            known = e;
            links = kept.0;
            unended = sym (has (λ s. s.ended)) ∙ kept.1.1.0;
            number = eqb-true page.sequence stream.next_sequence (not_not (nat_eq page.sequence stream.next_sequence) (sym (has (λ s. not (nat_eq page.sequence s.next_sequence))) ∙ kept.1.1.1.0));
            continued = sym (has (λ s. cond (is_continued page) s.finished (not s.finished))) ∙ kept.1.1.1.1.0;
            last = sym (has (λ s. is_last page && leaves_open page s)) ∙ kept.1.1.1.1.1.0;
          },
        )
      where
        not_not : (b : Bool) → not b ≡ false → b ≡ true
        not_not true e' = refl
        not_not false e' = cc

later_way : (chain : ChainState) (lost : ℕ) (page : Page) (stream : StreamState) → lost ≡ 0 → InTurn chain page → LaterTurn chain page stream →
    way_of_known chain lost page (stream_in chain.streams page.serial) ≡ Take
later_way chain lost page stream none t l =
    let due : number_due lost stream ≡ page.sequence = omega (arith, none, l.number) in
    let new : is_repeated lost stream page ≡ false =
    ap (λ b. b || (nat_lt (number_due lost stream) page.sequence && nat_lt page.position stream.last_position)) (le-ltb page.sequence (number_due lost stream) (omega (arith, due)))
    ∙ ap (λ b. b && nat_lt page.position stream.last_position) (le-ltb (number_due lost stream) page.sequence (omega (arith, due))) in
    let numbered : leaves_number page stream.next_sequence ≡ true = ap (leaves_number page) (sym l.number) ∙ t.numbered in
    ap (way_of_known chain lost page) l.known
    ∙ ap (λ b. cond b Stranger (way_of_later lost stream page)) l.links
    ∙ ap (λ b. cond b Stranger (cond (is_repeated lost stream page) Repeated (cond (not (leaves_number page stream.next_sequence)) Full Take))) l.unended
    ∙ ap (λ b. cond b Repeated (cond (not (leaves_number page stream.next_sequence)) Full Take)) new
    ∙ ap (λ b. cond (not b) Full Take) numbered

pub sound_way : (chain : ChainState) (lost : ℕ) (page : Page) → lost ≡ 0 → InTurn chain page → way_of chain lost page ≡ Take
sound_way chain lost page none t =
    let known : Way = way_of_known chain lost page (stream_in chain.streams page.serial) in
    ap (λ b. cond b Full (cond (is_first page) (way_of_first chain page) known)) (lt-leb (2 ^ 62) chain.length_of t.small)
    ∙ elim (cases_Bool (is_first page)) [
      | inl first ↦ cond-true (is_first page) (way_of_first chain page) known first ∙ first_turn chain page first t
      | inr later ↦
          (let (stream, l) = later_turn chain page later t in
          cond-false (is_first page) (way_of_first chain page) known later ∙ later_way chain lost page stream none t l)
    ]

-- ---- what is left of it
-- its lacing values leave no packet open if it is the last
closed_last : (page : Page) (stream : StreamState) → (is_last page && leaves_open page stream) ≡ false → (is_last page && ends_open page.lacing) ≡ false
closed_last page stream e = at page.lacing e
  where
    at : (lacing : List ℕ) → (is_last page && cond (nat_eq (length lacing) 0) (not stream.finished) (ends_open lacing)) ≡ false → (is_last page && ends_open lacing) ≡ false
    at [] e' = and-false (is_last page)
    at (v ∷ lacing) e' =
        ap (λ b. is_last page && b)
        (sym (cond-false (nat_eq (length (v ∷ lacing)) 0) (not stream.finished) (ends_open (v ∷ lacing)) (ne_eqb (length (v ∷ lacing)) 0 (λ f. omega (arith, f)))))
        ∙ e'

pub whole_left : (page : Page) → IsPage page → (is_last page && ends_open page.lacing) ≡ false → left_whole page ≡ page
whole_left page is closed =
    elim (cases_Bool (is_last page)) [
      | inl last ↦
          (let all : whole_values page.lacing ≡ length page.lacing = whole_closed page.lacing is.lacing (sym (ap (λ b. b && ends_open page.lacing) last) ∙ closed) in
          let values : take (whole_values page.lacing) page.lacing ≡ page.lacing = ap (λ n. take n page.lacing) all ∙ take-length page.lacing in
          let bytes : take (sum (take (whole_values page.lacing) page.lacing)) page.body ≡ page.body =
          ap (λ l. take (sum l) page.body) values ∙ ap (λ n. take n page.body) is.whole ∙ take-length page.body in
          cond-true (is_last page) (with_values (whole_values page.lacing) page) page last
          ∙ ap (λ l. record page { lacing = l; body = take (sum (take (whole_values page.lacing) page.lacing)) page.body }) values
          ∙ ap (λ b. record page { body = b }) bytes)
      | inr more ↦ cond-false (is_last page) (with_values (whole_values page.lacing) page) page more
    ]

-- a packet that goes on into a stream's last page ends there
ends_there : (page : Page) (stream : StreamState) → IsPage page → cond (is_continued page) stream.finished (not stream.finished) ≡ false
    → (is_last page && leaves_open page stream) ≡ false → (is_last page && is_continued page && not (ends_some page.lacing)) ≡ false
ends_there page stream is flags last =
    elim (cases_Bool (is_last page && is_continued page)) [
      | inl both ↦
          (let parts = and_parts (is_last page) (is_continued page) both in
          let unfinished : stream.finished ≡ false = sym (ap (λ b. cond b stream.finished (not stream.finished)) parts.1) ∙ flags in
          let closed : leaves_open page stream ≡ false = sym (ap (λ b. b && leaves_open page stream) parts.0) ∙ last in
          ap (λ b. b && not (ends_some page.lacing)) both ∙ ap not (at page.lacing is.lacing (sym (ap (λ b. cond (nat_eq (length page.lacing) 0) (not b) (ends_open page.lacing)) unfinished) ∙ closed)))
      | inr neither ↦ ap (λ b. b && not (ends_some page.lacing)) neither
    ]
  where
    at : (lacing : List ℕ) → AllByRecursion IsByte lacing → cond (nat_eq (length lacing) 0) (not false) (ends_open lacing) ≡ false → ends_some lacing ≡ true
    at [] bytes e = absurd (false≢true (sym e))
    at (v ∷ lacing) bytes e =
        let closed : ends_open (v ∷ lacing) ≡ false =
        sym (cond-false (nat_eq (length (v ∷ lacing)) 0) true (ends_open (v ∷ lacing)) (ne_eqb (length (v ∷ lacing)) 0 (λ f. omega (arith, f)))) ∙ e in
        elim (cases_Bool (ends_some (v ∷ lacing))) [
          | inl some ↦ some
          | inr none ↦ absurd (omega (arith, none_whole (v ∷ lacing) none, whole_closed (v ∷ lacing) bytes closed))
        ]

pub sound_joined : (lost : ℕ) (page : Page) (stream : StreamState) (too_long : Bool) (chain : ChainState) → lost ≡ 0 → too_long ≡ false → InTurn chain page → LaterTurn chain page stream →
    is_joined lost stream too_long page ≡ true
sound_joined lost page stream too_long chain none short t l =
    let numbered : nat_eq page.sequence (number_due lost stream) ≡ true = eq-eqb page.sequence (number_due lost stream) (omega (arith, none, l.number)) in
    let flags : cond (is_continued page) (not stream.finished) stream.finished ≡ true = flipped (is_continued page) stream.finished l.continued in
    ap (λ b. b && cond (is_continued page) (not stream.finished) stream.finished && not too_long && not (is_last page && is_continued page && not (ends_some page.lacing))) numbered
    ∙ ap (λ b. true && b && not too_long && not (is_last page && is_continued page && not (ends_some page.lacing))) flags
    ∙ ap (λ b. true && true && not b && not (is_last page && is_continued page && not (ends_some page.lacing))) short
    ∙ ap (λ b. true && true && true && not b) (ends_there page stream t.is_page l.continued l.last)
  where
    flipped : (continued finished : Bool) → cond continued finished (not finished) ≡ false → cond continued (not finished) finished ≡ true
    flipped true true e = absurd (false≢true (sym e))
    flipped true false e = refl
    flipped false true e = refl
    flipped false false e = absurd (false≢true (sym e))

pub sound_mended : (lost : ℕ) (page : Page) (stream : StreamState) (too_long : Bool) (chain : ChainState) → lost ≡ 0 → too_long ≡ false → InTurn chain page → LaterTurn chain page stream →
    mended true stream.next_sequence page ≡ page
sound_mended lost page stream too_long chain none short t l =
    unchanged lost stream too_long page (sound_joined lost page stream too_long chain none short t l) none (whole_left page t.is_page (closed_last page stream l.last))

pub sound_told : (offset lost : ℕ) (page : Page) (stream : StreamState) (too_long : Bool) (chain : ChainState) → lost ≡ 0 → too_long ≡ false → InTurn chain page → LaterTurn chain page stream →
    mend_of offset lost stream too_long page ≡ None
sound_told offset lost page stream too_long chain none short t l =
    let unfinished : Option Mend = cond (is_last page && ends_open page.lacing) (Some (UnfinishedOf offset page.serial)) None in
    let others : Option Mend = cond too_long (Some (TooLongOf offset page.serial)) (Some (UnfinishedOf offset page.serial)) in
    cond-false (nat_lt (number_due lost stream) page.sequence) (Some (GapOf offset page.serial (number_due lost stream) page.sequence)) (cond (is_joined lost stream too_long page) unfinished others)
    (le-ltb (number_due lost stream) page.sequence (omega (arith, none, l.number)))
    ∙ cond-true (is_joined lost stream too_long page) unfinished others (sound_joined lost page stream too_long chain none short t l)
    ∙ cond-false (is_last page && ends_open page.lacing) (Some (UnfinishedOf offset page.serial)) None (closed_last page stream l.last)

-- ---- what it does
pub record StaysAsItIs (page : Page) (old new : Mending) (mend : Option Mend) (more : List Command) : Type 0 where
  pub told : mend ≡ None
  pub gathers : GathersPage page old.gathered new.gathered more
  pub losses : LostNone new.losses

pub sound_page : (offset lost : ℕ) (page : Page) (old new : Mending) (mend : Option Mend) (more : List Command) → lost ≡ 0 → LostNone old.losses → InTurn old.gathered.chain page
    → is_too_long old.gathered.link page ≡ false → Mends (way_of old.gathered.chain lost page) offset lost page old.gathered new.gathered mend
    → Gives (way_of old.gathered.chain lost page) offset lost page old new mend more → StaysAsItIs page old new mend more
sound_page offset lost page old new mend more none losses t short mends gives =
    let way : way_of old.gathered.chain lost page ≡ Take = sound_way old.gathered.chain lost page none t in
    let m : Mends Take offset lost page old.gathered new.gathered mend = subst (λ w. Mends w offset lost page old.gathered new.gathered mend) way mends in
    let g : Gives Take offset lost page old new mend more = subst (λ w. Gives w offset lost page old new mend more) way gives in
    elim (cases_Bool (is_first page)) [
      | inl first ↦
          record {
            told = (m.0 first).1;
            gathers = (g.0 first).0;
            losses = subst LostNone (sym (g.0 first).1) (set_none old.losses (cond (is_open old.gathered.chain) (length old.gathered.chain.streams) 0) losses);
          }
      | inr later ↦
          (let (stream, l) = later_turn old.gathered.chain page later t in
          let too_long : Bool = is_too_long old.gathered.link page in
          let joined : is_joined lost stream too_long page ≡ true = sound_joined lost page stream too_long old.gathered.chain none short t l in
          let here = g.1 later stream l.known in
          record {
            told = (m.1 later stream l.known).1 ∙ sound_told offset lost page stream too_long old.gathered.chain none short t l;
            gathers = subst (λ (p : Page). GathersPage p old.gathered new.gathered more) (sound_mended lost page stream too_long old.gathered.chain none short t l)
                (subst (λ b. GathersPage (mended b stream.next_sequence page) (broken_off b page.serial old.gathered) new.gathered more) joined here.0);
            losses = subst LostNone (sym here.1) (lost_none old.losses old.gathered.chain.streams page.serial (page.sequence - stream.next_sequence) (omega (arith, l.number)) losses);
          })
    ]
