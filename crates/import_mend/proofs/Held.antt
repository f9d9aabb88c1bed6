-- The commands given hold what the mended pages hold.
use Rattle.std.proofs.Common.{◌≡◌, ℕ, ◌+◌, ◌^◌, Bool, true, false, cond, List, [], ◌∷◌, ◌++◌, length, Option, Some, None, refl, sym, ◌∙◌, ap, subst, arith, inl, inr, append_assoc, append-nil}
use Rattle.std.specs.Prelude.{nat_eq, nat_lt, nat_le, not, ◌&&◌}
use Rattle.std.specs.List.{AllByRecursion, list_any}
use Rattle.std.proofs.lemmas.Bool.{cases_Bool, cond-false, le-ltb, false≢true}
use Rattle.std.proofs.lemmas.List.{length-take-le}
use Rattle.ogg_page.specs.Page.{Page, IsPage, bytes_of_pages}
use Rattle.ogg_page.specs.LogicalStream.{is_first, joined_lacing}
use Rattle.ogg_page.specs.Window.{LentAt}
use Rattle.link_chain.specs.declared.stream_state.StreamState.{StreamState}
use Rattle.link_chain.specs.ChainState.{ChainState, chain_state_of, last_link}
use Rattle.link_chain.specs.Links.{AreLinks, pages_with}
use Rattle.link_chain.specs.Progress.{stream_in}
use Rattle.link_chain.specs.LinkLaws.{in_turn}
use Rattle.link_chain.specs.Taking.{AreTaken, fault_of_page, links_with}
use Rattle.link_chain.specs.Laws.Grow.{all_filter}
use Rattle.ogg_command.specs.declared.command.Command.{Command}
use Rattle.import_gather.specs.Cutting.{first_size}
use Rattle.import_gather.specs.Gathered.{Gathered, HasGathered, without_packet}
use Rattle.import_gather.specs.Kept.{is_too_long, rest_of}
use Rattle.import_mend.specs.Cut.{cut_links}
use Rattle.import_mend.specs.Gives.{BeginsAgain, EndsEach, EndsStreams, Gives, GivesEnd, GivesRest, Mending, open_streams}
use Rattle.import_mend.specs.Mended.{end_page, is_joined, whole_values}
use Rattle.import_mend.specs.Steps.{broken_off}
use Rattle.import_mend.specs.Ways.{way_of, way_of_first, way_of_known}
use Rattle.import_mend.specs.Whole.{AreWithin, Becomes, GathersPages, HasMended, IsStart, IsWithin, LostNone, TakesPage, TakesPages, broken_links, links_ended, links_later, lost_of, pages_of, unfinished_size}
use Rattle.import_mend.specs.declared.mend.Mend.{Mend}
use Rattle.import_mend.specs.declared.ways.Way.{Way}
use Rattle.import_mend.specs.declared.ways.Way.TheVariants.{Take, Restart, Stranger, Repeated, Misshapen, Full}
use Rattle.import_mend.proofs.Cuts.{cut_lacing, less_lacing}
use Rattle.import_mend.proofs.Dropped.{HoldsRest, absent_pages, drops, find_rest, pages_of_last}
use Rattle.import_mend.proofs.Lacings.{whole_within}
use Rattle.import_mend.proofs.Sound.{InTurn, StaysAsItIs, none_lost, sound_page}
use Rattle.import_mend.proofs.Taken.{if_taken, stranger, full}
use Rattle.import_mend.proofs.Fits.{some_same}

-- ---- the unfinished packet of a stream is dropped, or not
pub dropped_goes_on : (serial : ℕ) (links : List (List Page)) (g : Gathered) (given : List Command) → HasMended links g given → HasMended (cut_links serial links) (without_packet serial g) given
dropped_goes_on serial links g given h = (drops serial links g given h.0, h.1)

pub broken_goes_on : (joined : Bool) (serial : ℕ) (links : List (List Page)) (g : Gathered) (given : List Command) → HasMended links g given →
    HasMended (broken_links joined serial links) (broken_off joined serial g) given
broken_goes_on true serial links g given h = h
broken_goes_on false serial links g given h = dropped_goes_on serial links g given h

-- ---- streams are ended
pub each_ended : (streams : List StreamState) (links : List (List Page)) (old new : Gathered) (given more : List Command) → EndsEach streams old new more → HasMended links old given →
    HasMended (links_ended streams links) new (given ++ more)
each_ended [] links old new given more e h =
    subst (λ (g : Gathered). HasMended links g (given ++ more)) (sym e.0)
    (subst (λ (l : List Command). HasMended links old l) (sym (ap (λ l. given ++ l) e.1 ∙ append-nil given)) h)
each_ended (stream ∷ streams) links old new given more (next, own, others, one, each, all) h =
    let dropped : HasMended (cut_links stream.serial links) (without_packet stream.serial old) given = dropped_goes_on stream.serial links old given h in
    let ended : HasMended (links_with (cut_links stream.serial links) (end_page stream.next_sequence stream)) next (given ++ own) = one.gathers.goes_on (cut_links stream.serial links) given dropped.0 dropped.1 in
    subst (λ (l : List Command). HasMended (links_ended (stream ∷ streams) links) new l) (append_assoc given own others ∙ ap (λ l. given ++ l) (sym all))
    (each_ended streams (links_with (cut_links stream.serial links) (end_page stream.next_sequence stream)) next new (given ++ own) others each ended)

-- ---- any page
-- a page that isn't its stream's first is taken only if its stream is there
pub known_later : (chain : ChainState) (lost : ℕ) (page : Page) → is_first page ≡ false → way_of chain lost page ≡ Take → (stream : StreamState) × (stream_in chain.streams page.serial ≡ Some stream)
known_later chain lost page later way = at (stream_in chain.streams page.serial) refl
  where
    at : (o : Option StreamState) → stream_in chain.streams page.serial ≡ o → (stream : StreamState) × (stream_in chain.streams page.serial ≡ Some stream)
    at (Some stream) e = (stream, e)
    at None e =
        let known : Way = way_of_known chain lost page (stream_in chain.streams page.serial) in
        let a = if_taken (nat_le (2 ^ 62) chain.length_of) Full (cond (is_first page) (way_of_first chain page) known) full way in
        absurd (stranger (ap (way_of_known chain lost page) (sym e) ∙ sym (cond-false (is_first page) (way_of_first chain page) known later) ∙ a.1))

-- the page is left out
left_out : (links : List (List Page)) (old new : Mending) (given more : List Command) → (new ≡ old) × (more ≡ []) → HasMended links old.gathered given → HasMended links new.gathered (given ++ more)
left_out links old new given more e h =
    subst (λ (m : Mending). HasMended links m.gathered (given ++ more)) (sym e.0)
    (subst (λ (l : List Command). HasMended links old.gathered l) (sym (ap (λ l. given ++ l) e.1 ∙ append-nil given)) h)

pub becomes : (way : Way) (offset lost : ℕ) (page : Page) (old new : Mending) (mend : Option Mend) (given more : List Command) (links : List (List Page)) → way_of old.gathered.chain lost page ≡ way →
    Gives way offset lost page old new mend more → HasMended links old.gathered given → (now : List (List Page)) × Becomes way lost page old.gathered links now × HasMended now new.gathered (given ++ more)
becomes Take offset lost page old new mend given more links way g h =
    elim (cases_Bool (is_first page)) [
      | inl first ↦ (
        links_with links page,
        ((λ _. refl), (λ later stream known. absurd (false≢true (sym later ∙ first)))),
        (g.0 first).0.goes_on links given h.0 h.1,
      )
      | inr later ↦
          (let (stream, known) = known_later old.gathered.chain lost page later way in
          let joined : Bool = is_joined lost stream (is_too_long old.gathered.link page) page in
          let broken : HasMended (broken_links joined page.serial links) (broken_off joined page.serial old.gathered) given = broken_goes_on joined page.serial links old.gathered given h in (
            links_later lost stream page old.gathered links,
            (
              (λ first. absurd (false≢true (sym later ∙ first))),
              (λ _ other is. ap (λ (s : StreamState). links_later lost s page old.gathered links) (some_same (sym known ∙ is))),
            ),
            (g.1 later stream known).0.goes_on (broken_links joined page.serial links) given broken.0 broken.1,
          ))
    ]
becomes Restart offset lost page old new mend given more links way g h =
    elim g [
      | inl b ↦
          (let again : BeginsAgain page old new more = b.1 in
          let ended : List (List Page) = links_ended (open_streams old.gathered.chain) links in
          let closed : HasMended ended again.closed (given ++ again.ends) = each_ended (open_streams old.gathered.chain) links old.gathered again.closed given again.ends again.each h in
          let now : HasMended (links_with ended page) new.gathered (given ++ again.ends ++ again.own) = again.begins.goes_on ended (given ++ again.ends) closed.0 closed.1 in (
            links_with ended page,
            inl refl,
            subst (λ (l : List Command). HasMended (links_with ended page) new.gathered l) (append_assoc given again.ends again.own ∙ ap (λ l. given ++ l) (sym again.all)) now,
          ))
      | inr f ↦
          (let e : EndsStreams old.gathered new.gathered more = f.1 in (
            links_ended e.ended links,
            inr (e.ended, open_streams new.gathered.chain, e.open_ones, refl),
            each_ended e.ended links old.gathered new.gathered given more e.each h,
          ))
    ]
becomes Stranger offset lost page old new mend given more links way g h = (links, refl, left_out links old new given more g h)
becomes Repeated offset lost page old new mend given more links way g h = (links, refl, left_out links old new given more g h)
becomes Misshapen offset lost page old new mend given more links way g h = (links, refl, left_out links old new given more g h)
becomes Full offset lost page old new mend given more links way g h = (links, refl, left_out links old new given more g h)

-- ---- all pages
pub all_mended : (pages : List LentAt) (old new : Mending) (mends : List (Option Mend)) (before given : List Command) (links : List (List Page)) → TakesPages pages old new mends given
    → HasMended links old.gathered before → (now : List (List Page)) × HasMended now new.gathered (before ++ given)
all_mended [] old new mends before given links t h = (
  links,
  subst (λ (m : Mending). HasMended links m.gathered (before ++ given)) (sym t.0)
      (subst (λ (l : List Command). HasMended links old.gathered l) (sym (ap (λ l. before ++ l) t.2 ∙ append-nil before)) h),
)
all_mended (lent ∷ later) old new mends before given links (next, mend, own, others, rest, one, all, told, is) h =
    let (middle, _, held) = becomes (way_of old.gathered.chain (lost_of old lent.1) lent.1) lent.0 (lost_of old lent.1) lent.1 old next mend before own links refl one.1 h in
    let (now, result) = all_mended later next new others (before ++ own) rest middle all held in
    (now, subst (λ (l : List Command). HasMended now new.gathered l) (append_assoc before own rest ∙ ap (λ l. before ++ l) (sym is)) result)

-- at the end all that is held is given
pub ends_mended : (links : List (List Page)) (old new : Gathered) (given more : List Command) → GivesEnd old new more → HasMended links old given →
    (now : List (List Page)) × HasGathered now new (given ++ more)
ends_mended links old new given more e h =
    let closed : HasMended (links_ended e.each.ended links) e.closed (given ++ e.ends) = each_ended e.each.ended links old e.closed given e.ends e.each.each h in (
      links_ended e.each.ended links,
      subst (λ (l : List Command). HasGathered (links_ended e.each.ended links) new l) (append_assoc given e.ends e.rest ∙ ap (λ l. given ++ l) (sym e.all))
          (e.waited.gathers (links_ended e.each.ended links) (given ++ e.ends) closed.0),
    )

-- ---- a sound bitstream
record IsSound (links : List (List Page)) (page : Page) : Type 0 where
  is_page : IsPage page
  follows : fault_of_page (chain_state_of links) page ≡ None
  within : IsWithin links page

-- how many bytes are kept of a packet
pub rest_size : (serial : ℕ) (links : List (List Page)) (g : Gathered) (given : List Command) → HasGathered links g given →
    length (rest_of serial g.link.streams) ≡ unfinished_size (joined_lacing (pages_with serial (last_link links)))
rest_size serial links g given h =
    let pages : List Page = last_link links in
    let own : List Page = pages_with serial pages in
    let all : AllByRecursion IsPage own = all_filter IsPage (λ (p : Page). nat_eq p.serial serial) pages (pages_of_last links h.are.pages) in
    let held : HoldsRest own (rest_of serial g.link.streams) =
    find_rest serial pages g.link.streams h.so_far.held h.so_far.last (λ none. absent_pages serial h.bytes links h.are (ap (list_any (nat_eq serial)) (sym h.so_far.order) ∙ none)) in
    omega (
      arith,
      held.holds.rest_size,
      less_lacing own held.packets held.segments (rest_of serial g.link.streams) all held.holds,
      ap length (cut_lacing own),
      length-take-le (whole_values (joined_lacing own)) (joined_lacing own) (whole_within (joined_lacing own)),
    )

sound_turn : (links : List (List Page)) (g : Gathered) (given : List Command) (page : Page) → HasGathered links g given → IsSound links page → InTurn g.chain page
sound_turn links g given page h s = subst (λ (c : ChainState). InTurn c page) (sym h.chain) (record { is_page = s.is_page; follows = s.follows; numbered = s.within.numbered; small = s.within.small })

sound_short : (links : List (List Page)) (g : Gathered) (given : List Command) (page : Page) → HasGathered links g given → IsSound links page → is_too_long g.link page ≡ false
sound_short links g given page h s =
    elim (cases_Bool (is_first page)) [
      | inl first ↦ ap (λ b. not b && nat_lt 8388608 (length (rest_of page.serial g.link.streams) + first_size page.lacing)) first
      | inr later ↦
          ap (λ b. not (is_first page) && b)
          (le-ltb 8388608 (length (rest_of page.serial g.link.streams) + first_size page.lacing) (omega (arith, s.within.short later, rest_size page.serial links g given h)))
          ∙ and_no (not (is_first page))
    ]
  where
    and_no : (b : Bool) → (b && false) ≡ false
    and_no true = refl
    and_no false = refl

sound_step : (offset : ℕ) (page : Page) (old new : Mending) (mend : Option Mend) (given more : List Command) (links : List (List Page)) → IsSound links page → LostNone old.losses
    → HasGathered links old.gathered given → TakesPage offset page old new mend more → StaysAsItIs page old new mend more
sound_step offset page old new mend given more links s losses h t =
    sound_page offset (lost_of old page) page old new mend more (none_lost old.losses old.gathered.chain.streams page.serial losses) losses
    (sound_turn links old.gathered given page h s) (sound_short links old.gathered given page h s) t.0 t.1

pub record StayAsTheyAre (pages : List LentAt) (old new : Mending) (mends : List (Option Mend)) (before given : List Command) (links : List (List Page)) : Type 0 where
  pub told : AllByRecursion (λ (mend : Option Mend). mend ≡ None) mends
  pub gathers : GathersPages pages old.gathered new.gathered given
  pub losses : LostNone new.losses
  pub held : HasMended links new.gathered (before ++ given)

all_sound : (pages : List LentAt) (old new : Mending) (mends : List (Option Mend)) (before given : List Command) (start links : List (List Page)) → AllByRecursion IsPage (pages_of pages)
    → AreTaken start (pages_of pages) links → AreWithin start pages → LostNone old.losses → HasMended start old.gathered before → TakesPages pages old new mends given →
    StayAsTheyAre pages old new mends before given links
all_sound [] old new mends before given start links are taken within losses h t = record {
  told = subst (AllByRecursion (λ (mend : Option Mend). mend ≡ None)) (sym t.1) tt;
  gathers = (ap (λ (m : Mending). m.gathered) t.0, t.2);
  losses = subst (λ (m : Mending). LostNone m.losses) (sym t.0) losses;
  held = subst (λ (l : List (List Page)). HasMended l new.gathered (before ++ given)) (sym taken)
      (subst (λ (m : Mending). HasMended start m.gathered (before ++ given)) (sym t.0)
      (subst (λ (l : List Command). HasMended start old.gathered l) (sym (ap (λ l. before ++ l) t.2 ∙ append-nil before)) h));
}
all_sound (lent ∷ later) old new mends before given start links are taken within losses h (next, mend, own, others, rest, one, all, told, is) =
    let sound : IsSound start lent.1 = record { is_page = are.0; follows = taken.0; within = within.0 } in
    let here : StaysAsItIs lent.1 old next mend own = sound_step lent.0 lent.1 old next mend before own start sound losses h.0 one in
    let middle : HasMended (links_with start lent.1) next.gathered (before ++ own) = here.gathers.goes_on start before h.0 h.1 in
    let stay : StayAsTheyAre later next new others (before ++ own) rest links =
    all_sound later next new others (before ++ own) rest (links_with start lent.1) links are.1 taken.1 within.1 here.losses middle all in
    record {
      told = subst (AllByRecursion (λ (mend : Option Mend). mend ≡ None)) (sym told) (here.told, stay.told);
      gathers = (next.gathered, own, rest, here.gathers, stay.gathers, is);
      losses = stay.losses;
      held = subst (λ (l : List Command). HasMended links new.gathered l) (append_assoc before own rest ∙ ap (λ l. before ++ l) (sym is)) stay.held;
    }

pub nothing_changed : (pages : List LentAt) (start new : Mending) (mends : List (Option Mend)) (given : List Command) (links : List (List Page)) → AllByRecursion IsPage (pages_of pages)
    → AreLinks (bytes_of_pages (pages_of pages)) links → AreWithin [] pages → IsStart start → TakesPages pages start new mends given → StayAsTheyAre pages start new mends [] given links
nothing_changed pages start new mends given links are chain within begins taken =
    all_sound pages start new mends [] given [] links are ((in_turn (pages_of pages) links are).1 chain) within begins.losses (begins.gathered, begins.goes_on) taken

-- with no stream open the end gives what waited, and nothing else
pub nothing_ended : (old new : Gathered) (more : List Command) → open_streams old.chain ≡ [] → GivesEnd old new more → GivesRest old new more
nothing_ended old new more none e = at e.each.ended e.each.open_ones e.each.each
  where
    at : (ended : List StreamState) → open_streams old.chain ≡ ended ++ open_streams e.closed.chain → EndsEach ended old e.closed e.ends → GivesRest old new more
    at [] all each =
        subst (λ (g : Gathered). GivesRest g new more) each.0
        (subst (λ (l : List Command). GivesRest e.closed new l) (sym (e.all ∙ ap (λ l. l ++ e.rest) each.1)) e.waited)
    at (stream ∷ ended) all each = absurd (some_open stream (ended ++ open_streams e.closed.chain) (sym all ∙ none))
      where
        some_open : (stream : StreamState) (streams : List StreamState) → stream ∷ streams ≡ [] → ⊥
        some_open stream streams f = cc
