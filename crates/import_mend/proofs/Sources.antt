-- Where what is kept and given comes from, after first pages, ends, and all pages.
use Rattle.std.proofs.Common.{◌≡◌, ℕ, ◌+◌, ◌^◌, ◌<◌, Bool, true, false, cond, List, [], ◌∷◌, ◌++◌, length, map, Option, Some, None, refl, sym, ◌∙◌, ap, subst, arith, inl, inr, append_assoc, append-nil, length-append, replicate}
use Rattle.std.specs.Prelude.{nat_eq, nat_le, not, ◌||◌}
use Rattle.std.specs.List.{AllByRecursion}
use Rattle.std.proofs.lemmas.Bool.{cases_Bool, cases_eq, cond-true, cond-false, leb-false, and_parts, false≢true, not-false}
use Rattle.std.proofs.lemmas.List.{length-map, length-set}
use Rattle.ogg_page.specs.Page.{Page, IsPage}
use Rattle.ogg_page.specs.Lacing.{ends_open, lace, lacing_of}
use Rattle.ogg_page.specs.LogicalStream.{is_continued, is_first}
use Rattle.ogg_page.specs.StreamLaws.{ends_open-lace}
use Rattle.ogg_page.specs.Window.{LentAt}
use Rattle.link_chain.specs.declared.stream_state.StreamState.{StreamState}
use Rattle.link_chain.specs.ChainState.{ChainState, chain_state_of, is_open}
use Rattle.link_chain.specs.Followed.{after_page, continued, entered, followed, joined as joined_chain, opened}
use Rattle.link_chain.specs.Progress.{change_at, stream_in, left_whole as whole_stream}
use Rattle.link_chain.specs.Taking.{fault_of_page, is_one_packet, is_whole_packet}
use Rattle.link_chain.specs.Laws.OwnSerials.{serial_in, serials_stay}
use Rattle.link_chain.specs.Laws.PageRules.{joining_kept, opening_kept}
use Rattle.link_chain.specs.Laws.TakenLinks.{whole_lacing}
use Rattle.ogg_command.specs.declared.command.Command.{Command}
use Rattle.import_gather.specs.Cutting.{CutsInto}
use Rattle.import_gather.specs.Gathered.{Gathered, without_packet}
use Rattle.import_gather.specs.Giving.{Follows, TakesOn}
use Rattle.import_gather.specs.Kept.{KeptLink, entered as kept_entered, rest_of, waits}
use Rattle.import_gather.specs.Laws.{none_kept}
use Rattle.import_mend.specs.Cut.{cut_links}
use Rattle.import_mend.specs.Gives.{BeginsAgain, EndsEach, EndsOne, EndsStreams, Gives, GivesEnd, Mending, mending, open_streams}
use Rattle.import_mend.specs.Losses.{lost_at, lost_in, with_new}
use Rattle.import_mend.specs.Mended.{end_page}
use Rattle.import_mend.specs.Origin.{CommandFrom, ComesFrom, KeptFrom, Origin, RestFrom}
use Rattle.import_mend.specs.Steps.{Mends}
use Rattle.import_mend.specs.Ways.{is_one_more, leaves_number, restarts, way_of, way_of_first, way_of_known}
use Rattle.import_mend.specs.Whole.{HasMended, IsStart, TakesPages, links_ended, lost_of, pages_of}
use Rattle.import_mend.specs.declared.mend.Mend.{Mend}
use Rattle.import_mend.specs.declared.ways.Way.{Way}
use Rattle.import_mend.specs.declared.ways.Way.TheVariants.{Take, Restart, Stranger, Repeated, Misshapen, Full}
use Rattle.import_mend.proofs.Fits.{broken_known, found_changed, no_rest, some_same}
use Rattle.import_mend.proofs.Held.{becomes, dropped_goes_on, each_ended, known_later}
use Rattle.import_mend.proofs.Kepts.{FollowsFrom, begin_if_from, follows_from, other_found, pushed_found, rest_before, rest_dropped, without_from}
use Rattle.import_mend.proofs.Lost.{same_place}
use Rattle.import_mend.proofs.Origins.{Known, commands_more, headers_more, is_known, origin_later, origin_more}
use Rattle.import_mend.proofs.Parts.{alone, no_packets}
use Rattle.import_mend.proofs.Runs.{laced_length}
use Rattle.import_mend.proofs.Taken.{first_fits, restarts_first}
use Rattle.ogg_page.specs.Laws.PageBytes.{all_both}

-- ---- a first page
record FirstPage (page : Page) : Type 0 where
  is : IsPage page
  own : is_continued page ≡ false
  lacing : page.lacing ≡ lace page.body

first_page : (page : Page) → IsPage page → is_whole_packet page ≡ true → FirstPage page
first_page page is whole =
    let parts : (not (is_continued page) ≡ true) × (is_one_packet page.lacing ≡ true) = and_parts (not (is_continued page)) (is_one_packet page.lacing) whole in
    record { is = is; own = no (is_continued page) parts.0; lacing = whole_lacing page.lacing parts.1 ∙ ap lacing_of is.whole }
  where
    no : (b : Bool) → not b ≡ true → b ≡ false
    no true e = cc
    no false e = refl

body_from : (seen : List Page) (page : Page) → FirstPage page → ComesFrom (seen ++ page ∷ []) page.serial page.position page.body
body_from seen page f = record {
  before = [];
  page = page;
  values = [];
  bytes = [];
  later_values = [];
  later_bytes = [];
  lies = alone seen page [] [] (lace page.body ++ []) (page.body ++ []) (f.lacing ∙ sym (append-nil (lace page.body))) (sym (append-nil page.body)) refl refl (λ _. f.own);
  ends = omega (arith, laced_length page.body, ap length f.lacing);
  position_is = refl;
}

first_finished : (page : Page) → FirstPage page → (entered page).finished ≡ true
first_finished page f =
    ap (λ l. not (cond (nat_eq (length l) 0) false (ends_open l))) f.lacing
    ∙ ap (λ e. not (cond (nat_eq (length (lace page.body)) 0) false e)) (ends_open-lace page.body)
    ∙ both (nat_eq (length (lace page.body)) 0)
  where
    both : (b : Bool) → not (cond b false false) ≡ true
    both true = refl
    both false = refl

-- the first page of a link
origin_opens : (seen : List Page) (page : Page) (losses : List ℕ) (c : Gathered) (new : Mending) (given own : List Command) → FirstPage page → is_first page ≡ true → is_open c.chain ≡ false → length losses ≡ 64
    → AllByRecursion (KeptFrom seen) c.link.streams → AllByRecursion (CommandFrom seen) given → new.gathered.chain ≡ after_page c.chain page → TakesOn page (is_open c.chain) c.link new.gathered.link own
    → new.losses ≡ with_new losses c.chain → Origin (seen ++ page ∷ []) new (given ++ own)
origin_opens seen page losses c new given own f first closed count kept from chain t lost =
    let seen' : List Page = seen ++ page ∷ [] in
    let after : new.gathered.chain ≡ opened c.chain page =
    chain ∙ cond-true (is_first page) (cond (is_open c.chain) (joined_chain c.chain page) (opened c.chain page)) (continued c.chain page) first
    ∙ cond-false (is_open c.chain) (joined_chain c.chain page) (opened c.chain page) closed in
    let made = t.opens first closed in
    let whole : (serial : ℕ) (stream : StreamState) → stream_in new.gathered.chain.streams serial ≡ Some stream → stream.finished ≡ true =
    λ serial stream known. ap (λ (s : StreamState). s.finished) (sym (the_one serial stream (sym (ap (λ (x : ChainState). stream_in x.streams serial) after) ∙ known))) ∙ first_finished page f in
    record {
      losses = ap length lost ∙ length-set losses (cond (is_open c.chain) (length c.chain.streams) 0) 0 ∙ count;
      few = omega (arith, ap (λ (x : ChainState). length x.streams) after);
      whole = λ _. whole;
      rests = λ serial stream known unended unfinished. absurd (false≢true (sym unfinished ∙ whole serial stream known));
      headers = subst (λ (l : KeptLink). AllByRecursion (KeptFrom seen') l.streams) (sym made.0) (((page.position, body_from seen page f), tt), tt);
      commands = all_both (CommandFrom seen') given own (commands_more seen (page ∷ []) given from)
          (subst (AllByRecursion (CommandFrom seen')) (sym made.1) (begin_if_from seen' (waits c.link) c.link (headers_more seen (page ∷ []) c.link.streams kept)));
    }
  where
    the_one : (serial : ℕ) (stream : StreamState) → stream_in (entered page ∷ []) serial ≡ Some stream → entered page ≡ stream
    the_one serial stream e = at (nat_eq page.serial serial) e
      where
        at : (b : Bool) → cond b (Some (entered page)) None ≡ Some stream → entered page ≡ stream
        at true g = cc
        at false g = cc

-- the first page of one more stream
origin_joins : (seen : List Page) (page : Page) (old new : Mending) (given own : List Command) → Origin seen old given → FirstPage page → is_first page ≡ true → is_open old.gathered.chain ≡ true
    → old.gathered.chain.has_data ≡ false → length old.gathered.chain.streams < 64 → new.gathered.chain ≡ after_page old.gathered.chain page
    → TakesOn page (is_open old.gathered.chain) old.gathered.link new.gathered.link own → new.losses ≡ with_new old.losses old.gathered.chain → Origin (seen ++ page ∷ []) new (given ++ own)
origin_joins seen page old new given own o f first open' bare few chain t lost =
    let c : ChainState = old.gathered.chain in
    let seen' : List Page = seen ++ page ∷ [] in
    let after : new.gathered.chain ≡ joined_chain c page =
    chain ∙ cond-true (is_first page) (cond (is_open c) (joined_chain c page) (opened c page)) (continued c page) first ∙ cond-true (is_open c) (joined_chain c page) (opened c page) open' in
    let made = t.joins first open' in
    let whole : (serial : ℕ) (stream : StreamState) → stream_in new.gathered.chain.streams serial ≡ Some stream → stream.finished ≡ true =
    λ serial stream known.
    elim (pushed_found c.streams (entered page) serial stream (sym (ap (λ (x : ChainState). stream_in x.streams serial) after) ∙ known)) [
      | inl before ↦ o.whole bare serial stream before
      | inr is ↦ ap (λ (s : StreamState). s.finished) (sym is) ∙ first_finished page f
    ] in
    record {
      losses = ap length lost ∙ length-set old.losses (cond (is_open c) (length c.streams) 0) 0 ∙ o.losses;
      few = omega (arith, few, ap (λ (x : ChainState). length x.streams) after, length-append c.streams (entered page ∷ []));
      whole = λ _. whole;
      rests = λ serial stream known unended unfinished. absurd (false≢true (sym unfinished ∙ whole serial stream known));
      headers = subst (λ (l : KeptLink). AllByRecursion (KeptFrom seen') l.streams) (sym made.0)
          (all_both (KeptFrom seen') old.gathered.link.streams (kept_entered page ∷ []) (headers_more seen (page ∷ []) old.gathered.link.streams o.headers) (((page.position, body_from seen page f), tt), tt));
      commands = all_both (CommandFrom seen') given own (commands_more seen (page ∷ []) given o.commands) (subst (AllByRecursion (CommandFrom seen')) (sym made.1) tt);
    }

-- ---- a stream is ended
module _ (seen : List Page) (stream : StreamState) (losses : List ℕ) (g next : Gathered) (given own : List Command) (links : List (List Page)) (h : HasMended links g given)
    (o : Origin seen (mending losses g) given) (e : EndsOne stream g next own) where
  abbrev m : Page
  m = end_page stream.next_sequence stream

  abbrev b : Gathered
  b = without_packet stream.serial g

  held : HasMended (cut_links stream.serial links) b given
  held = dropped_goes_on stream.serial links g given h

  there : Known (cut_links stream.serial links) b stream.serial (whole_stream stream)
  there = is_known (cut_links stream.serial links) b given stream.serial (whole_stream stream) held.0 (broken_known false stream.serial g stream e.known)

  follows : Follows m b.link next.link own
  follows = e.gathers.takes.follows refl there.kept

  none : follows.taken.takes.packets ≡ []
  none =
      let rest : follows.taken.stream.rest ≡ [] = rest_before m b.link next.link own follows there.distinct ∙ no_rest stream.serial g.link.streams in
      let c : CutsInto 0 follows.taken.stream.rest m.lacing m.body follows.taken.takes.packets follows.taken.changed.rest = follows.taken.takes.cut 0 (omega (arith, ap length rest)) in
      no_packets follows.taken.takes.packets (replicate c.later 255) c.lacing

  from : FollowsFrom seen m b.link next.link own
  from = follows_from seen m b.link next.link own follows (without_from seen stream.serial g.link.streams o.headers) (subst (AllByRecursion (ComesFrom seen m.serial m.position)) (sym none) tt)

  streams_are : next.chain.streams ≡ map (change_at stream.serial (followed m)) b.chain.streams
  streams_are = ap (λ (c : ChainState). c.streams) e.after

  serials_are : map serial_in next.chain.streams ≡ map serial_in g.chain.streams
  serials_are =
      ap (map serial_in) streams_are ∙ serials_stay stream.serial (followed m) b.chain.streams (λ s. refl) ∙ serials_stay stream.serial whole_stream g.chain.streams (λ s. refl)

  or_true : (c : Bool) → (c || true) ≡ true
  or_true true = refl
  or_true false = refl

  own_ended : (stream' : StreamState) → stream_in next.chain.streams stream.serial ≡ Some stream' → stream'.ended ≡ true
  own_ended stream' known' =
      ap (λ (s : StreamState). s.ended)
      (sym (some_same (sym (ap (λ l. stream_in l stream.serial) streams_are
      ∙ found_changed stream.serial (followed m) b.chain.streams (whole_stream stream) (λ s. refl) (broken_known false stream.serial g stream e.known)) ∙ known')))
      ∙ or_true stream.ended

  other_rest : (serial : ℕ) (stream' : StreamState) → (serial ≡ stream.serial → ⊥) → stream_in next.chain.streams serial ≡ Some stream' → stream'.ended ≡ false → stream'.finished ≡ false →
      RestFrom seen serial (stream'.next_sequence + lost_in losses next.chain.streams serial) (rest_of serial next.link.streams)
  other_rest serial stream' ne known' unended unfinished =
      let before : stream_in g.chain.streams serial ≡ Some stream' =
      sym (ap (λ l. stream_in l serial) streams_are ∙ other_found stream.serial serial (followed m) b.chain.streams (λ s. refl) ne
      ∙ other_found stream.serial serial whole_stream g.chain.streams (λ s. refl) ne) ∙ known' in
      let same_lost : lost_in losses g.chain.streams serial ≡ lost_in losses next.chain.streams serial = ap (lost_at losses) (sym (same_place serial g.chain.streams next.chain.streams serials_are)) in
      let same_rest : rest_of serial g.link.streams ≡ rest_of serial next.link.streams = sym (from.others serial ne ∙ rest_dropped stream.serial serial g.link.streams ne) in
      subst (λ n. RestFrom seen serial (stream'.next_sequence + n) (rest_of serial next.link.streams)) same_lost
      (subst (λ l. RestFrom seen serial (stream'.next_sequence + lost_in losses g.chain.streams serial) l) same_rest (o.rests serial stream' before unended unfinished))

  origin_end : Origin seen (mending losses next) (given ++ own)
  origin_end = record {
    losses = o.losses;
    few = omega (arith, o.few, ap length streams_are, length-map b.chain.streams (change_at stream.serial (followed m)), length-map g.chain.streams (change_at stream.serial whole_stream));
    whole = λ bare. absurd (false≢true (sym bare ∙ ap (λ (c : ChainState). c.has_data) e.after));
    rests = λ serial stream' known' unended unfinished.
        elim (cases_eq serial stream.serial) [
          | inl is ↦ absurd (false≢true (sym unended ∙ own_ended stream' (ap (stream_in next.chain.streams) (sym is) ∙ known')))
          | inr ne ↦ other_rest serial stream' ne known' unended unfinished
        ];
    headers = from.headers;
    commands = all_both (CommandFrom seen) given own o.commands from.commands;
  }

-- each of these streams
origin_each : (seen : List Page) (streams : List StreamState) (losses : List ℕ) (old new : Gathered) (given more : List Command) (links : List (List Page)) → HasMended links old given
    → Origin seen (mending losses old) given → EndsEach streams old new more → Origin seen (mending losses new) (given ++ more)
origin_each seen [] losses old new given more links h o e =
    subst (λ (g : Gathered). Origin seen (mending losses g) (given ++ more)) (sym e.0)
    (subst (λ (l : List Command). Origin seen (mending losses old) l) (sym (ap (λ l. given ++ l) e.1 ∙ append-nil given)) o)
origin_each seen (stream ∷ streams) losses old new given more links h o (next, own, others, one, each, all) =
    let ended : HasMended (links_ended (stream ∷ []) links) next (given ++ own) =
    subst (λ (l : List Command). HasMended (links_ended (stream ∷ []) links) next (given ++ l)) (append-nil own)
    (each_ended (stream ∷ []) links old next given (own ++ []) (next, own, [], one, (refl, refl), refl) h) in
    subst (λ (l : List Command). Origin seen (mending losses new) l) (append_assoc given own others ∙ ap (λ l. given ++ l) (sym all))
    (origin_each seen streams losses next new (given ++ own) others (links_ended (stream ∷ []) links) ended (origin_end seen stream losses old next given own links h o one) each)

-- ---- any page
-- a first page that begins a link of its own is whole
restart_whole : (chain : ChainState) (lost : ℕ) (page : Page) → way_of chain lost page ≡ Restart → is_whole_packet page ≡ true
restart_whole chain lost page way =
    let known : Way = way_of_known chain lost page (stream_in chain.streams page.serial) in
    at (is_whole_packet page) (nat_le (2 ^ 62) chain.length_of)
    (sym (ap (λ w. cond (nat_le (2 ^ 62) chain.length_of) Full w) (cond-true (is_first page) (way_of_first chain page) known (restarts_first chain lost page way))) ∙ way)
  where
    at : (b c : Bool) → cond c Full (cond (not b) Misshapen (cond (is_one_more chain page) Full (cond (not (leaves_number page page.sequence)) Full (cond (restarts chain page) Restart Take)))) ≡ Restart → b ≡ true
    at true c e = refl
    at false true e = cc
    at false false e = cc

left_from : (seen : List Page) (page : Page) (old new : Mending) (given more : List Command) → Origin seen old given → (new ≡ old) × (more ≡ []) → Origin (seen ++ page ∷ []) new (given ++ more)
left_from seen page old new given more o e =
    subst (λ (s : Mending). Origin (seen ++ page ∷ []) s (given ++ more)) (sym e.0)
    (subst (λ (l : List Command). Origin (seen ++ page ∷ []) old l) (sym (ap (λ l. given ++ l) e.1 ∙ append-nil given)) (origin_more seen (page ∷ []) old given o))

origin_first : (seen : List Page) (page : Page) (old new : Mending) (given more : List Command) → IsPage page → Origin seen old given → is_first page ≡ true → fault_of_page old.gathered.chain page ≡ None
    → new.gathered.chain ≡ after_page old.gathered.chain page → TakesOn page (is_open old.gathered.chain) old.gathered.link new.gathered.link more → new.losses ≡ with_new old.losses old.gathered.chain →
    Origin (seen ++ page ∷ []) new (given ++ more)
origin_first seen page old new given more is o first fits chain t lost =
    elim (cases_Bool (is_open old.gathered.chain)) [
      | inl open' ↦
          (let kept = joining_kept old.gathered.chain page first open' fits in
          origin_joins seen page old new given more o (first_page page is (not-false (is_whole_packet page) kept.1.1.0)) first open' kept.0
          (leb-false 64 (length old.gathered.chain.streams) kept.1.1.1.0) chain t lost)
      | inr closed ↦
          (let kept = opening_kept old.gathered.chain page first closed fits in
          origin_opens seen page old.losses old.gathered new given more (first_page page is (not-false (is_whole_packet page) kept.0)) first closed o.losses o.headers o.commands chain t lost)
    ]

pub origin_page : (way : Way) (seen : List Page) (offset : ℕ) (page : Page) (old new : Mending) (mend : Option Mend) (given more : List Command) (links : List (List Page)) → way_of old.gathered.chain (lost_of old page) page ≡ way
    → IsPage page → HasMended links old.gathered given → Origin seen old given → Mends way offset (lost_of old page) page old.gathered new.gathered mend → Gives way offset (lost_of old page) page old new mend more →
    Origin (seen ++ page ∷ []) new (given ++ more)
origin_page Take seen offset page old new mend given more links way is h o m g =
    elim (cases_Bool (is_first page)) [
      | inl first ↦
          origin_first seen page old new given more is o first (first_fits old.gathered.chain (lost_of old page) page first way) (m.0 first).0 (g.0 first).0.takes (g.0 first).1
      | inr later ↦
          (let (stream, known) = known_later old.gathered.chain (lost_of old page) page later way in
          origin_later seen page old new given more links stream h o is later way known (m.1 later stream known).0 (g.1 later stream known).0 (g.1 later stream known).1)
    ]
origin_page Restart seen offset page old new mend given more links way is h o m g =
    elim g [
      | inl b ↦
          (let again : BeginsAgain page old new more = b.1 in
          let ended : Origin seen (mending old.losses again.closed) (given ++ again.ends) =
          origin_each seen (open_streams old.gathered.chain) old.losses old.gathered again.closed given again.ends links h o again.each in
          subst (λ (l : List Command). Origin (seen ++ page ∷ []) new l) (append_assoc given again.ends again.own ∙ ap (λ l. given ++ l) (sym again.all))
          (origin_opens seen page old.losses again.closed new (given ++ again.ends) again.own (first_page page is (restart_whole old.gathered.chain (lost_of old page) page way))
          (restarts_first old.gathered.chain (lost_of old page) page way) again.shut ended.losses ended.headers ended.commands again.after again.begins.takes again.losses))
      | inr f ↦
          (let e : EndsStreams old.gathered new.gathered more = f.1 in
          let ended : Origin seen (mending old.losses new.gathered) (given ++ more) = origin_each seen e.ended old.losses old.gathered new.gathered given more links h o e.each in
          origin_more seen (page ∷ []) new (given ++ more) (subst (λ l. Origin seen (mending l new.gathered) (given ++ more)) (sym f.2) ended))
    ]
origin_page Stranger seen offset page old new mend given more links way is h o m g = left_from seen page old new given more o g
origin_page Repeated seen offset page old new mend given more links way is h o m g = left_from seen page old new given more o g
origin_page Misshapen seen offset page old new mend given more links way is h o m g = left_from seen page old new given more o g
origin_page Full seen offset page old new mend given more links way is h o m g = left_from seen page old new given more o g

-- ---- all pages
pub record AllFrom (seen : List Page) (new : Mending) (given : List Command) : Type 0 where
  pub links : List (List Page)
  pub held : HasMended links new.gathered given
  pub origin : Origin seen new given

pub all_from : (pages : List LentAt) (seen : List Page) (old new : Mending) (mends : List (Option Mend)) (before given : List Command) (links : List (List Page)) → AllByRecursion IsPage (pages_of pages)
    → HasMended links old.gathered before → Origin seen old before → TakesPages pages old new mends given → AllFrom (seen ++ pages_of pages) new (before ++ given)
all_from [] seen old new mends before given links are h o t =
    subst (λ (s : Mending). AllFrom (seen ++ []) s (before ++ given)) (sym t.0)
    (subst (λ (l : List Command). AllFrom (seen ++ []) old l) (sym (ap (λ l. before ++ l) t.2 ∙ append-nil before))
    (subst (λ (l : List Page). AllFrom l old before) (sym (append-nil seen)) (record { links = links; held = h; origin = o })))
all_from (lent ∷ later) seen old new mends before given links are h o (next, mend, own, others, rest, one, all, told, is) =
    let way : Way = way_of old.gathered.chain (lost_of old lent.1) lent.1 in
    let (middle, _, held) = becomes way lent.0 (lost_of old lent.1) lent.1 old next mend before own links refl one.1 h in
    let from : Origin (seen ++ lent.1 ∷ []) next (before ++ own) = origin_page way seen lent.0 lent.1 old next mend before own links refl are.0 h o one.0 one.1 in
    subst (λ (l : List Page). AllFrom l new (before ++ given)) (append_assoc seen (lent.1 ∷ []) (pages_of later))
    (subst (λ (l : List Command). AllFrom ((seen ++ lent.1 ∷ []) ++ pages_of later) new l) (append_assoc before own rest ∙ ap (λ l. before ++ l) (sym is))
    (all_from later (seen ++ lent.1 ∷ []) next new others (before ++ own) rest middle are.1 held from all))

start_origin : (start : Mending) → IsStart start → Origin [] start []
start_origin start s =
    let chain : start.gathered.chain ≡ chain_state_of [] = s.gathered.chain in
    let none : (serial : ℕ) (stream : StreamState) → stream_in start.gathered.chain.streams serial ≡ Some stream → ⊥ =
    λ serial stream known. no_some (sym (ap (λ (c : ChainState). stream_in c.streams serial) chain) ∙ known) in
    record {
      losses = s.count;
      few = omega (arith, ap (λ (c : ChainState). length c.streams) chain);
      whole = λ _ serial stream known. absurd (none serial stream known);
      rests = λ serial stream known unended unfinished. absurd (none serial stream known);
      headers = subst (AllByRecursion (KeptFrom [])) (sym (none_kept start.gathered.link.streams s.gathered.so_far.order)) tt;
      commands = tt;
    }
  where
    no_some : {x : StreamState} → None ≡ Some x → ⊥
    no_some e = cc

pub from_start : (pages : List LentAt) (start new : Mending) (mends : List (Option Mend)) (given : List Command) → AllByRecursion IsPage (pages_of pages) → IsStart start → TakesPages pages start new mends given →
    AllFrom (pages_of pages) new given
from_start pages start new mends given are begins taken = all_from pages [] start new mends [] given [] are (begins.gathered, begins.goes_on) (start_origin start begins) taken

-- the end
pub end_from_pages : (seen : List Page) (state : Mending) (new : Gathered) (given more : List Command) → AllFrom seen state given → GivesEnd state.gathered new more → AllByRecursion (CommandFrom seen) (given ++ more)
end_from_pages seen state new given more a e =
    let ended : Origin seen (mending state.losses e.closed) (given ++ e.ends) = origin_each seen e.each.ended state.losses state.gathered e.closed given e.ends a.links a.held a.origin e.each.each in
    subst (AllByRecursion (CommandFrom seen)) (append_assoc given e.ends e.rest ∙ ap (λ l. given ++ l) (sym e.all))
    (all_both (CommandFrom seen) (given ++ e.ends) e.rest ended.commands
    (subst (AllByRecursion (CommandFrom seen)) (sym e.waited.commands) (begin_if_from seen (waits e.closed.link) e.closed.link ended.headers)))
