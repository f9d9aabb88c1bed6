-- Where what is kept and given comes from, after one more page.
use Rattle.std.proofs.Common.{◌≡◌, ◌≢◌, ℕ, ◌+◌, ◌-◌, ◌*◌, ◌^◌, ◌≤◌, Bool, true, false, cond, List, [], ◌∷◌, ◌++◌, length, map, Option, Some, None, refl, sym, ◌∙◌, ap, subst, arith, inl, inr}
use Rattle.std.specs.Prelude.{nat_eq, nat_lt, nat_le, not, is_none, ◌&&◌}
use Rattle.std.specs.List.{AllByRecursion, IsDistinct, list_any}
use Rattle.std.proofs.lemmas.Bool.{cases_Bool, cases_eq, cond-false, eqb-true, ltb-false, or_parts, false≢true}
use Rattle.std.proofs.lemmas.List.{length-map, length-set}
use Rattle.ogg_page.specs.Page.{Page, IsPage}
use Rattle.ogg_page.specs.Lacing.{ends_open}
use Rattle.ogg_page.specs.LogicalStream.{is_continued, is_first, is_last, joined_lacing}
use Rattle.link_chain.specs.declared.stream_state.StreamState.{StreamState}
use Rattle.link_chain.specs.ChainState.{ChainState, chain_state_of, is_open, last_link, state_of}
use Rattle.link_chain.specs.Followed.{continued, followed, joined as joined_chain, opened}
use Rattle.link_chain.specs.Links.{has_stream, pages_with}
use Rattle.link_chain.specs.Progress.{change_at, stream_in, left_whole as whole_stream}
use Rattle.link_chain.specs.Taking.{leaves_open}
use Rattle.link_chain.specs.Laws.Grow.{all_filter, all_weaker}
use Rattle.link_chain.specs.Laws.LastLink.{known_stream, last_is_link}
use Rattle.link_chain.specs.Laws.OwnSerials.{serial_in, serials_stay}
use Rattle.ogg_command.specs.declared.command.Command.{Command}
use Rattle.import_gather.specs.Cutting.{CutsInto}
use Rattle.import_gather.specs.Gathered.{Gathered, HasGathered}
use Rattle.import_gather.specs.Giving.{Follows}
use Rattle.import_gather.specs.Kept.{KeptStream, has_kept, is_too_long, rest_of}
use Rattle.import_gather.specs.Laws.{has_from, serials}
use Rattle.import_mend.specs.Gives.{GathersLeft, Mending}
use Rattle.import_mend.specs.Losses.{lost_at, lost_in, place_in, with_lost, with_lost_at}
use Rattle.import_mend.specs.Mended.{behind_rest, ends_some, front_values, is_cut, is_joined, mended, without_values}
use Rattle.import_mend.specs.Origin.{CommandFrom, ComesFrom, KeptFrom, Origin, RestFrom}
use Rattle.import_mend.specs.Steps.{after_later, broken_off}
use Rattle.import_mend.specs.Ways.{is_repeated, leaves_number, number_due, way_of, way_of_first, way_of_known, way_of_later}
use Rattle.import_mend.specs.Whole.{HasMended, broken_links, lost_of}
use Rattle.import_mend.specs.declared.ways.Way.{Way}
use Rattle.import_mend.specs.declared.ways.Way.TheVariants.{Take, Stranger, Repeated, Full}
use Rattle.import_mend.proofs.Cuts.{lacing_bytes}
use Rattle.import_mend.proofs.Dropped.{HoldsRest, absent_pages, find_rest, pages_of_last}
use Rattle.import_mend.proofs.Fits.{broken_known, broken_stream, found_changed, four_parts, no_rest, broken_count, some_same}
use Rattle.import_mend.proofs.Held.{broken_goes_on, rest_size}
use Rattle.import_mend.proofs.Kept.{either_has, left_has, mended_first, mended_last, mended_serial}
use Rattle.import_mend.proofs.Kepts.{FollowsFrom, command_more, follows_from, kept_more, other_found, rest_after, rest_before, rest_dropped, without_from}
use Rattle.import_mend.proofs.Lacings.{whole_closed}
use Rattle.import_mend.proofs.Lost.{lost_other, lost_own, same_place}
use Rattle.import_mend.proofs.Parts.{CutHas, PageHas, cut_has, fresh_has, goes_on_has}
use Rattle.import_mend.proofs.Runs.{rest_more}
use Rattle.import_mend.proofs.Taken.{TakenLater, full, if_taken, repeated, stranger, taken_later}
use Rattle.ogg_page.specs.Laws.PageBytes.{all_both}

-- ---- by more pages nothing is lost
pub headers_more : (seen more : List Page) (streams : List KeptStream) → AllByRecursion (KeptFrom seen) streams → AllByRecursion (KeptFrom (seen ++ more)) streams
headers_more seen more streams all = all_weaker (KeptFrom seen) (KeptFrom (seen ++ more)) (kept_more seen more) streams all

pub commands_more : (seen more : List Page) (given : List Command) → AllByRecursion (CommandFrom seen) given → AllByRecursion (CommandFrom (seen ++ more)) given
commands_more seen more given all = all_weaker (CommandFrom seen) (CommandFrom (seen ++ more)) (command_more seen more) given all

pub origin_more : (seen more : List Page) (state : Mending) (given : List Command) → Origin seen state given → Origin (seen ++ more) state given
origin_more seen more state given o = record {
  losses = o.losses;
  few = o.few;
  whole = o.whole;
  rests = λ serial stream known unended unfinished.
      rest_more seen more serial (stream.next_sequence + lost_in state.losses state.gathered.chain.streams serial) (rest_of serial state.gathered.link.streams) (o.rests serial stream known unended unfinished);
  headers = headers_more seen more state.gathered.link.streams o.headers;
  commands = commands_more seen more given o.commands;
}

-- ---- a stream of the last link, and what is kept of it
pub record Known (links : List (List Page)) (g : Gathered) (serial : ℕ) (stream : StreamState) : Type 0 where
  pub is : stream ≡ state_of (last_link links) serial
  pub kept : has_kept serial g.link.streams ≡ true
  pub distinct : IsDistinct nat_eq (serials g.link.streams)

pub is_known : (links : List (List Page)) (g : Gathered) (given : List Command) (serial : ℕ) (stream : StreamState) → HasGathered links g given → stream_in g.chain.streams serial ≡ Some stream → Known links g serial stream
is_known links g given serial stream h known =
    let found : stream_in (chain_state_of links).streams serial ≡ Some stream = ap (λ (c : ChainState). stream_in c.streams serial) (sym h.chain) ∙ known in
    let there = known_stream links serial (ap is_none found) in
    let some : links ≢ [] = λ e. false≢true (sym (ap (λ l. has_stream (last_link l) serial) e) ∙ there.0) in
    record {
      is = some_same (sym found ∙ there.1);
      kept = has_from serial g.link.streams (ap (list_any (nat_eq serial)) h.so_far.order ∙ there.0);
      distinct = subst (λ l. IsDistinct nat_eq l) (sym h.so_far.order) (last_is_link links h.are.each some).distinct;
    }

-- how many whole segments of a packet are kept
segments_of : (links : List (List Page)) (g : Gathered) (given : List Command) (serial : ℕ) → HasGathered links g given → HoldsRest (pages_with serial (last_link links)) (rest_of serial g.link.streams)
segments_of links g given serial h =
    find_rest serial (last_link links) g.link.streams h.so_far.held h.so_far.last (λ none. absent_pages serial h.bytes links h.are (ap (list_any (nat_eq serial)) (sym h.so_far.order) ∙ none))

nothing : (l : List ℕ) → length l ≡ 0 → l ≡ []
nothing [] e = refl
nothing (x ∷ l) e = absurd (omega (arith, e))

-- of a stream with no unfinished packet nothing is kept
pub finished_rest : (links : List (List Page)) (g : Gathered) (given : List Command) (serial : ℕ) (stream : StreamState) → HasGathered links g given → stream_in g.chain.streams serial ≡ Some stream → stream.finished ≡ true →
    rest_of serial g.link.streams ≡ []
finished_rest links g given serial stream h known finished =
    let own : List Page = pages_with serial (last_link links) in
    let k : Known links g serial stream = is_known links g given serial stream h known in
    let all : AllByRecursion IsPage own = all_filter IsPage (λ (p : Page). nat_eq p.serial serial) (last_link links) (pages_of_last links h.are.pages) in
    let closed : ends_open (joined_lacing own) ≡ false = not_true (ends_open (joined_lacing own)) (sym (ap (λ (s : StreamState). s.finished) k.is) ∙ finished) in
    nothing (rest_of serial g.link.streams) (omega (arith, rest_size serial links g given h, whole_closed (joined_lacing own) (lacing_bytes own all) closed))
  where
    not_true : (b : Bool) → not b ≡ true → b ≡ false
    not_true true e = cc
    not_true false e = refl

-- ---- a page that isn't its stream's first
record LaterHas (seen : List Page) (page : Page) (finished : Bool) (packets : List (List ℕ)) (left : List ℕ) : Type 0 where
  comes : AllByRecursion (ComesFrom seen page.serial page.position) packets
  rest : is_last page ≡ false → finished ≡ false → RestFrom seen page.serial (page.sequence + 1) left

all_have : {seen : List Page} {page : Page} {packets : List (List ℕ)} {left : List ℕ} (finished : Bool) → PageHas seen page packets left → LaterHas seen page finished packets left
all_have finished p = record { comes = p.comes; rest = λ more _. p.rest more }

later_has : (joined : Bool) (seen : List Page) (page : Page) (number : ℕ) (stream : StreamState) (rest : List ℕ) (segments : ℕ) (packets : List (List ℕ)) (left : List ℕ) → IsPage page
    → (joined ≡ true → is_continued page ≡ true → RestFrom seen page.serial page.sequence rest) → (joined ≡ true → is_continued page ≡ false → rest ≡ []) → (joined ≡ false → rest ≡ [])
    → length rest ≡ 255 * segments → CutsInto segments rest (mended joined number page).lacing (mended joined number page).body packets left →
    LaterHas (seen ++ page ∷ []) page (not (leaves_open (mended joined number page) (broken_stream joined stream))) packets left
later_has true seen page number stream rest segments packets left is goes fresh broken size cuts =
    elim (cases_Bool (is_continued page)) [
      | inl continued' ↦ all_have (not (leaves_open (mended true number page) stream)) (goes_on_has seen page number segments rest packets left (goes refl continued') continued' size cuts)
      | inr own ↦
          (let none : rest ≡ [] = fresh refl own in
          all_have (not (leaves_open (mended true number page) stream))
          (fresh_has seen page true number segments packets left own (ap length (sym none) ∙ size) (subst (λ l. CutsInto segments l (mended true number page).lacing (mended true number page).body packets left) none cuts)))
    ]
later_has false seen page number stream rest segments packets left is goes fresh broken size cuts =
    let none : rest ≡ [] = broken refl in
    let m : Page = mended false number page in
    let zero : 0 ≡ 255 * segments = ap length (sym none) ∙ size in
    let c : CutsInto segments [] m.lacing m.body packets left = subst (λ l. CutsInto segments l m.lacing m.body packets left) none cuts in
    elim (cases_Bool (is_continued page)) [
      | inl continued' ↦
          (let has : CutHas (seen ++ page ∷ []) page m.lacing packets left = cut_has seen page number segments packets left is continued' zero c in
          record {
            comes = has.comes;
            rest = λ more unfinished.
                elim (cases_Bool (ends_some page.lacing)) [
                  | inl some ↦ has.rest more some
                  | inr no' ↦ absurd (false≢true (sym unfinished ∙ ap (λ (l : List ℕ). not (cond (nat_eq (length l) 0) false (ends_open l))) (has.empty no')))
                ];
          })
      | inr own ↦ all_have (not (leaves_open m (whole_stream stream))) (fresh_has seen page false number segments packets left own zero c)
    ]

pub mended_position : (joined : Bool) (number : ℕ) (page : Page) → (mended joined number page).position ≡ page.position
mended_position joined number page =
    left_has (λ (p : Page). p.position) (behind_rest joined page) refl
    ∙ either_has (λ (p : Page). p.position) (is_cut joined page) (record (without_values (front_values page.lacing) page) { flags = page.flags - 1 }) page refl

-- its number isn't behind
not_behind : (chain : ChainState) (lost : ℕ) (page : Page) (stream : StreamState) → is_first page ≡ false → stream_in chain.streams page.serial ≡ Some stream → way_of chain lost page ≡ Take →
    number_due lost stream ≤ page.sequence
not_behind chain lost page stream later known way =
    let known_way : Way = way_of_known chain lost page (stream_in chain.streams page.serial) in
    let a = if_taken (nat_le (2 ^ 62) chain.length_of) Full (cond (is_first page) (way_of_first chain page) known_way) full way in
    let b : way_of_known chain lost page (Some stream) ≡ Take =
    ap (way_of_known chain lost page) (sym known) ∙ sym (cond-false (is_first page) (way_of_first chain page) known_way later) ∙ a.1 in
    let c = if_taken (nat_eq chain.links 0) Stranger (way_of_later lost stream page) stranger b in
    let numbered : Way = cond (not (leaves_number page stream.next_sequence)) Full Take in
    let d = if_taken stream.ended Stranger (cond (is_repeated lost stream page) Repeated numbered) stranger c.1 in
    let e = if_taken (is_repeated lost stream page) Repeated numbered repeated d.1 in
    ltb-false page.sequence (number_due lost stream)
    (or_parts (nat_lt page.sequence (number_due lost stream)) (nat_lt (number_due lost stream) page.sequence && nat_lt page.position stream.last_position) e.0).0

length_lost : (losses : List ℕ) (streams : List StreamState) (serial count : ℕ) → length (with_lost losses streams serial count) ≡ length losses
length_lost losses streams serial count = at (place_in streams serial)
  where
    at : (o : Option ℕ) → length (with_lost_at losses count o) ≡ length losses
    at None = refl
    at (Some place) = length-set losses place count

broken_serials : (joined : Bool) (serial : ℕ) (g : Gathered) → map serial_in (broken_off joined serial g).chain.streams ≡ map serial_in g.chain.streams
broken_serials true serial g = refl
broken_serials false serial g = serials_stay serial whole_stream g.chain.streams (λ s. refl)

broken_found : (joined : Bool) (serial other : ℕ) (g : Gathered) → (other ≡ serial → ⊥) → stream_in (broken_off joined serial g).chain.streams other ≡ stream_in g.chain.streams other
broken_found true serial other g ne = refl
broken_found false serial other g ne = other_found serial other whole_stream g.chain.streams (λ s. refl) ne

pub broken_rest : (joined : Bool) (serial other : ℕ) (g : Gathered) → (other ≡ serial → ⊥) → rest_of other (broken_off joined serial g).link.streams ≡ rest_of other g.link.streams
broken_rest true serial other g ne = refl
broken_rest false serial other g ne = rest_dropped serial other g.link.streams ne

broken_headers : (joined : Bool) (serial : ℕ) (g : Gathered) (seen : List Page) → AllByRecursion (KeptFrom seen) g.link.streams → AllByRecursion (KeptFrom seen) (broken_off joined serial g).link.streams
broken_headers true serial g seen all = all
broken_headers false serial g seen all = without_from seen serial g.link.streams all

module _ (seen : List Page) (page : Page) (old new : Mending) (given more : List Command) (links : List (List Page)) (stream : StreamState)
    (h : HasMended links old.gathered given) (o : Origin seen old given) (is : IsPage page) (later : is_first page ≡ false)
    (way : way_of old.gathered.chain (lost_of old page) page ≡ Take) (known : stream_in old.gathered.chain.streams page.serial ≡ Some stream)
    (chain : new.gathered.chain ≡ after_later (lost_of old page) stream page old.gathered)
    (gathers : GathersLeft (is_joined (lost_of old page) stream (is_too_long old.gathered.link page) page) stream.next_sequence page old.gathered new.gathered more)
    (losses : new.losses ≡ with_lost old.losses old.gathered.chain.streams page.serial (page.sequence - stream.next_sequence)) where
  abbrev g : Gathered
  g = old.gathered

  abbrev lost : ℕ
  lost = lost_of old page

  abbrev joined : Bool
  joined = is_joined lost stream (is_too_long g.link page) page

  abbrev b : Gathered
  b = broken_off joined page.serial g

  abbrev m : Page
  m = mended joined stream.next_sequence page

  abbrev seen' : List Page
  seen' = seen ++ page ∷ []

  named : m.serial ≡ page.serial
  named = mended_serial joined stream.next_sequence page

  not_first : is_first m ≡ false
  not_first = mended_first joined stream.next_sequence page ∙ later

  held : HasMended (broken_links joined page.serial links) b given
  held = broken_goes_on joined page.serial links g given h

  found : stream_in b.chain.streams page.serial ≡ Some (broken_stream joined stream)
  found = broken_known joined page.serial g stream known

  there : Known (broken_links joined page.serial links) b page.serial (broken_stream joined stream)
  there = is_known (broken_links joined page.serial links) b given page.serial (broken_stream joined stream) held.0 found

  follows : Follows m b.link new.gathered.link more
  follows = gathers.takes.follows not_first (ap (λ n. has_kept n b.link.streams) named ∙ there.kept)

  segments : HoldsRest (pages_with page.serial (last_link (broken_links joined page.serial links))) (rest_of page.serial b.link.streams)
  segments = segments_of (broken_links joined page.serial links) b given page.serial held.0

  rest_is : follows.taken.stream.rest ≡ rest_of page.serial b.link.streams
  rest_is = rest_before m b.link new.gathered.link more follows there.distinct ∙ ap (λ n. rest_of n b.link.streams) named

  taken : TakenLater g.chain lost page stream
  taken = taken_later g.chain lost page stream later known way

  goes : joined ≡ true → is_continued page ≡ true → RestFrom seen page.serial page.sequence (rest_of page.serial b.link.streams)
  goes e continued' =
      let parts = four_parts (nat_eq page.sequence (number_due lost stream)) (cond (is_continued page) (not stream.finished) stream.finished) (not (is_too_long g.link page))
      (not (is_last page && is_continued page && not (ends_some page.lacing))) e in
      let unfinished : stream.finished ≡ false = no (stream.finished) (sym (ap (λ c. cond c (not stream.finished) stream.finished) continued') ∙ parts.1) in
      subst (λ n. RestFrom seen page.serial n (rest_of page.serial b.link.streams)) (sym (eqb-true page.sequence (number_due lost stream) parts.0))
      (subst (λ l. RestFrom seen page.serial (number_due lost stream) l) (sym (ap (λ c. rest_of page.serial (broken_off c page.serial g).link.streams) e))
      (o.rests page.serial stream known taken.unended unfinished))
    where
      no : (c : Bool) → not c ≡ true → c ≡ false
      no true f = cc
      no false f = refl

  fresh : joined ≡ true → is_continued page ≡ false → rest_of page.serial b.link.streams ≡ []
  fresh e own =
      let parts = four_parts (nat_eq page.sequence (number_due lost stream)) (cond (is_continued page) (not stream.finished) stream.finished) (not (is_too_long g.link page))
      (not (is_last page && is_continued page && not (ends_some page.lacing))) e in
      ap (λ c. rest_of page.serial (broken_off c page.serial g).link.streams) e
      ∙ finished_rest links g given page.serial stream h.0 known (sym (ap (λ c. cond c (not stream.finished) stream.finished) own) ∙ parts.1)

  gone : joined ≡ false → rest_of page.serial b.link.streams ≡ []
  gone e = ap (λ c. rest_of page.serial (broken_off c page.serial g).link.streams) e ∙ no_rest page.serial g.link.streams

  has : LaterHas seen' page (not (leaves_open m (broken_stream joined stream))) follows.taken.takes.packets follows.taken.changed.rest
  has =
      later_has joined seen page stream.next_sequence stream (rest_of page.serial b.link.streams) segments.segments follows.taken.takes.packets follows.taken.changed.rest is goes fresh gone
      segments.holds.rest_size
      (subst (λ l. CutsInto segments.segments l m.lacing m.body follows.taken.takes.packets follows.taken.changed.rest) rest_is
      (follows.taken.takes.cut segments.segments (ap length rest_is ∙ segments.holds.rest_size)))

  after : new.gathered.chain ≡ continued b.chain m
  after = chain ∙ cond-false (is_first m) (cond (is_open b.chain) (joined_chain b.chain m) (opened b.chain m)) (continued b.chain m) not_first

  streams_are : new.gathered.chain.streams ≡ map (change_at page.serial (followed m)) b.chain.streams
  streams_are = ap (λ (c : ChainState). c.streams) after ∙ ap (λ n. map (change_at n (followed m)) b.chain.streams) named

  serials_are : map serial_in new.gathered.chain.streams ≡ map serial_in g.chain.streams
  serials_are = ap (map serial_in) streams_are ∙ serials_stay page.serial (followed m) b.chain.streams (λ s. refl) ∙ broken_serials joined page.serial g

  from : FollowsFrom seen' m b.link new.gathered.link more
  from =
      follows_from seen' m b.link new.gathered.link more follows (broken_headers joined page.serial g seen' (headers_more seen (page ∷ []) g.link.streams o.headers))
      (subst (λ n. AllByRecursion (ComesFrom seen' n m.position) follows.taken.takes.packets) (sym named)
      (subst (λ n. AllByRecursion (ComesFrom seen' page.serial n) follows.taken.takes.packets) (sym (mended_position joined stream.next_sequence page)) has.comes))

  own_rest : (stream' : StreamState) → stream_in new.gathered.chain.streams page.serial ≡ Some stream' → stream'.ended ≡ false → stream'.finished ≡ false →
      RestFrom seen' page.serial (stream'.next_sequence + lost_in new.losses new.gathered.chain.streams page.serial) (rest_of page.serial new.gathered.link.streams)
  own_rest stream' known' unended unfinished =
      let now : StreamState = followed m (broken_stream joined stream) in
      let is' : now ≡ stream' =
      some_same (sym (ap (λ l. stream_in l page.serial) streams_are ∙ found_changed page.serial (followed m) b.chain.streams (broken_stream joined stream) (λ s. refl) found) ∙ known') in
      let more' : is_last page ≡ false =
      sym (mended_last joined stream.next_sequence page) ∙ (or_parts (broken_stream joined stream).ended (is_last m) (ap (λ (s : StreamState). s.ended) is' ∙ unended)).1 in
      let rest : RestFrom seen' page.serial (page.sequence + 1) follows.taken.changed.rest = has.rest more' (ap (λ (s : StreamState). s.finished) is' ∙ unfinished) in
      let count : lost_in new.losses new.gathered.chain.streams page.serial ≡ page.sequence - stream.next_sequence =
      ap (λ l. lost_in l new.gathered.chain.streams page.serial) losses
      ∙ ap (λ o. lost_at (with_lost old.losses g.chain.streams page.serial (page.sequence - stream.next_sequence)) o) (same_place page.serial g.chain.streams new.gathered.chain.streams serials_are)
      ∙ lost_own old.losses g.chain.streams page.serial (page.sequence - stream.next_sequence) stream known (omega (arith, o.few, o.losses)) in
      let number : page.sequence + 1 ≡ stream'.next_sequence + lost_in new.losses new.gathered.chain.streams page.serial =
      omega (arith, ap (λ (s : StreamState). s.next_sequence) is', count, not_behind g.chain lost page stream later known way) in
      subst (λ n. RestFrom seen' page.serial n (rest_of page.serial new.gathered.link.streams)) number
      (subst (λ l. RestFrom seen' page.serial (page.sequence + 1) l)
      (sym (ap (λ n. rest_of n new.gathered.link.streams) (sym named) ∙ rest_after m b.link new.gathered.link more follows there.distinct)) rest)

  other_rest : (serial : ℕ) (stream' : StreamState) → (serial ≡ page.serial → ⊥) → stream_in new.gathered.chain.streams serial ≡ Some stream' → stream'.ended ≡ false → stream'.finished ≡ false →
      RestFrom seen' serial (stream'.next_sequence + lost_in new.losses new.gathered.chain.streams serial) (rest_of serial new.gathered.link.streams)
  other_rest serial stream' ne known' unended unfinished =
      let before : stream_in g.chain.streams serial ≡ Some stream' =
      sym (ap (λ l. stream_in l serial) streams_are ∙ other_found page.serial serial (followed m) b.chain.streams (λ s. refl) ne ∙ broken_found joined page.serial serial g ne) ∙ known' in
      let same_lost : lost_in old.losses g.chain.streams serial ≡ lost_in new.losses new.gathered.chain.streams serial =
      sym (ap (λ l. lost_in l new.gathered.chain.streams serial) losses
      ∙ ap (λ o. lost_at (with_lost old.losses g.chain.streams page.serial (page.sequence - stream.next_sequence)) o) (same_place serial g.chain.streams new.gathered.chain.streams serials_are)
      ∙ lost_other old.losses g.chain.streams page.serial serial (page.sequence - stream.next_sequence) ne) in
      let same_rest : rest_of serial g.link.streams ≡ rest_of serial new.gathered.link.streams =
      sym (from.others serial (λ e. ne (e ∙ named)) ∙ broken_rest joined page.serial serial g ne) in
      subst (λ n. RestFrom seen' serial (stream'.next_sequence + n) (rest_of serial new.gathered.link.streams)) same_lost
      (subst (λ l. RestFrom seen' serial (stream'.next_sequence + lost_in old.losses g.chain.streams serial) l) same_rest
      (rest_more seen (page ∷ []) serial (stream'.next_sequence + lost_in old.losses g.chain.streams serial) (rest_of serial g.link.streams) (o.rests serial stream' before unended unfinished)))

  pub origin_later : Origin seen' new (given ++ more)
  origin_later = record {
    losses = ap length losses ∙ length_lost old.losses g.chain.streams page.serial (page.sequence - stream.next_sequence) ∙ o.losses;
    few = omega (arith, o.few, ap length streams_are, length-map b.chain.streams (change_at page.serial (followed m)), broken_count joined page.serial g);
    whole = λ none. absurd (false≢true (sym none ∙ ap (λ (c : ChainState). c.has_data) after));
    rests = λ serial stream' known' unended unfinished.
        elim (cases_eq serial page.serial) [
          | inl own ↦
              subst (λ n. RestFrom seen' n (stream'.next_sequence + lost_in new.losses new.gathered.chain.streams n) (rest_of n new.gathered.link.streams)) (sym own)
              (own_rest stream' (ap (stream_in new.gathered.chain.streams) (sym own) ∙ known') unended unfinished)
          | inr ne ↦ other_rest serial stream' ne known' unended unfinished
        ];
    headers = from.headers;
    commands = all_both (CommandFrom seen') given more (commands_more seen (page ∷ []) given o.commands) from.commands;
  }
