-- What each page of a run gives.
use Rattle.std.proofs.Common.{◌≡◌, ◌≢◌, ◌⊎◌, ℕ, ◌-◌, ◌*◌, Bool, true, false, cond, List, [], ◌∷◌, ◌++◌, length, map, take, drop, sum, Option, Some, None, refl, sym, ◌∙◌, ap, subst, arith, inl, inr, append_assoc, append-nil, take-append-drop}
use Rattle.std.specs.Prelude.{nat_eq, nat_lt, not, ◌&&◌}
use Rattle.std.specs.List.{AllByRecursion}
use Rattle.std.proofs.lemmas.Bool.{and_parts, cases_Bool, cases_eq, cond-true, cond-false, eqb-true, eq-eqb, false≢true, ltb-true, ne_eqb}
use Rattle.std.proofs.lemmas.List.{length-take-le}
use Rattle.ogg_page.specs.Page.{Page, IsPage}
use Rattle.ogg_page.specs.Lacing.{ends_open}
use Rattle.ogg_page.specs.LogicalStream.{is_continued, is_first, is_last}
use Rattle.ogg_page.specs.StreamLaws.{ends_open-at}
use Rattle.ogg_page.specs.Window.{LentAt}
use Rattle.link_chain.specs.declared.stream_state.StreamState.{StreamState}
use Rattle.link_chain.specs.Progress.{stream_in}
use Rattle.ogg_command.specs.declared.command.Command.{Command}
use Rattle.ogg_command.specs.declared.command.Entry.{Entry}
use Rattle.import_commands.specs.Commands.{entry_of}
use Rattle.import_gather.specs.Cutting.{CutsInto}
use Rattle.import_gather.specs.Gathered.{Gathered}
use Rattle.import_gather.specs.Giving.{Follows, begins_now, begun_if}
use Rattle.import_gather.specs.Kept.{KeptLink, has_kept, is_too_long, rest_of}
use Rattle.import_mend.specs.Gives.{GathersLeft, Gives, Mending}
use Rattle.import_mend.specs.Mended.{behind_rest, ends_some, front_values, is_cut, is_joined, left_whole, mended, without_values}
use Rattle.import_mend.specs.Runs.{AreRun, BeginsRun, GoOnUntold, HoldWhole, counts, is_left_out, run_of}
use Rattle.import_mend.specs.Steps.{Mends, broken_off}
use Rattle.import_mend.specs.Telling.{mend_of}
use Rattle.import_mend.specs.Ways.{is_repeated, number_due, way_of}
use Rattle.import_mend.specs.Whole.{HasMended, IsStart, TakesPage, TakesPages, broken_links, lost_of, pages_of}
use Rattle.import_mend.specs.declared.mend.Mend.{Mend}
use Rattle.import_mend.specs.declared.mend.Mend.TheVariants.{Gap as GapOf, Unfinished as UnfinishedOf, TooLong as TooLongOf}
use Rattle.import_mend.specs.declared.ways.Way.{Way}
use Rattle.import_mend.specs.declared.ways.Way.TheVariants.{Take, Restart, Stranger, Repeated, Misshapen, Full}
use Rattle.import_mend.proofs.Fits.{broken_known, broken_stream, four_parts, no_rest}
use Rattle.import_mend.proofs.Held.{all_mended, becomes, broken_goes_on, known_later}
use Rattle.import_mend.proofs.Kept.{front_fits, joined_behind, mended_first, mended_serial, behind_last, without_is_page, flagged}
use Rattle.import_mend.proofs.Kepts.{begun_rest, rest_after, rest_before, rest_elsewhere}
use Rattle.import_mend.proofs.Origins.{Known, broken_rest, finished_rest, is_known, mended_position}
use Rattle.import_mend.proofs.Sound.{whole_left}
use Rattle.import_mend.proofs.Taken.{restarts_first, taken_later}
use Rattle.import_mend.proofs.Waiting.{StepOut, marked_same, no_step, other_step, own_step, packet_in, steps_on, waiting_dropped}
use Rattle.import_mend.proofs.WholeRuns.{first_whole, hold_as, one_more}
use Rattle.link_chain.specs.Laws.Fronts.{push_not_nil}

-- ---- what is told of a page that is taken
abbrev pub told_by : Bool → Bool → Bool → Bool → Mend → Mend → Mend → Option Mend
told_by gap joined cut long a b c = cond gap (Some a) (cond joined (cond cut (Some b) None) (cond long (Some c) (Some b)))

never_left : (offset lost : ℕ) (stream : StreamState) (long : Bool) (page : Page) → is_left_out (mend_of offset lost stream long page) ≡ false
never_left offset lost stream long page =
    at (nat_lt (number_due lost stream) page.sequence) (is_joined lost stream long page) (is_last page && ends_open page.lacing) long
  where
    at : (a b c d : Bool) → is_left_out (told_by a b c d (GapOf offset page.serial (number_due lost stream) page.sequence) (UnfinishedOf offset page.serial) (TooLongOf offset page.serial)) ≡ false
    at true b c d = refl
    at false true true d = refl
    at false true false d = refl
    at false false c true = refl
    at false false c false = refl

none_told : (offset lost : ℕ) (stream : StreamState) (long : Bool) (page : Page) → mend_of offset lost stream long page ≡ None
    → (is_joined lost stream long page ≡ true) × ((is_last page && ends_open page.lacing) ≡ false)
none_told offset lost stream long page e =
    at (nat_lt (number_due lost stream) page.sequence) (is_joined lost stream long page) (is_last page && ends_open page.lacing) long e
  where
    at : (a b c d : Bool) → told_by a b c d (GapOf offset page.serial (number_due lost stream) page.sequence) (UnfinishedOf offset page.serial) (TooLongOf offset page.serial) ≡ None → (b ≡ true) × (c ≡ false)
    at true b c d f = cc
    at false true true d f = cc
    at false true false d f = (refl, refl)
    at false false c true f = cc
    at false false c false f = cc

-- over a gap no packet is joined
pub gap_apart : (lost : ℕ) (stream : StreamState) (long : Bool) (page : Page) → nat_lt (number_due lost stream) page.sequence ≡ true → is_joined lost stream long page ≡ false
gap_apart lost stream long page gap =
    ap (λ b. b && cond (is_continued page) (not stream.finished) stream.finished && not long && not (is_last page && is_continued page && not (ends_some page.lacing)))
    (ne_eqb page.sequence (number_due lost stream) (λ e. omega (arith, e, ltb-true (number_due lost stream) page.sequence gap)))

some_told : (offset lost : ℕ) (stream : StreamState) (long : Bool) (page : Page) → (mend_of offset lost stream long page ≡ None → ⊥)
    → (is_last page && ends_open page.lacing) ≡ false → is_joined lost stream long page ≡ false
some_told offset lost stream long page some closed =
    at (nat_lt (number_due lost stream) page.sequence) (is_joined lost stream long page) (is_last page && ends_open page.lacing) long some closed (gap_apart lost stream long page)
  where
    at : (a b c d : Bool) → (told_by a b c d (GapOf offset page.serial (number_due lost stream) page.sequence) (UnfinishedOf offset page.serial) (TooLongOf offset page.serial) ≡ None → ⊥)
        → c ≡ false → (a ≡ true → b ≡ false) → b ≡ false
    at true b c d f closed' apart = apart refl
    at false true true d f closed' apart = absurd (false≢true (sym closed'))
    at false true false d f closed' apart = absurd (f refl)
    at false false c d f closed' apart = refl

-- ---- a page that isn't its stream's first is left out or taken
pub record Later (offset : ℕ) (page : Page) (old new : Mending) (mend : Option Mend) (more : List Command) : Type 0 where
  pub stream : StreamState
  pub known : stream_in old.gathered.chain.streams page.serial ≡ Some stream
  pub unrepeated : is_repeated (lost_of old page) stream page ≡ false
  pub told : mend ≡ mend_of offset (lost_of old page) stream (is_too_long old.gathered.link page) page
  pub gathers : GathersLeft (is_joined (lost_of old page) stream (is_too_long old.gathered.link page) page) stream.next_sequence page old.gathered new.gathered more

pub record LeftOut (old new : Mending) (mend : Option Mend) (more : List Command) : Type 0 where
  pub same : new ≡ old
  pub none : more ≡ []
  pub told : is_left_out mend ≡ true

pub later_page : (offset : ℕ) (page : Page) (old new : Mending) (mend : Option Mend) (more : List Command) → is_first page ≡ false → TakesPage offset page old new mend more
    → LeftOut old new mend more ⊎ Later offset page old new mend more
later_page offset page old new mend more later t = at (way_of old.gathered.chain (lost_of old page) page) refl t.0 t.1
  where
    at : (way : Way) → way_of old.gathered.chain (lost_of old page) page ≡ way → Mends way offset (lost_of old page) page old.gathered new.gathered mend
        → Gives way offset (lost_of old page) page old new mend more → LeftOut old new mend more ⊎ Later offset page old new mend more
    at Take e m g =
        let (stream, known) = known_later old.gathered.chain (lost_of old page) page later e in
        inr (record {
          stream = stream;
          known = known;
          unrepeated = (taken_later old.gathered.chain (lost_of old page) page stream later known e).unrepeated;
          told = (m.1 later stream known).1;
          gathers = (g.1 later stream known).0;
        })
    at Restart e m g = absurd (false≢true (sym later ∙ restarts_first old.gathered.chain (lost_of old page) page e))
    at Stranger e m g = inl (record { same = g.0; none = g.1; told = ap is_left_out m.1 })
    at Repeated e m g = inl (record { same = g.0; none = g.1; told = ap is_left_out m.1 })
    at Misshapen e m g = inl (record { same = g.0; none = g.1; told = ap is_left_out m.1 })
    at Full e m g = inl (record { same = g.0; none = g.1; told = ap is_left_out m.1 })

-- ---- one that is taken
unbroken : (joined : Bool) (serial other : ℕ) (g : Gathered) (entries : List Entry) (new : KeptLink) (more : List Command)
    → StepOut other entries (broken_off joined serial g).link new more → StepOut other entries g.link new more
unbroken true serial other g entries new more s = s
unbroken false serial other g entries new more s = record {
  come = λ bare.
      let (come, now) = s.come (λ e. waiting_dropped serial other g.link.streams ∙ bare e) in
      (ap (λ l. l ++ map packet_in entries) (sym (waiting_dropped serial other g.link.streams)) ∙ come, now);
  put = s.put;
  begun = s.begun;
  waits = s.waits;
}

rest_other : (page : Page) (old new : KeptLink) (more : List Command) (f : Follows page old new more) (serial : ℕ) → (serial ≡ page.serial → ⊥) → rest_of serial new.streams ≡ rest_of serial old.streams
rest_other page old new more f serial ne =
    let t = f.taken in
    let link : KeptLink = record old { streams = f.streams } in
    let begins : Bool = begins_now link f.later in
    ap (λ (l : KeptLink). rest_of serial l.streams) f.passed.stays ∙ ap (rest_of serial) (marked_same page (begun_if begins link)).0
    ∙ begun_rest serial begins link ∙ ap (rest_of serial) t.is
    ∙ rest_elsewhere serial t.front t.stream t.changed t.back (λ e. ne (sym e ∙ t.own)) t.takes.serial ∙ ap (rest_of serial) (sym t.was)

pub record OwnOut (segments : ℕ) (rest : List ℕ) (part page : Page) (old new : KeptLink) (more : List Command) : Type 0 where
  pub packets : List (List ℕ)
  pub left : List ℕ
  pub cuts : CutsInto segments rest part.lacing part.body packets left
  pub out : StepOut page.serial (map (entry_of page) packets) old new more
  pub after : rest_of page.serial new.streams ≡ left

same_entries : (page part : Page) (packets : List (List ℕ)) → part.serial ≡ page.serial → part.position ≡ page.position → map (entry_of part) packets ≡ map (entry_of page) packets
same_entries page part [] serial position = refl
same_entries page part (p ∷ ps) serial position =
    ap (λ n. (record { serial = n; position = part.position; packet = p }) ∷ map (entry_of part) ps) serial
    ∙ ap (λ n. (record { serial = page.serial; position = n; packet = p }) ∷ map (entry_of part) ps) position
    ∙ ap (λ l. entry_of page p ∷ l) (same_entries page part ps serial position)

module _ (offset : ℕ) (page : Page) (old new : Mending) (mend : Option Mend) (more given : List Command) (links : List (List Page)) (h : HasMended links old.gathered given)
    (later : is_first page ≡ false) (l : Later offset page old new mend more) where
  abbrev g : Gathered
  g = old.gathered

  abbrev joined : Bool
  joined = is_joined (lost_of old page) l.stream (is_too_long g.link page) page

  abbrev b : Gathered
  b = broken_off joined page.serial g

  abbrev m : Page
  m = mended joined l.stream.next_sequence page

  named : m.serial ≡ page.serial
  named = mended_serial joined l.stream.next_sequence page

  held : HasMended (broken_links joined page.serial links) b given
  held = broken_goes_on joined page.serial links g given h

  there : Known (broken_links joined page.serial links) b page.serial (broken_stream joined l.stream)
  there = is_known (broken_links joined page.serial links) b given page.serial (broken_stream joined l.stream) held.0 (broken_known joined page.serial g l.stream l.known)

  follows : Follows m b.link new.gathered.link more
  follows = l.gathers.takes.follows (mended_first joined l.stream.next_sequence page ∙ later) (ap (λ n. has_kept n b.link.streams) named ∙ there.kept)

  other_out : (serial : ℕ) → (serial ≡ page.serial → ⊥) → StepOut serial [] g.link new.gathered.link more
  other_out serial ne =
      unbroken joined page.serial serial g [] new.gathered.link more
      (other_step m b.link new.gathered.link more follows there.distinct serial (λ e. ne (e ∙ named)))

  other_rest : (serial : ℕ) → (serial ≡ page.serial → ⊥) → rest_of serial new.gathered.link.streams ≡ rest_of serial g.link.streams
  other_rest serial ne = rest_other m b.link new.gathered.link more follows serial (λ e. ne (e ∙ named)) ∙ broken_rest joined page.serial serial g ne

  pub own_out : (segments : ℕ) (rest : List ℕ) → rest_of page.serial b.link.streams ≡ rest → length rest ≡ 255 * segments → OwnOut segments rest m page g.link new.gathered.link more
  own_out segments rest is size =
      let t = follows.taken in
      let before : t.stream.rest ≡ rest = rest_before m b.link new.gathered.link more follows there.distinct ∙ ap (λ n. rest_of n b.link.streams) named ∙ is in
      let entries : List Entry = map (entry_of m) t.takes.packets in
      record {
        packets = t.takes.packets;
        left = t.changed.rest;
        cuts = subst (λ r. CutsInto segments r m.lacing m.body t.takes.packets t.changed.rest) before (t.takes.cut segments (ap length before ∙ size));
        out = subst (λ e. StepOut page.serial e g.link new.gathered.link more) (same_entries page m t.takes.packets named (mended_position joined l.stream.next_sequence page))
            (subst (λ n. StepOut n entries g.link new.gathered.link more) named
            (unbroken joined page.serial m.serial g entries new.gathered.link more (own_step m b.link new.gathered.link more follows there.distinct)));
        after = ap (λ n. rest_of n new.gathered.link.streams) (sym named) ∙ rest_after m b.link new.gathered.link more follows there.distinct;
      }

  -- what it gives of any stream
  pub any_out : (serial : ℕ) → (entries : List Entry) × StepOut serial entries g.link new.gathered.link more
  any_out serial =
      elim (cases_eq serial page.serial) [
        | inl same ↦ (
          map (entry_of m) follows.taken.takes.packets,
          subst (λ n. StepOut n (map (entry_of m) follows.taken.takes.packets) g.link new.gathered.link more) (named ∙ sym same)
              (unbroken joined page.serial m.serial g (map (entry_of m) follows.taken.takes.packets) new.gathered.link more
              (own_step m b.link new.gathered.link more follows there.distinct)),
        )
        | inr ne ↦ ([], other_out serial ne)
      ]

  -- nothing is told of it: it goes on where the stream's pages before it end
  untold_out : (segments : ℕ) → IsPage page → mend ≡ None → length (rest_of page.serial g.link.streams) ≡ 255 * segments
      → OwnOut segments (rest_of page.serial g.link.streams) page page g.link new.gathered.link more
  untold_out segments is none size =
      let told = none_told offset (lost_of old page) l.stream (is_too_long g.link page) page (sym l.told ∙ none) in
      let own = own_out segments (rest_of page.serial g.link.streams) (ap (λ j. rest_of page.serial (broken_off j page.serial g).link.streams) told.0) size in
      let whole : left_whole (behind_rest joined page) ≡ page =
      ap (λ j. left_whole (behind_rest j page)) told.0 ∙ ap left_whole (joined_behind page) ∙ whole_left page is told.1 in
      record {
        packets = own.packets;
        left = own.left;
        cuts = subst (λ (p : Page). CutsInto segments (rest_of page.serial g.link.streams) p.lacing p.body own.packets own.left) whole own.cuts;
        out = own.out;
        after = own.after;
      }

  -- it begins a run
  pub fresh_rest : (j : Bool) → joined ≡ j → is_continued page ≡ false → rest_of page.serial b.link.streams ≡ []
  fresh_rest true e own =
      let parts = four_parts (nat_eq page.sequence (number_due (lost_of old page) l.stream)) (cond (is_continued page) (not l.stream.finished) l.stream.finished) (not (is_too_long g.link page))
      (not (is_last page && is_continued page && not (ends_some page.lacing))) e in
      ap (λ j. rest_of page.serial (broken_off j page.serial g).link.streams) e
      ∙ finished_rest links g given page.serial l.stream h.0 l.known (sym (ap (λ c. cond c (not l.stream.finished) l.stream.finished) own) ∙ parts.1)
  fresh_rest false e own = ap (λ j. rest_of page.serial (broken_off j page.serial g).link.streams) e ∙ no_rest page.serial g.link.streams

  record Begun (serial : ℕ) : Type 0 where
    entries : List Entry
    whole : HoldWhole serial (page ∷ []) entries
    out : StepOut serial entries g.link new.gathered.link more
    after : whole.unfinished ≡ rest_of serial new.gathered.link.streams

  run_begins : (serial : ℕ) → page.serial ≡ serial → IsPage page → BeginsRun serial page mend → Begun serial
  run_begins serial own is begins =
      elim (cases_Bool (is_continued page)) [
        | inr fresh ↦
            (let o = own_out 0 [] (fresh_rest joined refl fresh) refl in
            let same : behind_rest joined page ≡ page =
            cond-false (is_cut joined page) (record (without_values (front_values page.lacing) page) { flags = page.flags - 1 }) page (ap (λ c. c && not joined) fresh) in
            let whole : left_whole (behind_rest joined page) ≡ page = ap left_whole same ∙ whole_left page is begins.closed in
            let cuts : CutsInto 0 [] page.lacing page.body o.packets o.left =
            subst (λ (p : Page). CutsInto 0 [] p.lacing p.body o.packets o.left) whole o.cuts in
            let (first, left) = first_whole serial page [] [] page.lacing page.body o.packets o.left own
            (cond-false (is_continued page) (take (front_values page.lacing) page.lacing) [] fresh) refl refl refl cuts in
            begun o.packets o.left o.out o.after first left)
        | inl continued ↦
            (let apart : joined ≡ false =
            some_told offset (lost_of old page) l.stream (is_too_long g.link page) page (λ e. begins.told continued (l.told ∙ e)) begins.closed in
            let o = own_out 0 [] (ap (λ j. rest_of page.serial (broken_off j page.serial g).link.streams) apart ∙ no_rest page.serial g.link.streams) refl in
            let k : ℕ = front_values page.lacing in
            let rest : Page = record (without_values k page) { flags = page.flags - 1 } in
            let cut : is_cut false page ≡ true = ap (λ c. c && true) continued in
            let same : behind_rest false page ≡ rest = cond-true (is_cut false page) rest page cut in
            let last : is_last rest ≡ is_last page = ap is_last (sym same) ∙ behind_last false page in
            let closed : (is_last rest && ends_open rest.lacing) ≡ false =
            ap (λ c. c && ends_open rest.lacing) last ∙ still_closed (is_last page) k page.lacing begins.closed in
            let rest_is : IsPage rest = flagged (page.flags - 1) (without_values k page) (omega (arith, is.flags)) (without_is_page k page is) in
            let whole : left_whole (behind_rest joined page) ≡ rest =
            ap (λ j. left_whole (behind_rest j page)) apart ∙ ap left_whole same ∙ whole_left rest rest_is closed in
            let cuts : CutsInto 0 [] (drop k page.lacing) (drop (sum (take k page.lacing)) page.body) o.packets o.left =
            subst (λ (p : Page). CutsInto 0 [] p.lacing p.body o.packets o.left) whole o.cuts in
            let (first, left) = first_whole serial page (take k page.lacing) (take (sum (take k page.lacing)) page.body) (drop k page.lacing) (drop (sum (take k page.lacing)) page.body) o.packets o.left own
            (cond-true (is_continued page) (take k page.lacing) [] continued) (sym (take-append-drop k page.lacing)) (sym (take-append-drop (sum (take k page.lacing)) page.body))
            (length-take-le (sum (take k page.lacing)) page.body (front_fits k page is)) cuts in
            begun o.packets o.left o.out o.after first left)
      ]
    where
      begun : (packets : List (List ℕ)) (left : List ℕ) → StepOut page.serial (map (entry_of page) packets) g.link new.gathered.link more → rest_of page.serial new.gathered.link.streams ≡ left
          → (first : HoldWhole serial (page ∷ []) (map (entry_of page) packets)) → first.unfinished ≡ left → Begun serial
      begun packets left out after first is' = record {
        entries = map (entry_of page) packets;
        whole = first;
        out = subst (λ n. StepOut n (map (entry_of page) packets) g.link new.gathered.link more) own out;
        after = is' ∙ sym after ∙ ap (λ n. rest_of n new.gathered.link.streams) own;
      }

      dropped_closed : (xs ys : List ℕ) → ends_open (xs ++ ys) ≡ false → ends_open ys ≡ false
      dropped_closed xs [] e = refl
      dropped_closed xs (y ∷ ys) e = sym (ends_open-at xs y ys) ∙ e

      still_closed : (last : Bool) (k : ℕ) (lacing : List ℕ) → (last && ends_open lacing) ≡ false → (last && ends_open (drop k lacing)) ≡ false
      still_closed false k lacing e = refl
      still_closed true k lacing e = dropped_closed (take k lacing) (drop k lacing) (ap ends_open (take-append-drop k lacing) ∙ e)

-- ---- the pages that follow
pub record Went (serial : ℕ) (run : List Page) (entries : List Entry) (later : List LentAt) (mends : List (Option Mend)) (old new : KeptLink) (given : List Command) : Type 0 where
  pub more : List Entry
  pub whole : HoldWhole serial (run ++ run_of serial later mends) (entries ++ more)
  pub after : whole.unfinished ≡ rest_of serial new.streams
  pub out : StepOut serial more old new given

pub first_same : {x y : Option Mend} {xs ys : List (Option Mend)} → x ∷ xs ≡ y ∷ ys → x ≡ y
first_same e = cc

pub others_same : {x y : Option Mend} {xs ys : List (Option Mend)} → x ∷ xs ≡ y ∷ ys → xs ≡ ys
others_same e = cc

pub not_left : (serial : ℕ) (page : Page) (mend : Option Mend) → counts serial page mend ≡ true → (page.serial ≡ serial) × (is_left_out mend ≡ false)
not_left serial page mend e =
    let parts = and_parts (nat_eq page.serial serial) (not (is_left_out mend)) e in (eqb-true page.serial serial parts.0, no (is_left_out mend) parts.1)
  where
    no : (c : Bool) → not c ≡ true → c ≡ false
    no true f = cc
    no false f = refl

pub goes_on : (serial : ℕ) (later : List LentAt) (mends : List (Option Mend)) (old new : Mending) (before given : List Command) (links : List (List Page)) → HasMended links old.gathered before
    → AllByRecursion IsPage (pages_of later) → GoOnUntold serial later mends → TakesPages later old new mends given → (run : List Page) (entries : List Entry) → run ≢ []
    → (whole : HoldWhole serial run entries) → whole.unfinished ≡ rest_of serial old.gathered.link.streams
    → Went serial run entries later mends old.gathered.link new.gathered.link given
goes_on serial [] mends old new before given links h are untold t run entries some whole rest =
    let (same, unfinished) = hold_as serial run (run ++ []) entries (entries ++ []) (sym (append-nil run)) (sym (append-nil entries)) whole in
    record {
      more = [];
      whole = same;
      after = unfinished ∙ rest ∙ ap (λ (m : Mending). rest_of serial m.gathered.link.streams) (sym t.0);
      out = subst (λ (m : Mending). StepOut serial [] old.gathered.link m.gathered.link given) (sym t.0)
          (subst (StepOut serial [] old.gathered.link old.gathered.link) (sym t.2) (no_step serial old.gathered.link));
    }
goes_on serial (lent ∷ later) [] old new before given links h are untold t run entries some whole rest = absurd untold
goes_on serial (lent ∷ later) (mend ∷ mends) old new before given links h (is, are) (first, none, untold) (next, told, own, others, back, one, all, mends_are, given_is) run entries some whole rest =
    let on : Onward = goes_on serial later mends next new (before ++ own) back held.0 held.1 are untold all' in
    elim (cases_Bool (counts serial page mend)) [
      | inl counted ↦
          (let parts = not_left serial page mend counted in
          counted_on on counted parts.0 parts.1 (later_page lent.0 page old next mend own first one'))
      | inr passed ↦ passed_on on passed (later_page lent.0 page old next mend own first one')
    ]
  where
    page : Page
    page = lent.1

    one' : TakesPage lent.0 page old next mend own
    one' = subst (λ (m : Option Mend). TakesPage lent.0 page old next m own) (sym (first_same mends_are)) one

    all' : TakesPages later next new mends back
    all' = subst (λ (l : List (Option Mend)). TakesPages later next new l back) (sym (others_same mends_are)) all

    held : (now : List (List Page)) × HasMended now next.gathered (before ++ own)
    held =
        let (now, _, has) = becomes (way_of old.gathered.chain (lost_of old page) page) lent.0 (lost_of old page) page old next mend before own links refl one'.1 h in (now, has)

    Onward : Type 0
    Onward =
        (run' : List Page) (entries' : List Entry) → run' ≢ [] → (whole' : HoldWhole serial run' entries') → whole'.unfinished ≡ rest_of serial next.gathered.link.streams
        → Went serial run' entries' later mends next.gathered.link new.gathered.link back

    finish : (steps : List Entry) (run' : List Page) → StepOut serial steps old.gathered.link next.gathered.link own
        → Went serial (run ++ run') (entries ++ steps) later mends next.gathered.link new.gathered.link back
        → run' ++ run_of serial later mends ≡ run_of serial (lent ∷ later) (mend ∷ mends)
        → Went serial run entries (lent ∷ later) (mend ∷ mends) old.gathered.link new.gathered.link given
    finish steps run' out went is' =
        let (same, unfinished) = hold_as serial ((run ++ run') ++ run_of serial later mends) (run ++ run_of serial (lent ∷ later) (mend ∷ mends))
        ((entries ++ steps) ++ went.more) (entries ++ (steps ++ went.more))
        (append_assoc run run' (run_of serial later mends) ∙ ap (λ l. run ++ l) is') (append_assoc entries steps went.more) went.whole in
        record {
          more = steps ++ went.more;
          whole = same;
          after = unfinished ∙ went.after;
          out = subst (StepOut serial (steps ++ went.more) old.gathered.link new.gathered.link) (sym given_is)
              (steps_on serial steps went.more old.gathered.link next.gathered.link new.gathered.link own back out went.out);
        }

    still : Onward → StepOut serial [] old.gathered.link next.gathered.link own → rest_of serial next.gathered.link.streams ≡ rest_of serial old.gathered.link.streams → counts serial page mend ≡ false
        → Went serial run entries (lent ∷ later) (mend ∷ mends) old.gathered.link new.gathered.link given
    still on out same passed =
        let w : Went serial run entries later mends next.gathered.link new.gathered.link back =
        on run entries some whole (rest ∙ sym same) in
        finish [] [] out
        (subst (λ l. Went serial l (entries ++ []) later mends next.gathered.link new.gathered.link back) (sym (append-nil run))
        (subst (λ l. Went serial run l later mends next.gathered.link new.gathered.link back) (sym (append-nil entries)) w))
        (sym (cond-false (counts serial page mend) (page ∷ run_of serial later mends) (run_of serial later mends) passed))

    counted_on : Onward → counts serial page mend ≡ true → page.serial ≡ serial → is_left_out mend ≡ false → LeftOut old next mend own ⊎ Later lent.0 page old next mend own
        → Went serial run entries (lent ∷ later) (mend ∷ mends) old.gathered.link new.gathered.link given
    counted_on on counted same_serial kept (inl out) = absurd (false≢true (sym kept ∙ out.told))
    counted_on on counted same_serial kept (inr l) =
        let same : rest_of page.serial old.gathered.link.streams ≡ whole.unfinished = ap (λ n. rest_of n old.gathered.link.streams) same_serial ∙ sym rest in
        let o = untold_out lent.0 page old next mend own before links h first l whole.segments is (none counted) (ap length same ∙ whole.unfinished_size) in
        let (now, left) = one_more serial run entries page o.packets o.left same_serial some whole
        (subst (λ r. CutsInto whole.segments r page.lacing page.body o.packets o.left) same o.cuts) in
        finish (map (entry_of page) o.packets) (page ∷ []) (subst (λ n. StepOut n (map (entry_of page) o.packets) old.gathered.link next.gathered.link own) same_serial o.out)
        (on (run ++ page ∷ []) (entries ++ map (entry_of page) o.packets) (push_not_nil run page) now
        (left ∙ sym o.after ∙ ap (λ n. rest_of n next.gathered.link.streams) same_serial))
        (sym (cond-true (counts serial page mend) (page ∷ run_of serial later mends) (run_of serial later mends) counted))

    passed_on : Onward → counts serial page mend ≡ false → LeftOut old next mend own ⊎ Later lent.0 page old next mend own
        → Went serial run entries (lent ∷ later) (mend ∷ mends) old.gathered.link new.gathered.link given
    passed_on on passed (inl out) =
        still on
        (subst (λ (m : Mending). StepOut serial [] old.gathered.link m.gathered.link own) (sym out.same)
        (subst (StepOut serial [] old.gathered.link old.gathered.link) (sym out.none) (no_step serial old.gathered.link)))
        (ap (λ (m : Mending). rest_of serial m.gathered.link.streams) out.same) passed
    passed_on on passed (inr l) =
        elim (cases_eq page.serial serial) [
          | inl same_serial ↦
              (let kept : is_left_out mend ≡ false = ap is_left_out l.told ∙ never_left lent.0 (lost_of old page) l.stream (is_too_long old.gathered.link page) page in
              absurd (false≢true (sym passed ∙ ap (λ c. c && not (is_left_out mend)) (eq-eqb page.serial serial same_serial) ∙ ap not kept)))
          | inr ne ↦
              still on (other_out lent.0 page old next mend own before links h first l serial (λ e. ne (sym e)))
              (other_rest lent.0 page old next mend own before links h first l serial (λ e. ne (sym e))) passed
        ]

-- ---- all of a run
pub whole_come_out : (serial : ℕ) (earlier pages : List LentAt) (start old new : Mending) (told mends : List (Option Mend)) (before given : List Command)
    → AllByRecursion IsPage (pages_of pages) → IsStart start → TakesPages earlier start old told before → TakesPages pages old new mends given → AreRun serial pages mends
    → (entries : List Entry) × (whole : HoldWhole serial (run_of serial pages mends) entries) × (whole.unfinished ≡ rest_of serial new.gathered.link.streams)
    × StepOut serial entries old.gathered.link new.gathered.link given
whole_come_out serial earlier [] start old new told mends before given are begins first t is = absurd is
whole_come_out serial earlier (lent ∷ later) start old new told [] before given are begins first t is = absurd is
whole_come_out serial earlier (lent ∷ later) start old new told (mend ∷ mends) before given (is_page, are) begins first (next, mend', own, others, back, one, all, mends_are, given_is) (run, untold) =
    let (links, held) = all_mended earlier start old told [] before [] first (begins.gathered, begins.goes_on) in
    let one' : TakesPage lent.0 lent.1 old next mend own = subst (λ (m : Option Mend). TakesPage lent.0 lent.1 old next m own) (sym (first_same mends_are)) one in
    let all' : TakesPages later next new mends back = subst (λ (l : List (Option Mend)). TakesPages later next new l back) (sym (others_same mends_are)) all in
    let parts = not_left serial lent.1 mend run.is in
    let (now, _, has) = becomes (way_of old.gathered.chain (lost_of old lent.1) lent.1) lent.0 (lost_of old lent.1) lent.1 old next mend before own links refl one'.1 held in
    elim (later_page lent.0 lent.1 old next mend own run.later one') [
      | inl out ↦ absurd (false≢true (sym parts.1 ∙ out.told))
      | inr l ↦
          (let b = run_begins lent.0 lent.1 old next mend own before links held run.later l serial parts.0 is_page run in
          let w : Went serial (lent.1 ∷ []) b.entries later mends next.gathered.link new.gathered.link back =
          goes_on serial later mends next new (before ++ own) back now has are untold all' (lent.1 ∷ []) b.entries (λ e. cc) b.whole b.after in
          let out : StepOut serial (b.entries ++ w.more) old.gathered.link new.gathered.link given =
          subst (StepOut serial (b.entries ++ w.more) old.gathered.link new.gathered.link) (sym given_is)
          (steps_on serial b.entries w.more old.gathered.link next.gathered.link new.gathered.link own back b.out w.out) in
          let (whole, unfinished) = hold_as serial (lent.1 ∷ run_of serial later mends) (run_of serial (lent ∷ later) (mend ∷ mends)) (b.entries ++ w.more) (b.entries ++ w.more)
          (sym (cond-true (counts serial lent.1 mend) (lent.1 ∷ run_of serial later mends) (run_of serial later mends) run.is)) refl w.whole in
          (b.entries ++ w.more, whole, unfinished ∙ w.after, out))
    ]
