-- What waits of a stream comes out.
use Rattle.std.proofs.Common.{◌≡◌, ◌⊎◌, ℕ, Bool, true, false, List, [], ◌∷◌, ◌++◌, length, map, replicate, Option, refl, sym, ◌∙◌, ap, subst, arith, inl, inr, append_assoc, append-nil}
use Rattle.std.specs.Prelude.{nat_eq, not, is_some, ◌&&◌, ◌||◌}
use Rattle.std.specs.List.{list_any}
use Rattle.std.proofs.lemmas.Bool.{cases_Bool, cases_eq, cond-true, cond-false, eq-eqb, false≢true, ne_eqb}
use Rattle.ogg_page.specs.Page.{Page}
use Rattle.ogg_page.specs.LogicalStream.{is_first}
use Rattle.ogg_page.specs.Window.{LentAt}
use Rattle.link_chain.specs.declared.stream_state.StreamState.{StreamState}
use Rattle.link_chain.specs.ChainState.{ChainState, is_open, last_link}
use Rattle.link_chain.specs.Links.{serials_of}
use Rattle.link_chain.specs.Progress.{left_whole as whole_stream, stream_in}
use Rattle.link_chain.specs.Taking.{links_with}
use Rattle.link_chain.specs.Laws.LastLink.{found_at}
use Rattle.link_chain.specs.Laws.PageRules.{joining_kept}
use Rattle.ogg_command.specs.declared.command.Command.{Command}
use Rattle.ogg_command.specs.declared.command.Entry.{Entry}
use Rattle.import_commands.specs.Commands.{entry_of}
use Rattle.import_gather.specs.Gathered.{Gathered, HasGathered, without_packet}
use Rattle.import_gather.specs.Giving.{Follows, TakesOn, begin_if}
use Rattle.import_gather.specs.Kept.{KeptLink, KeptStream, entered, has_some, waits}
use Rattle.import_gather.specs.Laws.{none_kept, serials}
use Rattle.import_mend.specs.Cut.{cut_links}
use Rattle.import_mend.specs.Gives.{BeginsAgain, EndsEach, EndsOne, EndsStreams, Gives, GivesEnd, Mending, open_streams}
use Rattle.import_mend.specs.Mended.{end_page}
use Rattle.import_mend.specs.Runs.{ComeOut, is_left_out, packets_in, packets_of, waiting_in}
use Rattle.import_mend.specs.Steps.{Mends}
use Rattle.import_mend.specs.Ways.{way_of}
use Rattle.import_mend.specs.Whole.{HasMended, IsStart, TakesPage, TakesPages, lost_of}
use Rattle.import_mend.specs.declared.mend.Mend.{Mend}
use Rattle.import_mend.specs.declared.ways.Way.{Way}
use Rattle.import_mend.specs.declared.ways.Way.TheVariants.{Take, Restart, Stranger, Repeated, Misshapen, Full}
use Rattle.import_mend.proofs.ComesOut.{Later, LeftOut, any_out, later_page}
use Rattle.import_mend.proofs.Fits.{broken_known, no_rest}
use Rattle.import_mend.proofs.Held.{becomes, dropped_goes_on}
use Rattle.import_mend.proofs.Kepts.{rest_before}
use Rattle.import_mend.proofs.Origins.{Known, is_known}
use Rattle.import_mend.proofs.Parts.{no_packets}
use Rattle.import_mend.proofs.Taken.{first_fits, restarts_first}
use Rattle.import_mend.proofs.Waiting.{IsBare, StepOut, begun_packets, if_some, other_step, own_step, packets_app, waiting_dropped}

pub record Passes (serial : ℕ) (packets : List (List ℕ)) (old new : KeptLink) (more : List Command) : Type 0 where
  pub come : ComeOut serial packets old new more
  pub bare : IsBare serial new

by_step : (serial : ℕ) (entries : List Entry) (old new : KeptLink) (more : List Command) → StepOut serial entries old new more → IsBare serial old
    → Passes serial (packets_of entries) old new more
by_step serial entries old new more s bare = let c = s.come bare in record { come = c.0; bare = c.1 }

nothing_passes : (serial : ℕ) (old new : KeptLink) (more : List Command) → new ≡ old → more ≡ [] → IsBare serial old → Passes serial [] old new more
nothing_passes serial old new more same none bare = record {
  come = append-nil (waiting_in serial old.streams) ∙ ap (λ (l : KeptLink). waiting_in serial l.streams) (sym same) ∙ ap (λ l. packets_in serial l ++ waiting_in serial new.streams) (sym none);
  bare = subst (IsBare serial) (sym same) bare;
}

pub passes_on : (serial : ℕ) (first later : List (List ℕ)) (old mid new : KeptLink) (own rest more : List Command) → more ≡ own ++ rest → Passes serial first old mid own
    → Passes serial later mid new rest → Passes serial (first ++ later) old new more
passes_on serial first later old mid new own rest more is a b = record {
  come = sym (append_assoc (waiting_in serial old.streams) first later)
      ∙ ap (λ l. l ++ later) a.come
      ∙ append_assoc (packets_in serial own) (waiting_in serial mid.streams) later
      ∙ ap (λ l. packets_in serial own ++ l) b.come
      ∙ sym (append_assoc (packets_in serial own) (packets_in serial rest) (waiting_in serial new.streams))
      ∙ ap (λ l. l ++ waiting_in serial new.streams) (sym (packets_app serial own rest))
      ∙ ap (λ l. packets_in serial l ++ waiting_in serial new.streams) (sym is);
  bare = b.bare;
}

-- ---- first pages
-- all that waits of a link comes out with its `Begin`
pub given_all : (serial : ℕ) (link : KeptLink) → IsBare serial link → waiting_in serial link.streams ≡ packets_in serial (begin_if (waits link) link)
given_all serial link bare = at link.begun refl (has_some link.streams) refl ∙ sym (begun_packets serial (waits link) link)
  where
    nothing : (l : List KeptStream) → has_some l ≡ false → waiting_in serial l ≡ []
    nothing [] e = refl
    nothing (k ∷ l) e = absurd (false≢true (sym e ∙ ap not (ne_eqb (length (k ∷ l)) 0 (λ f. omega (arith, f)))))

    at : (b : Bool) → link.begun ≡ b → (c : Bool) → has_some link.streams ≡ c → waiting_in serial link.streams ≡ if_some (waits link) (waiting_in serial link.streams)
    at true e c f = bare e ∙ sym (ap (λ b. if_some (not b && has_some link.streams) (waiting_in serial link.streams)) e)
    at false e true f = sym (ap (λ b. if_some (not b && has_some link.streams) (waiting_in serial link.streams)) e ∙ ap (λ b. if_some (true && b) (waiting_in serial link.streams)) f)
    at false e false f = nothing link.streams f ∙ sym (ap (λ b. if_some (not b && has_some link.streams) (waiting_in serial link.streams)) e ∙ ap (λ b. if_some (true && b) (waiting_in serial link.streams)) f)

opens_passes : (serial : ℕ) (page : Page) (old new : KeptLink) (more : List Command) → is_first page ≡ true → TakesOn page false old new more → IsBare serial old
    → Passes serial (waiting_in serial (entered page ∷ [])) old new more
opens_passes serial page old new more first t bare =
    let made = t.opens first refl in
    record {
      come = ap (λ l. l ++ waiting_in serial (entered page ∷ [])) (given_all serial old bare ∙ ap (packets_in serial) (sym made.1))
          ∙ ap (λ (l : KeptLink). packets_in serial more ++ waiting_in serial l.streams) (sym made.0);
      bare = λ begun. absurd (false≢true (sym (ap (λ (l : KeptLink). l.begun) made.0) ∙ begun));
    }

record Pushed (serial : ℕ) (streams : List KeptStream) (new : KeptStream) : Type 0 where
  packets : List (List ℕ)
  is : waiting_in serial streams ++ packets ≡ waiting_in serial (streams ++ new ∷ [])

pushed : (serial : ℕ) (streams : List KeptStream) (new : KeptStream) → Pushed serial streams new
pushed serial [] new = record { packets = waiting_in serial (new ∷ []); is = refl }
pushed serial (k ∷ streams) new =
    elim (cases_Bool (nat_eq k.serial serial)) [
      | inl here ↦ record {
        packets = [];
        is = append-nil (waiting_in serial (k ∷ streams)) ∙ cond-true (nat_eq k.serial serial) k.headers (waiting_in serial streams) here
            ∙ sym (cond-true (nat_eq k.serial serial) k.headers (waiting_in serial (streams ++ new ∷ [])) here);
      }
      | inr there ↦
          (let p = pushed serial streams new in
          record {
            packets = p.packets;
            is = ap (λ l. l ++ p.packets) (cond-false (nat_eq k.serial serial) k.headers (waiting_in serial streams) there) ∙ p.is
                ∙ sym (cond-false (nat_eq k.serial serial) k.headers (waiting_in serial (streams ++ new ∷ [])) there);
          })
    ]

joins_passes : (serial : ℕ) (page : Page) (old new : KeptLink) (more : List Command) → is_first page ≡ true → TakesOn page true old new more → old.begun ≡ false
    → Passes serial (pushed serial old.streams (entered page)).packets old new more
joins_passes serial page old new more first t waiting =
    let made = t.joins first refl in
    let p = pushed serial old.streams (entered page) in
    record {
      come = p.is ∙ ap (λ (l : KeptLink). waiting_in serial l.streams) (sym made.0) ∙ ap (λ l. packets_in serial l ++ waiting_in serial new.streams) (sym made.1);
      bare = λ begun. absurd (false≢true (sym (ap (λ (l : KeptLink). l.begun) made.0 ∙ waiting) ∙ begun));
    }

first_passes : (serial lost : ℕ) (page : Page) (old new : Mending) (more given : List Command) (links : List (List Page)) → HasMended links old.gathered given → is_first page ≡ true
    → way_of old.gathered.chain lost page ≡ Take → TakesOn page (is_open old.gathered.chain) old.gathered.link new.gathered.link more → IsBare serial old.gathered.link
    → (packets : List (List ℕ)) × Passes serial packets old.gathered.link new.gathered.link more
first_passes serial lost page old new more given links h first way t bare = at (is_open old.gathered.chain) refl
  where
    at : (b : Bool) → is_open old.gathered.chain ≡ b → (packets : List (List ℕ)) × Passes serial packets old.gathered.link new.gathered.link more
    at true e =
        let kept = joining_kept old.gathered.chain page first e (first_fits old.gathered.chain lost page first way) in (
          _,
          joins_passes serial page old.gathered.link new.gathered.link more first (subst (λ b. TakesOn page b old.gathered.link new.gathered.link more) e t)
              (not_begun old.gathered.link.begun refl kept.0),
        )
      where
        not_begun : (b : Bool) → old.gathered.link.begun ≡ b → old.gathered.chain.has_data ≡ false → old.gathered.link.begun ≡ false
        not_begun true f none = absurd (false≢true (sym none ∙ h.1 f))
        not_begun false f none = f
    at false e = (_, opens_passes serial page old.gathered.link new.gathered.link more first (subst (λ b. TakesOn page b old.gathered.link new.gathered.link more) e t) bare)

-- ---- streams that are ended
one_passes : (serial : ℕ) (stream : StreamState) (g next : Gathered) (given own : List Command) (links : List (List Page)) → HasMended links g given → EndsOne stream g next own → IsBare serial g.link
    → Passes serial [] g.link next.link own
one_passes serial stream g next given own links h e bare =
    let m : Page = end_page stream.next_sequence stream in
    let b : Gathered = without_packet stream.serial g in
    let held : HasMended (cut_links stream.serial links) b given = dropped_goes_on stream.serial links g given h in
    let there : Known (cut_links stream.serial links) b stream.serial (whole_stream stream) =
    is_known (cut_links stream.serial links) b given stream.serial (whole_stream stream) held.0 (broken_known false stream.serial g stream e.known) in
    let follows : Follows m b.link next.link own = e.gathers.takes.follows refl there.kept in
    let bare' : IsBare serial b.link = λ f. waiting_dropped stream.serial serial g.link.streams ∙ bare f in
    let t = follows.taken in
    let rest : t.stream.rest ≡ [] = rest_before m b.link next.link own follows there.distinct ∙ no_rest stream.serial g.link.streams in
    let c = t.takes.cut 0 (omega (arith, ap length rest)) in
    let none : t.takes.packets ≡ [] = no_packets t.takes.packets (replicate c.later 255) c.lacing in
    let step : StepOut stream.serial [] b.link next.link own =
    subst (λ l. StepOut stream.serial (map (entry_of m) l) b.link next.link own) none (own_step m b.link next.link own follows there.distinct) in
    let p : Passes serial [] b.link next.link own =
    elim (cases_eq serial stream.serial) [
      | inl same ↦ subst (λ n. Passes n [] b.link next.link own) (sym same) (by_step stream.serial [] b.link next.link own step (subst (λ n. IsBare n b.link) same bare'))
      | inr ne ↦ by_step serial [] b.link next.link own (other_step m b.link next.link own follows there.distinct serial ne) bare'
    ] in
    record {
      come = ap (λ l. l ++ []) (sym (waiting_dropped stream.serial serial g.link.streams)) ∙ p.come;
      bare = p.bare;
    }

each_passes : (serial : ℕ) (streams : List StreamState) (old new : Gathered) (given more : List Command) (links : List (List Page)) → HasMended links old given → EndsEach streams old new more → IsBare serial old.link
    → Passes serial [] old.link new.link more
each_passes serial [] old new given more links h e bare = nothing_passes serial old.link new.link more (ap (λ (g : Gathered). g.link) e.0) e.1 bare
each_passes serial (stream ∷ streams) old new given more links h (next, own, others, one, each, all) bare =
    let p : Passes serial [] old.link next.link own = one_passes serial stream old next given own links h one bare in
    let dropped : HasMended (cut_links stream.serial links) (without_packet stream.serial old) given = dropped_goes_on stream.serial links old given h in
    let ended : HasMended (links_with (cut_links stream.serial links) (end_page stream.next_sequence stream)) next (given ++ own) =
    one.gathers.goes_on (cut_links stream.serial links) given dropped.0 dropped.1 in
    passes_on serial [] [] old.link next.link new.link own others more all p
    (each_passes serial streams next new (given ++ own) others (links_with (cut_links stream.serial links) (end_page stream.next_sequence stream)) ended each p.bare)

restart_passes : (serial : ℕ) (page : Page) (old new : Mending) (given more : List Command) (links : List (List Page)) → HasMended links old.gathered given → BeginsAgain page old new more
    → is_first page ≡ true → IsBare serial old.gathered.link → Passes serial (waiting_in serial (entered page ∷ [])) old.gathered.link new.gathered.link more
restart_passes serial page old new given more links h again first bare =
    let p : Passes serial [] old.gathered.link again.closed.link again.ends =
    each_passes serial (open_streams old.gathered.chain) old.gathered again.closed given again.ends links h again.each bare in
    passes_on serial [] (waiting_in serial (entered page ∷ [])) old.gathered.link again.closed.link new.gathered.link again.ends again.own more again.all p
    (opens_passes serial page again.closed.link new.gathered.link again.own first
    (subst (λ b. TakesOn page b again.closed.link new.gathered.link again.own) again.shut again.begins.takes) p.bare)

-- ---- any page
page_passes : (serial : ℕ) (way : Way) (offset : ℕ) (page : Page) (old new : Mending) (mend : Option Mend) (given more : List Command) (links : List (List Page)) → way_of old.gathered.chain (lost_of old page) page ≡ way
    → HasMended links old.gathered given → TakesPage offset page old new mend more → Gives way offset (lost_of old page) page old new mend more → IsBare serial old.gathered.link
    → (packets : List (List ℕ)) × Passes serial packets old.gathered.link new.gathered.link more
page_passes serial Take offset page old new mend given more links way h t g bare =
    elim (cases_Bool (is_first page)) [
      | inl first ↦ first_passes serial (lost_of old page) page old new more given links h first way (g.0 first).0.takes bare
      | inr later ↦ later_passes (later_page offset page old new mend more later t) later
    ]
  where
    later_passes : LeftOut old new mend more ⊎ Later offset page old new mend more → is_first page ≡ false → (packets : List (List ℕ)) × Passes serial packets old.gathered.link new.gathered.link more
    later_passes (inl out) later = ([], nothing_passes serial old.gathered.link new.gathered.link more (ap (λ (m : Mending). m.gathered.link) out.same) out.none bare)
    later_passes (inr l) later =
        let (entries, step) = any_out offset page old new mend more given links h later l serial in
        (packets_of entries, by_step serial entries old.gathered.link new.gathered.link more step bare)
page_passes serial Restart offset page old new mend given more links way h t g bare =
    elim g [
      | inl b ↦
          (_, restart_passes serial page old new given more links h b.1 (restarts_first old.gathered.chain (lost_of old page) page way) bare)
      | inr f ↦ (let e : EndsStreams old.gathered new.gathered more = f.1 in ([], each_passes serial e.ended old.gathered new.gathered given more links h e.each bare))
    ]
page_passes serial Stranger offset page old new mend given more links way h t g bare = ([], nothing_passes serial old.gathered.link new.gathered.link more (ap (λ (m : Mending). m.gathered.link) g.0) g.1 bare)
page_passes serial Repeated offset page old new mend given more links way h t g bare = ([], nothing_passes serial old.gathered.link new.gathered.link more (ap (λ (m : Mending). m.gathered.link) g.0) g.1 bare)
page_passes serial Misshapen offset page old new mend given more links way h t g bare = ([], nothing_passes serial old.gathered.link new.gathered.link more (ap (λ (m : Mending). m.gathered.link) g.0) g.1 bare)
page_passes serial Full offset page old new mend given more links way h t g bare = ([], nothing_passes serial old.gathered.link new.gathered.link more (ap (λ (m : Mending). m.gathered.link) g.0) g.1 bare)

pub pages_pass : (serial : ℕ) (pages : List LentAt) (old new : Mending) (mends : List (Option Mend)) (before given : List Command) (links : List (List Page)) → HasMended links old.gathered before
    → TakesPages pages old new mends given → IsBare serial old.gathered.link
    → (packets : List (List ℕ)) × Passes serial packets old.gathered.link new.gathered.link given
pages_pass serial [] old new mends before given links h t bare =
    ([], nothing_passes serial old.gathered.link new.gathered.link given (ap (λ (m : Mending). m.gathered.link) t.0) t.2 bare)
pages_pass serial (lent ∷ later) old new mends before given links h (next, mend, own, others, rest, one, all, told, is) bare =
    let (middle, _, held) = becomes (way_of old.gathered.chain (lost_of old lent.1) lent.1) lent.0 (lost_of old lent.1) lent.1 old next mend before own links refl one.1 h in
    let (own_packets, p) =
    page_passes serial (way_of old.gathered.chain (lost_of old lent.1) lent.1) lent.0 lent.1 old next mend before own links refl h one one.1 bare in
    let (others_packets, q) = pages_pass serial later next new others (before ++ own) rest middle held all p.bare in
    (own_packets ++ others_packets, passes_on serial own_packets others_packets old.gathered.link next.gathered.link new.gathered.link own rest given is p q)

-- at the end
pub end_passes : (serial : ℕ) (old new : Gathered) (before more : List Command) (links : List (List Page)) → HasMended links old before → GivesEnd old new more → IsBare serial old.link
    → waiting_in serial old.link.streams ≡ packets_in serial more
end_passes serial old new before more links h e bare =
    let p : Passes serial [] old.link e.closed.link e.ends = each_passes serial e.each.ended old e.closed before e.ends links h e.each.each bare in
    sym (append-nil (waiting_in serial old.link.streams)) ∙ p.come
    ∙ ap (λ l. packets_in serial e.ends ++ l) (given_all serial e.closed.link p.bare ∙ ap (packets_in serial) (sym e.waited.commands))
    ∙ sym (packets_app serial e.ends e.rest) ∙ ap (packets_in serial) (sym e.all)

-- ---- a stream's first page
pub start_bare : (serial : ℕ) (start : Mending) → IsStart start → IsBare serial start.gathered.link
start_bare serial start begins = λ _. ap (waiting_in serial) (none_kept start.gathered.link.streams begins.gathered.so_far.order)

pub always_bare : (serial : ℕ) (pages : List LentAt) (start new : Mending) (mends : List (Option Mend)) (given : List Command) → IsStart start → TakesPages pages start new mends given
    → IsBare serial new.gathered.link
always_bare serial pages start new mends given begins taken =
    (pages_pass serial pages start new mends [] given [] (begins.gathered, begins.goes_on) taken (start_bare serial start begins)).1.bare

no_headers : (serial : ℕ) (streams : List KeptStream) → list_any (nat_eq serial) (serials streams) ≡ false → waiting_in serial streams ≡ []
no_headers serial [] e = refl
no_headers serial (k ∷ streams) e =
    elim (cases_eq k.serial serial) [
      | inl same ↦ absurd (false≢true (sym e ∙ ap (λ b. b || list_any (nat_eq serial) (serials streams)) (eq-eqb serial k.serial (sym same))))
      | inr ne ↦
          cond-false (nat_eq k.serial serial) k.headers (waiting_in serial streams) (ne_eqb k.serial serial ne)
          ∙ no_headers serial streams (sym (ap (λ b. b || list_any (nat_eq serial) (serials streams)) (ne_eqb serial k.serial (λ f. ne (sym f)))) ∙ e)
    ]

pushed_behind : (serial : ℕ) (streams : List KeptStream) (new : KeptStream) → list_any (nat_eq serial) (serials streams) ≡ false
    → waiting_in serial (streams ++ new ∷ []) ≡ waiting_in serial (new ∷ [])
pushed_behind serial [] new e = refl
pushed_behind serial (k ∷ streams) new e =
    elim (cases_eq k.serial serial) [
      | inl same ↦ absurd (false≢true (sym e ∙ ap (λ b. b || list_any (nat_eq serial) (serials streams)) (eq-eqb serial k.serial (sym same))))
      | inr ne ↦
          cond-false (nat_eq k.serial serial) k.headers (waiting_in serial (streams ++ new ∷ [])) (ne_eqb k.serial serial ne)
          ∙ pushed_behind serial streams new (sym (ap (λ b. b || list_any (nat_eq serial) (serials streams)) (ne_eqb serial k.serial (λ f. ne (sym f)))) ∙ e)
    ]

-- a stream that the link hasn't isn't kept
absent : (links : List (List Page)) (g : Gathered) (given : List Command) (serial : ℕ) → HasGathered links g given → is_some (stream_in g.chain.streams serial) ≡ false
    → list_any (nat_eq serial) (serials g.link.streams) ≡ false
absent links g given serial h none = at (list_any (nat_eq serial) (serials g.link.streams)) refl
  where
    at : (b : Bool) → list_any (nat_eq serial) (serials g.link.streams) ≡ b → list_any (nat_eq serial) (serials g.link.streams) ≡ false
    at false e = e
    at true e =
        let there : list_any (nat_eq serial) (serials_of (last_link links)) ≡ true = ap (list_any (nat_eq serial)) (sym h.so_far.order) ∙ e in
        absurd (false≢true (sym none ∙ ap (λ (c : ChainState). is_some (stream_in c.streams serial)) h.chain
        ∙ ap is_some (found_at (last_link links) serial (serials_of (last_link links)) there)))

pub first_comes : (offset : ℕ) (page : Page) (old new : Mending) (mend : Option Mend) (given more : List Command) (links : List (List Page)) → HasMended links old.gathered given
    → is_first page ≡ true → TakesPage offset page old new mend more → is_left_out mend ≡ false → IsBare page.serial old.gathered.link
    → ComeOut page.serial (page.body ∷ []) old.gathered.link new.gathered.link more
first_comes offset page old new mend given more links h first t kept bare = at (way_of old.gathered.chain (lost_of old page) page) refl t.0 t.1
  where
    own : waiting_in page.serial (entered page ∷ []) ≡ page.body ∷ []
    own = cond-true (nat_eq page.serial page.serial) (page.body ∷ []) [] (eq-eqb page.serial page.serial refl)

    Comes : List (List ℕ) → Type 0
    Comes l = ComeOut page.serial l old.gathered.link new.gathered.link more

    taken_on : (b : Bool) → is_open old.gathered.chain ≡ b → way_of old.gathered.chain (lost_of old page) page ≡ Take → TakesOn page (is_open old.gathered.chain) old.gathered.link new.gathered.link more
        → ComeOut page.serial (page.body ∷ []) old.gathered.link new.gathered.link more
    taken_on true e way o =
        let broken = joining_kept old.gathered.chain page first e (first_fits old.gathered.chain (lost_of old page) page first way) in
        let made = (subst (λ b. TakesOn page b old.gathered.link new.gathered.link more) e o).joins first refl in
        let none : list_any (nat_eq page.serial) (serials old.gathered.link.streams) ≡ false = absent links old.gathered given page.serial h.0 broken.1.0 in
        ap (λ l. l ++ page.body ∷ []) (no_headers page.serial old.gathered.link.streams none) ∙ sym own ∙ sym (pushed_behind page.serial old.gathered.link.streams (entered page) none)
        ∙ ap (λ (l : KeptLink). waiting_in page.serial l.streams) (sym made.0) ∙ ap (λ l. packets_in page.serial l ++ waiting_in page.serial new.gathered.link.streams) (sym made.1)
    taken_on false e way o =
        subst Comes own
        (opens_passes page.serial page old.gathered.link new.gathered.link more first (subst (λ b. TakesOn page b old.gathered.link new.gathered.link more) e o) bare).come

    at : (way : Way) → way_of old.gathered.chain (lost_of old page) page ≡ way → Mends way offset (lost_of old page) page old.gathered new.gathered mend
        → Gives way offset (lost_of old page) page old new mend more → ComeOut page.serial (page.body ∷ []) old.gathered.link new.gathered.link more
    at Take e m g = taken_on (is_open old.gathered.chain) refl e (g.0 first).0.takes
    at Restart e m g =
        elim g [
          | inl b ↦ subst Comes own (restart_passes page.serial page old new given more links h b.1 first bare).come
          | inr f ↦ absurd (false≢true (sym kept ∙ ap is_left_out f.0))
        ]
    at Stranger e m g = absurd (false≢true (sym kept ∙ ap is_left_out m.1))
    at Repeated e m g = absurd (false≢true (sym kept ∙ ap is_left_out m.1))
    at Misshapen e m g = absurd (false≢true (sym kept ∙ ap is_left_out m.1))
    at Full e m g = absurd (false≢true (sym kept ∙ ap is_left_out m.1))
