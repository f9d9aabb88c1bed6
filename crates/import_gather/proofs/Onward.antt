-- What the commands hold so far, with another page.
use Rattle.std.proofs.Common.{◌≡◌, ℕ, Bool, true, false, cond, List, [], ◌∷◌, ◌++◌, length, map, drop, refl, sym, ◌∙◌, ap, subst, append-nil, inl, inr, arith, ◌<◌}
use Rattle.std.specs.Prelude.{nat_eq, not, ◌&&◌, ◌||◌}
use Rattle.std.specs.List.{AllByRecursion, AllZip, IsDistinct}
use Rattle.std.proofs.lemmas.Bool.{cases_Bool, false≢true, or_parts}
use Rattle.std.proofs.lemmas.List.{map-append}
use Rattle.std.proofs.lemmas.List.Sums.{fold-append}
use Rattle.ogg_page.specs.Page.{Page, IsPage}
use Rattle.ogg_page.specs.LogicalStream.{is_first, is_last}
use Rattle.link_chain.specs.Links.{pages_with, serials_of}
use Rattle.link_chain.specs.ChainState.{ChainState}
use Rattle.link_chain.specs.Taking.{is_whole_packet}
use Rattle.link_chain.specs.Laws.PageState.{one_serial, serials_both}
use Rattle.link_chain.specs.Laws.Grow.{serials_same}
use Rattle.chain_rules.specs.Recording.{Stream, Recording, HoldsLinks, add, after}
use Rattle.ogg_command.specs.declared.command.Command.{Command}
use Rattle.import_commands.specs.Commands.{entry_of, put_of, end_of}
use Rattle.import_gather.specs.Headers.{lacking}
use Rattle.import_gather.specs.Kept.{KeptStream, KeptLink, TakenBy, has_some, is_ready, waits, no_link, entered, ends_by}
use Rattle.import_gather.specs.Giving.{Follows, bare, begun_link, begun_if, begin_if, begins_now, link_begin, marked, page_end, with_first}
use Rattle.import_gather.specs.Gathered.{Gathered, KeepsUp, AreWanted, Waits, HoldsSoFar, held_back}
use Rattle.import_gather.specs.Laws.{nothing_in, serials, some_is}
use Rattle.import_gather.proofs.Others.{Others, apart, zip_push, zip_weaker, zip_all, map_each}
use Rattle.import_gather.proofs.Issued.{stream_of, grows, begun_as, after_page, after_begin}
use Rattle.import_gather.proofs.Pages.{keeps_other, keeps_bare}
use Rattle.import_gather.proofs.First.{keeps_first, begun_by, one_wanted}
use Rattle.import_gather.proofs.Steps.{Taken, taken_last, taken_serials, taken_wanted, Marks, marks, begun_same, kept_same, ends_more}
use Rattle.link_chain.specs.Laws.StateBehind.{map-map}

has_more : {A : Type 0} (front : List A) (x : A) (back : List A) → has_some (front ++ x ∷ back) ≡ true
has_more [] x back = some_is x back
has_more (y ∷ front) x back = some_is y (front ++ x ∷ back)

and_true : (a b : Bool) → a ≡ false → (not a && b) ≡ b
and_true true b e = cc
and_true false b e = refl

abbrev pub state : ChainState → KeptLink → Gathered
state chain link = record { chain = chain; link = link; refused = false }

-- What the commands hold doesn't depend on whether a growth was refused.
pub holds_alike : (front : List (List Page)) (pages : List Page) (g new : Gathered) (given : List Command) → new.chain ≡ g.chain → new.link ≡ g.link → HoldsSoFar front pages g given →
    HoldsSoFar front pages new given
holds_alike front pages g new given c l h = record {
  done = h.done;
  before = h.before;
  held = h.held;
  last = subst (λ (k : KeptLink). AllZip (KeepsUp pages) k.streams h.held) (sym l) h.last;
  order = subst (λ (k : KeptLink). map (λ (stream : KeptStream). stream.serial) k.streams ≡ serials_of pages) (sym l) h.order;
  some = subst (λ (k : KeptLink). k.begun ≡ true → has_some k.streams ≡ true) (sym l) h.some;
  out = subst (λ (k : KeptLink). after [] given ≡ cond k.begun (h.done ++ h.held ∷ []) h.done) (sym l) h.out;
  waiting = subst (λ (k : KeptLink). k.begun ≡ false → Waits pages new.chain k h.held) (sym l)
      (λ w. subst (λ (s : ChainState). Waits pages s g.link h.held) (sym c) (h.waiting w));
}

-- the same with nothing known of refused growths
pub as_state : (front : List (List Page)) (pages : List Page) (g : Gathered) (given : List Command) → HoldsSoFar front pages g given →
    HoldsSoFar front pages (state g.chain g.link) given
as_state front pages g given h = holds_alike front pages g (state g.chain g.link) given refl refl h

-- commands after those that were given
given_more : (given more : List Command) (r s : Recording) → after [] given ≡ r → after r more ≡ s → after [] (given ++ more) ≡ s
given_more given more r s e f = fold-append add [] given more ∙ ap (λ x. after x more) e ∙ f

bare_serials : (streams : List KeptStream) → serials (map bare streams) ≡ serials streams
bare_serials streams = map-map (λ (k : KeptStream). k.serial) bare streams

bare_zip : (pages : List Page) (streams : List KeptStream) (held : List Stream) → AllZip (KeepsUp pages) streams held → AllZip (KeepsUp pages) (map bare streams) held
bare_zip pages streams held z =
    zip_weaker (Marks pages) (KeepsUp pages) (KeepsUp pages) bare (λ k s m u. keeps_bare pages k s u) streams held (zip_all (KeepsUp pages) (Marks pages) (marks pages) streams held z) z

bare_some : (streams : List KeptStream) → has_some streams ≡ true → has_some (map bare streams) ≡ true
bare_some [] e = e
bare_some (k ∷ streams) e = some_is (bare k) (map bare streams)

module _ (front : List (List Page)) (pages : List Page) (page : Page) (link : KeptLink) (streams : List KeptStream) (later : List (List ℕ)) (given : List Command) (chain chain' : ChainState)
    (unmarked : is_first page ≡ false) (h : HoldsSoFar front pages (state chain link) given) (t : Taken page link streams pages h.held later) where
  abbrev held' : List Stream
  held' = map (grows page t.taken.takes.packets (is_last page)) h.held

  order' : serials streams ≡ serials_of (pages ++ page ∷ [])
  order' = taken_serials page link streams later t.taken ∙ h.order ∙ sym (serials_same pages (page ∷ []) (unmarked, tt))

  some' : has_some streams ≡ true
  some' = ap has_some t.taken.is ∙ has_more t.taken.front t.taken.changed t.taken.back

  -- the link was begun
  pub on_begun : link.begun ≡ true → HoldsSoFar front (pages ++ page ∷ []) (state chain' (record link { streams = streams })) (given ++ (put_of (map (entry_of page) later) ++ end_of page))
  on_begun begun =
      let all : later ≡ t.taken.takes.packets = t.taken.takes.others ∙ ap (λ b. drop (cond b 0 (lacking t.taken.stream.headers)) t.taken.takes.packets) begun in
      record {
        done = h.done;
        before = h.before;
        held = held';
        last = taken_last page link streams pages h.held later t;
        order = order';
        some = λ _. some';
        out =
            given_more given (put_of (map (entry_of page) later) ++ end_of page) (h.done ++ h.held ∷ []) (h.done ++ held' ∷ [])
            (h.out ∙ ap (λ b. cond b (h.done ++ h.held ∷ []) h.done) begun)
            (after_page h.done h.held page later ∙ ap (λ l. h.done ++ map (grows page l (is_last page)) h.held ∷ []) all)
            ∙ sym (ap (λ b. cond b (h.done ++ held' ∷ []) h.done) begun);
        waiting = λ e. absurd (false≢true (sym e ∙ begun));
      }

  -- the link begins now
  pub on_begin : link.begun ≡ false → HoldsSoFar front (pages ++ page ∷ []) (state chain' (begun_link (record link { streams = streams })))
      (given ++ (link_begin (record link { streams = streams }) ++ (put_of (map (entry_of page) later) ++ end_of page)))
  on_begin waits_is =
      let w : Waits pages chain link h.held = h.waiting waits_is in
      let middle : KeptLink = record link { streams = streams } in
      let rest : List Command = put_of (map (entry_of page) later) ++ end_of page in
      record {
        done = h.done;
        before = h.before;
        held = held';
        last = bare_zip (pages ++ page ∷ []) streams held' (taken_last page link streams pages h.held later t);
        order = bare_serials streams ∙ order';
        some = λ _. bare_some streams some';
        out =
            given_more given (link_begin middle ++ rest) h.done (h.done ++ held' ∷ [])
            (h.out ∙ ap (λ b. cond b (h.done ++ h.held ∷ []) h.done) waits_is)
            (fold-append add h.done (link_begin middle) rest
            ∙ ap (λ r. after r rest) (after_begin h.done middle)
            ∙ after_page h.done (map (begun_as link.ends) streams) page later
            ∙ ap (λ l. h.done ++ l ∷ []) (begun_same page link streams pages h.held later t waits_is w.ends w.kept));
        waiting = λ e. absurd (false≢true (sym e));
      }

  -- the link still waits
  pub on_waiting : link.begun ≡ false → later ≡ [] → is_ready streams ≡ false →
      HoldsSoFar front (pages ++ page ∷ []) (state chain' (record { streams = streams; begun = link.begun; ends = link.ends ++ ends_by page })) (given ++ [])
  on_waiting waits_is none unready =
      let w : Waits pages chain link h.held = h.waiting waits_is in
      record {
        done = h.done;
        before = h.before;
        held = held';
        last = taken_last page link streams pages h.held later t;
        order = order';
        some = λ _. some';
        out =
            ap (after []) (append-nil given) ∙ h.out ∙ ap (λ b. cond b (h.done ++ h.held ∷ []) h.done) waits_is
            ∙ sym (ap (λ b. cond b (h.done ++ held' ∷ []) h.done) waits_is);
        waiting = λ _. record {
          kept = kept_same page link streams pages h.held later t none w.kept;
          ends = ends_more pages page link.ends w.ends;
          each = taken_wanted page link streams later t.taken waits_is w.each;
          unready = λ _. unready;
        };
      }

-- a page that isn't its stream's first
pub follows_on : (front : List (List Page)) (pages : List Page) (page : Page) (link new : KeptLink) (given more : List Command) (chain chain' : ChainState) → is_first page ≡ false →
    IsDistinct nat_eq (serials_of pages) → HoldsSoFar front pages (state chain link) given → Follows page link new more → HoldsSoFar front (pages ++ page ∷ []) (state chain' new) (given ++ more)
follows_on front pages page link new given more chain chain' unmarked distinct h f =
    let k : TakenBy link.begun page link.streams f.streams f.later = f.taken in
    let middle : KeptLink = record link { streams = f.streams } in
    let own : IsDistinct nat_eq (serials (k.front ++ k.stream ∷ k.back)) = subst (λ (l : List ℕ). IsDistinct nat_eq l) (sym h.order ∙ ap serials k.was) distinct in
    let others : Others k.stream.serial k.front × Others k.stream.serial k.back = apart k.front k.stream k.back own in
    let t : Taken page link f.streams pages h.held f.later = record {
      taken = k;
      front = subst (λ s. Others s k.front) k.own others.0;
      back = subst (λ s. Others s k.back) k.own others.1;
      last = subst (λ (l : List KeptStream). AllZip (KeepsUp pages) l h.held) k.was h.last;
    } in
    let put : List Command = put_of (map (entry_of page) f.later) in
    let at : (b : Bool) → begins_now middle f.later ≡ b → (marked page (begun_if b middle) ≡ new) × (begin_if b middle ++ (put ++ page_end page (begun_if b middle)) ≡ more) =
    λ b e. (
      ap (λ x. marked page (begun_if x middle)) (sym e) ∙ sym f.passed.stays,
      ap (λ x. begin_if x middle ++ (put ++ page_end page (begun_if x middle))) (sym e) ∙ sym f.passed.commands,
    ) in
    elim (cases_Bool link.begun) [
      | inl begun ↦
          (let is = at false (ap (λ b. not b && (has_some f.later || is_ready f.streams)) begun) in
          moved middle new (put ++ end_of page) more
          (sym (ap (λ b. cond b middle (record middle { ends = link.ends ++ ends_by page })) begun) ∙ is.0)
          (sym (ap (λ b. put ++ cond b (end_of page) []) begun) ∙ is.1)
          (on_begun front pages page link f.streams f.later given chain chain' unmarked h t begun))
      | inr waits_is ↦
          elim (cases_Bool (has_some f.later || is_ready f.streams)) [
            | inl now ↦
                (let is = at true (and_true link.begun (has_some f.later || is_ready f.streams) waits_is ∙ now) in
                moved (begun_link middle) new (link_begin middle ++ (put ++ end_of page)) more is.0 is.1
                (on_begin front pages page link f.streams f.later given chain chain' unmarked h t waits_is))
            | inr wait ↦
                (let is = at false (and_true link.begun (has_some f.later || is_ready f.streams) waits_is ∙ wait) in
                let parts : (has_some f.later ≡ false) × (is_ready f.streams ≡ false) = or_parts (has_some f.later) (is_ready f.streams) wait in
                let none : f.later ≡ [] = nothing_in f.later parts.0 in
                moved (record { streams = f.streams; begun = link.begun; ends = link.ends ++ ends_by page }) new [] more
                (sym (ap (λ b. cond b middle (record middle { ends = link.ends ++ ends_by page })) waits_is) ∙ is.0)
                (sym (ap (λ b. put ++ cond b (end_of page) []) waits_is ∙ append-nil put ∙ ap (λ l. put_of (map (entry_of page) l)) none) ∙ is.1)
                (on_waiting front pages page link f.streams f.later given chain chain' unmarked h t waits_is none parts.1))
          ]
    ]
  where
    moved : (link new : KeptLink) (commands more : List Command) → link ≡ new → commands ≡ more → HoldsSoFar front (pages ++ page ∷ []) (state chain' link) (given ++ commands) →
        HoldsSoFar front (pages ++ page ∷ []) (state chain' new) (given ++ more)
    moved link new commands more a b p =
        subst (λ (l : List Command). HoldsSoFar front (pages ++ page ∷ []) (state chain' new) (given ++ l)) b
        (subst (λ (l : KeptLink). HoldsSoFar front (pages ++ page ∷ []) (state chain' l) (given ++ commands)) a p)

-- ---- a stream's first page
first_wanted : (page : Page) → AreWanted (page.body ∷ [])
first_wanted page = record { some = lit; few = one_wanted page.body }
  where
    lit : 0 < length (page.body ∷ [])
    lit = omega arith

-- the first page of another stream
pub joins_on : (front : List (List Page)) (pages : List Page) (page : Page) (link : KeptLink) (given : List Command) (chain chain' : ChainState) → IsPage page → is_first page ≡ true → is_whole_packet page ≡ true →
    pages_with page.serial pages ≡ [] → Others page.serial link.streams → link.begun ≡ false → chain'.has_data ≡ false → HoldsSoFar front pages (state chain link) given →
    HoldsSoFar front (pages ++ page ∷ []) (state chain' (with_first page link)) (given ++ [])
joins_on front pages page link given chain chain' is first whole none others waits_is bare_is h =
    let w : Waits pages chain link h.held = h.waiting waits_is in
    let held : List Stream = h.held ++ begun_by page ∷ [] in
    record {
      done = h.done;
      before = h.before;
      held = held;
      last =
          zip_push (KeepsUp (pages ++ page ∷ [])) link.streams h.held (entered page) (begun_by page)
          (subst (λ (l : List KeptStream). AllZip (KeepsUp (pages ++ page ∷ [])) l h.held) (map_self link.streams)
          (zip_weaker (λ (k : KeptStream). nat_eq k.serial page.serial ≡ false) (KeepsUp pages) (KeepsUp (pages ++ page ∷ [])) (λ k. k)
          (λ k s other u. keeps_other pages page k s other u) link.streams h.held others h.last))
          (keeps_first pages page is whole none);
      order = map-append (λ (k : KeptStream). k.serial) link.streams (entered page ∷ []) ∙ ap (λ l. l ++ page.serial ∷ []) h.order
          ∙ sym (serials_both pages (page ∷ []) ∙ ap (λ l. serials_of pages ++ l) (one_serial page first));
      some = λ _. has_more link.streams (entered page) [];
      out =
          ap (after []) (append-nil given) ∙ h.out ∙ ap (λ b. cond b (h.done ++ h.held ∷ []) h.done) waits_is
          ∙ sym (ap (λ b. cond b (h.done ++ held ∷ []) h.done) waits_is);
      waiting = λ _. record {
        kept = ap (λ l. l ++ begun_by page ∷ []) w.kept ∙ sym (map-append held_back link.streams (entered page ∷ []));
        ends = ends_more pages page link.ends w.ends;
        each = each_push (λ (k : KeptStream). AreWanted k.headers) link.streams (entered page) w.each (first_wanted page);
        unready = λ e. absurd (false≢true (sym bare_is ∙ e));
      };
    }
  where
    map_self : {A : Type 0} (l : List A) → map (λ x. x) l ≡ l
    map_self [] = refl
    map_self (x ∷ l) = ap (λ m. x ∷ m) (map_self l)

    each_push : {A : Type 0} (P : A → Type 0) (l : List A) (x : A) → AllByRecursion P l → P x → AllByRecursion P (l ++ x ∷ [])
    each_push P [] x all p = (p, tt)
    each_push P (y ∷ l) x all p = (all.0, each_push P l x all.1 p)

-- the last link has no pages yet
pub no_pages_yet : (front : List (List Page)) (done : Recording) (given : List Command) (chain : ChainState) → chain.has_data ≡ false → HoldsLinks front done → after [] given ≡ done → HoldsSoFar front [] (state chain no_link) given
no_pages_yet front done given chain bare_is h e = record {
  done = done;
  before = h;
  held = [];
  last = tt;
  order = refl;
  some = λ b. absurd (false≢true b);
  out = e;
  waiting = λ _. record { kept = refl; ends = λ serial. refl; each = tt; unready = λ d. absurd (false≢true (sym bare_is ∙ d)) };
}

-- ---- what waited is given
pub gives_on : (front : List (List Page)) (pages : List Page) (link : KeptLink) (given : List Command) (chain : ChainState) → HoldsSoFar front pages (state chain link) given →
    HoldsSoFar front pages (state chain (begun_if (waits link) link)) (given ++ begin_if (waits link) link)
gives_on front pages link given chain h =
    elim (cases_Bool (waits link)) [
      | inl now ↦ at true now (given_now now)
      | inr wait ↦ at false wait (subst (λ (l : List Command). HoldsSoFar front pages (state chain link) l) (sym (append-nil given)) h)
    ]
  where
    at : (b : Bool) → waits link ≡ b → HoldsSoFar front pages (state chain (begun_if b link)) (given ++ begin_if b link) →
        HoldsSoFar front pages (state chain (begun_if (waits link) link)) (given ++ begin_if (waits link) link)
    at b e p = subst (λ (x : Bool). HoldsSoFar front pages (state chain (begun_if x link)) (given ++ begin_if x link)) (sym e) p

    parts : (a b : Bool) → (not a && b) ≡ true → (a ≡ false) × (b ≡ true)
    parts true b e = cc
    parts false b e = (refl, e)

    given_now : waits link ≡ true → HoldsSoFar front pages (state chain (begun_link link)) (given ++ link_begin link)
    given_now e =
        let both : (link.begun ≡ false) × (has_some link.streams ≡ true) = parts link.begun (has_some link.streams) e in
        let w : Waits pages chain link h.held = h.waiting both.0 in
        record {
          done = h.done;
          before = h.before;
          held = h.held;
          last = bare_zip pages link.streams h.held h.last;
          order = bare_serials link.streams ∙ h.order;
          some = λ _. bare_some link.streams both.1;
          out =
              given_more given (link_begin link) h.done (h.done ++ h.held ∷ []) (h.out ∙ ap (λ b. cond b (h.done ++ h.held ∷ []) h.done) both.0)
              (after_begin h.done link
              ∙ ap (λ l. h.done ++ l ∷ [])
              (map_each (Marks pages) (begun_as link.ends) held_back link.streams (zip_all (KeepsUp pages) (Marks pages) (marks pages) link.streams h.held h.last)
              (λ k m. ap (stream_of k.serial k.headers) (w.ends k.serial ∙ sym m))
              ∙ sym w.kept));
          waiting = λ b. absurd (false≢true (sym b));
        }
