-- What each step of a mended feed leaves.
use Rattle.std.proofs.Common.{◌≡◌, ℕ, ◌+◌, Bool, true, false, if◌then◌else◌, Option, Ok, Err, List, [], ◌∷◌, ◌++◌, length, refl, sym, ◌∙◌, ap, subst, arith, append-nil, length-append}
use Rattle.std.specs.Prelude.{OnOk, Result, ◌-◌, ◌^◌, min, IfOk, IfErr}
use Rattle.std.specs.List.{AllByRecursion, filter, flat_map}
use Rattle.std.specs.Io.KnownBytes.{Appends}
use Rattle.std.proofs.lemmas.List.Concat.{flat_map-append}
use Rattle.ogg_page.specs.Output.{WritesPrefix}
use Rattle.ogg_page.specs.Laws.PageBytes.{all_both}
use Rattle.ogg_command.specs.declared.command.Command.{Command}
use Rattle.import_gather.specs.Gathered.{Gathered}
use Rattle.import_mend.specs.Gives.{GivesEnd, Mending as Mended, mend_at_end}
use Rattle.import_mend.specs.Importing.{mending_of}
use Rattle.import_mend.specs.Whole.{IsStart}
use Rattle.import_mend.specs.declared.mend.Mend.{Mend}
use Rattle.import_mend.specs.declared.import.Import.{Import}
use Rattle.import_mend.specs.declared.import.Step.{Step}
use Rattle.import_changes.specs.Changed.{ChangeState, HasChanged, IsPlain}
use Rattle.import_changes.specs.declared.options.ChangeOptions.{ChangeOptions}
use Rattle.feed_records.specs.Record.{announcement}
use Rattle.import_feed.specs.Feed.{Fits, GivesNot, feed_of, records_of}
use Rattle.import_feed.specs.Mending.{AreJoined, AreSteps, AreTold, BreaksMended, ClosesMended, ClosesWell, EndsMended, FinishesMended, GivesMended, GivesMendedNot, GivesNoMore}
use Rattle.import_feed.specs.Mending.{HasMended, HaveEnded, ImportStep, IsChangedAs, IsImportStep, IsMendedFeed, IsMendingStart, IsNextFault, MendsFeed, StillMends, StopsMended}
use Rattle.import_feed.specs.Mending.{StopsReading, TakesAllMended, TakesStep, Telling, TurnsMended, begun_in, commands_of, has_page, mended_by, told_by, told_of}
use Rattle.import_feed.specs.Turn.{of_input}
use Rattle.import_feed.specs.declared.made.Made.{Made}
use Rattle.import_feed.specs.declared.mending.Mending.{Mending}
use Rattle.import_feed.specs.declared.fault.MakingFault.{MakingFault}
use Rattle.import_feed.specs.declared.fault.MakingFault.TheVariants.{Page, Chain, PacketTooLong, Unfinished, TooLong, Read, Limit, Write, Memory}
use Rattle.import_feed.proofs.Lists.{counted_on, later_of}
use Rattle.import_feed.proofs.Plain.{EndsArePlain, PagesArePlain, PagesHaveLinks, end_plain, steps_plain}
use Rattle.import_feed.proofs.Turns.{none_prefix, not_given, prefix_written, whole_prefix, written_more}

-- ---- lists
pub told_on : {M : Type 0} (tells : M → Telling → M → Type 0) (xs ys : List Telling) (a b c : M) → AreTold tells a xs b → AreTold tells b ys c
    → AreTold tells a (xs ++ ys) c
told_on tells [] ys a b c first second = subst (λ m. AreTold tells m ys c) first second
told_on tells (x ∷ xs) ys a b c (mid, tell, first) second = (mid, tell, told_on tells xs ys mid b c first second)

steps_on : (first last after : Import) (steps : List ImportStep) (s : ImportStep) → AreSteps first steps last → s.old ≡ last → IsImportStep s
    → s.new ≡ after → AreSteps first (steps ++ s ∷ []) after
steps_on first last after [] s are old is new = (old ∙ are, is, sym new)
steps_on first last after (t ∷ steps) s (o, i, are) old is new = (o, i, steps_on t.new last after steps s are old is new)

joined_of : (first last : Import) (steps : List ImportStep) → AreSteps first steps last → AreJoined steps
joined_of first last [] are = tt
joined_of first last (s ∷ []) (old, is, are) = is
joined_of first last (s ∷ next ∷ steps) (old, is, are) = (is, are.0, joined_of s.new last (next ∷ steps) are)

push_of : {X : Type 0} (f : ImportStep → List X) (steps : List ImportStep) (s : ImportStep) → flat_map f (steps ++ s ∷ []) ≡ flat_map f steps ++ f s
push_of f steps s = flat_map-append f steps (s ∷ []) ∙ ap (λ l. flat_map f steps ++ l) (append-nil (f s))

abbrev one_if : Bool → ℕ
one_if b = if b then 1 else 0

pub count_push : (steps : List ImportStep) (s : ImportStep)
    → length (filter has_page (steps ++ s ∷ [])) ≡ length (filter has_page steps) + one_if (has_page s)
count_push [] s = by (has_page s)
  where
    by : (b : Bool) → length (if b then s ∷ [] else []) ≡ 0 + one_if b
    by true = refl
    by false = refl
count_push (t ∷ steps) s = by (has_page t) (count_push steps s)
  where
    by : (b : Bool) → length (filter has_page (steps ++ s ∷ [])) ≡ length (filter has_page steps) + one_if (has_page s)
        → length (if b then t ∷ filter has_page (steps ++ s ∷ []) else filter has_page (steps ++ s ∷ []))
        ≡ length (if b then t ∷ filter has_page steps else filter has_page steps) + one_if (has_page s)
    by true rest = omega (arith, rest)
    by false rest = rest

-- ---- counts
none_more : (all before more : ℕ) → all ≡ before + more → more ≡ 0 → all ≡ before
none_more all before more adds none = omega (arith, adds, none)

-- ---- a step
-- the same of a state whose changes and counts are the same
moved : {M : Type 0} (tells : M → Telling → M → Type 0) (options : ChangeOptions) (before now : Option (List ℕ)) (unaware aware : M) (last : Import)
    (old new : Mending) (steps : List ImportStep) (given : List Command) → HasMended tells options before now unaware aware last old steps given
    → mending_of new.import ≡ mending_of old.import → new.changes ≡ old.changes → new.made ≡ old.made
    → HasMended tells options before now unaware aware last new steps given
moved tells options before now unaware aware last old new steps given has import changes made = record {
  first = has.first;
  start = has.start;
  reached = import ∙ has.reached;
  are = has.are;
  told = has.told;
  changed = subst (λ (s : ChangeState). HasChanged s (commands_of steps) given) (sym changes) has.changed;
  asked = ap (λ (s : ChangeState). s.options) changes ∙ has.asked;
  fits = has.fits;
  written = has.written;
  pages = ap (λ (m : Made). m.pages) made ∙ has.pages;
  counted = ap (λ (m : Made). m.commands) made ∙ has.counted;
}

-- what the commands so far and these became
changed_on : {M : Type 0} (tells : M → Telling → M → Type 0) (options : ChangeOptions) (before now : Option (List ℕ)) (unaware aware : M) (last : Import)
    (old : Mending) (mid state : ChangeState) (steps : List ImportStep) (given commands more : List Command)
    → HasMended tells options before now unaware aware last old steps given → mid ≡ old.changes
    → ((earlier given : List Command) → HasChanged mid earlier given → AllByRecursion IsPlain commands
    → HasChanged state (earlier ++ commands) (given ++ more))
    → AllByRecursion IsPlain commands → HasChanged state (commands_of steps ++ commands) (given ++ more)
changed_on tells options before now unaware aware last old mid state steps given commands more has same changes plain =
    changes (commands_of steps) given (subst (λ (s : ChangeState). HasChanged s (commands_of steps) given) (sym same) has.changed) plain

abbrev pub step_of : Mending → Mending → Step → List Command → ImportStep
step_of old mid step commands = record { old = old.import; new = mid.import; step = step; commands = commands }

-- its commands begin links without a Skeleton
pub step_plain : {M : Type 0} (tells : M → Telling → M → Type 0) (options : ChangeOptions) (before now : Option (List ℕ)) (unaware aware : M)
    (old mid : Mending) (step : Step) (commands : List Command) → PagesArePlain
    → StillMends tells options before now unaware aware old.import old → TakesStep old mid step commands → AllByRecursion IsPlain commands
step_plain tells options before now unaware aware old mid step commands law still t =
    let steps : List ImportStep = still.steps in
    let s : ImportStep = step_of old mid step commands in
    later_of IsPlain (commands_of steps) commands
    (subst (AllByRecursion IsPlain) (push_of (λ (s : ImportStep). s.commands) steps s)
    (steps_plain law still.has.first mid.import (steps ++ s ∷ []) still.has.start
    (steps_on still.has.first old.import mid.import steps s still.has.are refl t.is refl)))

-- so do those of the end
pub rest_plain : {M : Type 0} (tells : M → Telling → M → Type 0) (options : ChangeOptions) (before now : Option (List ℕ)) (unaware aware : M)
    (last : Import) (old : Mending) (closed : Gathered) (commands : List Command) → PagesHaveLinks → EndsArePlain
    → StillMends tells options before now unaware aware last old → GivesEnd old.import.gatherer closed commands → AllByRecursion IsPlain commands
rest_plain tells options before now unaware aware last old closed commands has law still ends =
    end_plain has law still.has.first last old.import closed still.steps commands still.has.start still.has.are still.has.reached ends

pub turn_mended : {M : Type 0} (tells : M → Telling → M → Type 0) (options : ChangeOptions) (before now0 now1 : Option (List ℕ)) (unaware aware0 aware1 : M)
    (old mid after new : Mending) (step : Step) (commands : List Command)
    → (still : StillMends tells options before now0 unaware aware0 old.import old) → TakesStep old mid step commands → AllByRecursion IsPlain commands
    → AreTold tells aware0 (mended_by step.junk ++ (mended_by step.mend ++ begun_in commands)) aware1
    → GivesMended mid after commands now0 now1 → new.import ≡ after.import → new.changes ≡ after.changes → new.made.commands ≡ after.made.commands
    → new.made.pages ≡ min (length (filter has_page (still.steps ++ step_of old mid step commands ∷ []))) (2 ^ 64 - 1)
    → (next : StillMends tells options before now1 unaware aware1 new.import new) × (next.steps ≡ still.steps ++ step_of old mid step commands ∷ [])
turn_mended tells options before now0 now1 unaware aware0 aware1 old mid after new step commands still t plain told g import changes count pages =
    let steps : List ImportStep = still.steps in
    let given : List Command = still.given in
    let has : HasMended tells options before now0 unaware aware0 old.import old steps given = still.has in
    let s : ImportStep = step_of old mid step commands in
    let more : List Command = g.more in (
      record {
        steps = steps ++ s ∷ [];
        given = given ++ more;
        has = record {
          first = has.first;
          start = has.start;
          reached = refl;
          are = steps_on has.first old.import new.import steps s has.are refl t.is (sym (import ∙ g.import));
          told = subst (λ l. AreTold tells unaware l aware1) (sym (push_of told_of steps s))
              (told_on tells (told_by steps) (told_of s) unaware aware0 aware1 has.told told);
          changed = subst (λ c. HasChanged new.changes c (given ++ more)) (sym (push_of (λ (s : ImportStep). s.commands) steps s))
              (subst (λ (q : ChangeState). HasChanged q (commands_of steps ++ commands) (given ++ more)) (sym changes)
              (changed_on tells options before now0 unaware aware0 old.import old mid.changes after.changes steps given commands more has t.changes g.changed plain));
          asked = ap (λ (q : ChangeState). q.options) changes ∙ g.options ∙ ap (λ (q : ChangeState). q.options) t.changes ∙ has.asked;
          fits = all_both Fits given more has.fits g.fits;
          written = written_more before now0 now1 given more has.written g.written;
          pages = pages;
          counted = count ∙ counted_on (2 ^ 64 - 1) after.made.commands mid.made.commands (length more) (length given) (length (given ++ more)) g.counted
              (ap (λ (m : Made). m.commands) t.made ∙ has.counted) (length-append given more);
        };
      },
      refl,
    )

-- ---- why no step is taken, or nothing more is written
nothing_more : (commands : List Command) (P : List Command → Type 0) → P commands → P (commands ++ [])
nothing_more commands P p = subst P (sym (append-nil commands)) p

pub stops_here : {M : Type 0} (tells : M → Telling → M → Type 0) (options : ChangeOptions) (before now0 now1 : Option (List ℕ)) (unaware aware0 aware1 : M)
    (last : Import) (old : Mending) (told : List Telling) → (still : StillMends tells options before now0 unaware aware0 last old) → now1 ≡ now0
    → AreTold tells aware0 told aware1
    → BreaksMended tells options before now1 unaware aware1 still.given
stops_here tells options before now0 now1 unaware aware0 aware1 last old told still same telling =
    let has : HasMended tells options before now0 unaware aware0 last old still.steps still.given = still.has in
    record {
      steps = still.steps;
      joined = joined_of has.first last still.steps has.are;
      rest = [];
      told = told_by still.steps ++ told;
      are_told = told_on tells (told_by still.steps) told unaware aware0 aware1 has.told telling;
      changed = nothing_more (commands_of still.steps) (λ c. IsChangedAs options c still.given) (record {
        state = old.changes;
        changed = has.changed;
        asked = has.asked;
      });
      written = whole_prefix before now1 (feed_of still.given) (subst (λ n. Appends before n (feed_of still.given)) (sym same) has.written);
    }

breaks_on : {M : Type 0} (tells : M → Telling → M → Type 0) (options : ChangeOptions) (fault : MakingFault) (before now0 now1 : Option (List ℕ)) (unaware aware0 aware1 : M)
    (last : Import) (old mid : Mending) (told : List Telling) (commands : List Command)
    → (still : StillMends tells options before now0 unaware aware0 last old) → mid.changes ≡ old.changes → AreTold tells aware0 told aware1
    → AllByRecursion IsPlain commands → (n : GivesMendedNot mid commands now0 now1 fault) → BreaksMended tells options before now1 unaware aware1 (still.given ++ n.more)
breaks_on tells options fault before now0 now1 unaware aware0 aware1 last old mid told commands still same telling plain n =
    let has : HasMended tells options before now0 unaware aware0 last old still.steps still.given = still.has in
    record {
      steps = still.steps;
      joined = joined_of has.first last still.steps has.are;
      rest = commands;
      told = told_by still.steps ++ told;
      are_told = told_on tells (told_by still.steps) told unaware aware0 aware1 has.told telling;
      changed = record {
        state = n.state;
        changed = changed_on tells options before now0 unaware aware0 last old mid.changes n.state still.steps still.given commands n.more has same n.changed plain;
        asked = n.options ∙ ap (λ (q : ChangeState). q.options) same ∙ has.asked;
      };
      written = prefix_written before now0 now1 still.given n.more has.written (not_given now0 now1 (records_of n.more) n.more fault n.not);
    }

pub stops_giving : {M : Type 0} (tells : M → Telling → M → Type 0) (options : ChangeOptions) (fault : MakingFault) (before now0 now1 : Option (List ℕ)) (unaware aware0 aware1 : M)
    (last : Import) (old mid : Mending) (told : List Telling) (commands : List Command)
    → StillMends tells options before now0 unaware aware0 last old → mid.changes ≡ old.changes → AreTold tells aware0 told aware1
    → AllByRecursion IsPlain commands → GivesNoMore mid commands now0 now1 fault → StopsMended tells options fault before now1 unaware aware1
stops_giving tells options Limit before now0 now1 unaware aware0 aware1 last old mid told commands still same telling plain n = (
  still.given ++ n.more,
  breaks_on tells options Limit before now0 now1 unaware aware0 aware1 last old mid told commands still same telling plain n,
  λ all. n.not.1 (later_of Fits still.given n.more all),
)
stops_giving tells options Write before now0 now1 unaware aware0 aware1 last old mid told commands still same telling plain n =
    (still.given ++ n.more, breaks_on tells options Write before now0 now1 unaware aware0 aware1 last old mid told commands still same telling plain n)
stops_giving tells options Memory before now0 now1 unaware aware0 aware1 last old mid told commands still same telling plain n =
    (still.given, stops_here tells options before now0 now1 unaware aware0 aware1 last old told still n telling)
stops_giving tells options (Page at fault) before now0 now1 unaware aware0 aware1 last old mid told commands still same telling plain n = absurd n
stops_giving tells options (Chain at fault) before now0 now1 unaware aware0 aware1 last old mid told commands still same telling plain n = absurd n
stops_giving tells options (PacketTooLong at) before now0 now1 unaware aware0 aware1 last old mid told commands still same telling plain n = absurd n
stops_giving tells options (Unfinished at serial) before now0 now1 unaware aware0 aware1 last old mid told commands still same telling plain n = absurd n
stops_giving tells options (TooLong at) before now0 now1 unaware aware0 aware1 last old mid told commands still same telling plain n = absurd n
stops_giving tells options (Read at) before now0 now1 unaware aware0 aware1 last old mid told commands still same telling plain n = absurd n

pub turn_stops : {M : Type 0} (tells : M → Telling → M → Type 0) (options : ChangeOptions) (fault : MakingFault) (before now0 now1 : Option (List ℕ)) (unaware aware0 aware1 : M)
    (old mid new : Mending) (told : List Telling) (commands : List Command)
    → StillMends tells options before now0 unaware aware0 old.import old → mid.changes ≡ old.changes → AreTold tells aware0 told aware1
    → AllByRecursion IsPlain commands → GivesNoMore mid commands now0 now1 fault → TurnsMended tells options (Err fault) before now1 unaware aware1 new
turn_stops tells options Limit before now0 now1 unaware aware0 aware1 old mid new told commands still same telling plain n =
    stops_giving tells options Limit before now0 now1 unaware aware0 aware1 old.import old mid told commands still same telling plain n
turn_stops tells options Write before now0 now1 unaware aware0 aware1 old mid new told commands still same telling plain n =
    stops_giving tells options Write before now0 now1 unaware aware0 aware1 old.import old mid told commands still same telling plain n
turn_stops tells options Memory before now0 now1 unaware aware0 aware1 old mid new told commands still same telling plain n =
    stops_giving tells options Memory before now0 now1 unaware aware0 aware1 old.import old mid told commands still same telling plain n
turn_stops tells options (Page at fault) before now0 now1 unaware aware0 aware1 old mid new told commands still same telling plain n = absurd n
turn_stops tells options (Chain at fault) before now0 now1 unaware aware0 aware1 old mid new told commands still same telling plain n = absurd n
turn_stops tells options (PacketTooLong at) before now0 now1 unaware aware0 aware1 old mid new told commands still same telling plain n = absurd n
turn_stops tells options (Unfinished at serial) before now0 now1 unaware aware0 aware1 old mid new told commands still same telling plain n = absurd n
turn_stops tells options (TooLong at) before now0 now1 unaware aware0 aware1 old mid new told commands still same telling plain n = absurd n
turn_stops tells options (Read at) before now0 now1 unaware aware0 aware1 old mid new told commands still same telling plain n = absurd n

pub next_fails : {M : Type 0} (tells : M → Telling → M → Type 0) (options : ChangeOptions) (fault : MakingFault) (before now : Option (List ℕ)) (unaware aware : M)
    (old new : Mending) → StillMends tells options before now unaware aware old.import old → IsNextFault fault old.import new.import → new.changes ≡ old.changes → new.made ≡ old.made
    → TurnsMended tells options (Err fault) before now unaware aware new
next_fails tells options (Read at) before now unaware aware old new still is changes made = record {
  last = old.import;
  still = record {
    steps = still.steps;
    given = still.given;
    has = moved tells options before now unaware aware old.import old new still.steps still.given still.has is changes made;
  };
}
next_fails tells options Memory before now unaware aware old new still is changes made =
    (still.given, stops_here tells options before now now unaware aware aware old.import old [] still refl refl)
next_fails tells options (Page at fault) before now unaware aware old new still is changes made = absurd is
next_fails tells options (Chain at fault) before now unaware aware old new still is changes made = absurd is
next_fails tells options (PacketTooLong at) before now unaware aware old new still is changes made = absurd is
next_fails tells options (Unfinished at serial) before now unaware aware old new still is changes made = absurd is
next_fails tells options (TooLong at) before now unaware aware old new still is changes made = absurd is
next_fails tells options Limit before now unaware aware old new still is changes made = absurd is
next_fails tells options Write before now unaware aware old new still is changes made = absurd is

-- ---- the end
pub closes_well : {M : Type 0} (tells : M → Telling → M → Type 0) (options : ChangeOptions) (before now0 now1 : Option (List ℕ)) (unaware aware0 aware1 : M)
    (last : Import) (old mid new : Mending) (mend : Option Mend) (commands : List Command) (offset : ℕ) (closed : Gathered)
    → (still : StillMends tells options before now0 unaware aware0 last old) → mid.changes ≡ old.changes → mid.made ≡ old.made
    → AreTold tells aware0 (mended_by mend ++ begun_in commands) aware1 → mend ≡ mend_at_end offset old.import.gatherer.chain
    → GivesEnd old.import.gatherer closed commands → AllByRecursion IsPlain commands → GivesMended mid new commands now0 now1
    → ClosesWell tells options before now1 unaware aware1 still.steps old new
closes_well tells options before now0 now1 unaware aware0 aware1 last old mid new mend commands offset closed still changes made telling mended ends plain g =
    let has : HasMended tells options before now0 unaware aware0 last old still.steps still.given = still.has in
    record {
      feed = record {
        steps = still.steps;
        first = has.first;
        last = last;
        start = has.start;
        are = has.are;
        end = mend;
        rest = commands;
        offset = offset;
        end_is = mended ∙ ap (λ (m : Mended). mend_at_end offset m.gathered.chain) has.reached;
        closed = closed;
        ends = subst (λ (m : Mended). GivesEnd m.gathered closed commands) has.reached ends;
        told = told_on tells (told_by still.steps) (mended_by mend ++ begun_in commands) unaware aware0 aware1 has.told telling;
        given = still.given ++ g.more;
        changed = record {
          state = new.changes;
          changed = changed_on tells options before now0 unaware aware0 last old mid.changes new.changes still.steps still.given commands g.more has changes g.changed plain;
          asked = g.options ∙ ap (λ (q : ChangeState). q.options) changes ∙ has.asked;
        };
        fits = all_both Fits still.given g.more has.fits g.fits;
        written = written_more before now0 now1 still.given g.more has.written g.written;
      };
      steps_are = refl;
      page_count = g.page_count ∙ ap (λ (m : Made). m.pages) made;
      counted = counted_on (2 ^ 64 - 1) new.made.commands mid.made.commands (length g.more) (length still.given) (length (still.given ++ g.more)) g.counted
          (ap (λ (m : Made). m.commands) made ∙ has.counted) (length-append still.given g.more);
    }

pub mended_whole : {M : Type 0} (tells : M → Telling → M → Type 0) (options : ChangeOptions) (before now0 now1 : Option (List ℕ)) (unaware aware0 aware1 : M)
    (old new : Mending) → (ends : EndsMended tells options before now0 unaware aware0 old.import old)
    → ClosesWell tells options before now1 unaware aware1 ends.still.steps old new → MendsFeed tells options before now1 unaware aware1 new.made
mended_whole tells options before now0 now1 unaware aware0 aware1 old new ends closes = record {
  feed = closes.feed;
  ended = subst HaveEnded (sym closes.steps_are) ends.ended;
  pages = closes.page_count ∙ ends.still.has.pages ∙ ap (λ s. min (length (filter has_page s)) (2 ^ 64 - 1)) (sym closes.steps_are);
  counted = closes.counted;
}

pub ends_reading : {M : Type 0} (tells : M → Telling → M → Type 0) (options : ChangeOptions) (fault : MakingFault) (before now : Option (List ℕ)) (unaware aware : M)
    (mending : Mending) → of_input fault ≡ true → TakesAllMended tells options (Err fault) before now unaware aware mending
    → StopsReading tells options before now unaware aware mending
ends_reading tells options (Read at) before now unaware aware mending is stops = stops
ends_reading tells options (TooLong at) before now unaware aware mending is stops = stops
ends_reading tells options (Page at fault) before now unaware aware mending is stops = absurd stops
ends_reading tells options (Chain at fault) before now unaware aware mending is stops = absurd stops
ends_reading tells options (PacketTooLong at) before now unaware aware mending is stops = absurd stops
ends_reading tells options (Unfinished at serial) before now unaware aware mending is stops = absurd stops
ends_reading tells options Limit before now unaware aware mending is stops = cc
ends_reading tells options Write before now unaware aware mending is stops = cc
ends_reading tells options Memory before now unaware aware mending is stops = cc

pub read_stops : {M : Type 0} (tells : M → Telling → M → Type 0) (options : ChangeOptions) (fault : MakingFault) (before now0 now1 : Option (List ℕ)) (unaware aware0 aware1 : M)
    (mending : Mending) → of_input fault ≡ true → TakesAllMended tells options (Err fault) before now0 unaware aware0 mending
    → IsMendedFeed tells options before now1 unaware aware1 → StopsMended tells options fault before now1 unaware aware1
read_stops tells options (Read at) before now0 now1 unaware aware0 aware1 mending is stops feed = feed
read_stops tells options (TooLong at) before now0 now1 unaware aware0 aware1 mending is stops feed = feed
read_stops tells options (Page at fault) before now0 now1 unaware aware0 aware1 mending is stops feed = absurd stops
read_stops tells options (Chain at fault) before now0 now1 unaware aware0 aware1 mending is stops feed = absurd stops
read_stops tells options (PacketTooLong at) before now0 now1 unaware aware0 aware1 mending is stops feed = absurd stops
read_stops tells options (Unfinished at serial) before now0 now1 unaware aware0 aware1 mending is stops feed = absurd stops
read_stops tells options Limit before now0 now1 unaware aware0 aware1 mending is stops feed = cc
read_stops tells options Write before now0 now1 unaware aware0 aware1 mending is stops feed = cc
read_stops tells options Memory before now0 now1 unaware aware0 aware1 mending is stops feed = cc

-- ---- which turn it was
pub mended_true : {M : Type 0} (tells : M → Telling → M → Type 0) (options : ChangeOptions) (b : Bool) (before now : Option (List ℕ)) (unaware aware : M)
    (mending : Mending) → b ≡ true → TurnsMended tells options (Ok b) before now unaware aware mending
    → StillMends tells options before now unaware aware mending.import mending
mended_true tells options true before now unaware aware mending is turns = turns
mended_true tells options false before now unaware aware mending is turns = cc

pub mended_false : {M : Type 0} (tells : M → Telling → M → Type 0) (options : ChangeOptions) (b : Bool) (before now : Option (List ℕ)) (unaware aware : M)
    (mending : Mending) → b ≡ false → TurnsMended tells options (Ok b) before now unaware aware mending
    → EndsMended tells options before now unaware aware mending.import mending
mended_false tells options false before now unaware aware mending is turns = turns
mended_false tells options true before now unaware aware mending is turns = cc

-- ---- the beginning
pub starts_mended : {M : Type 0} (tells : M → Telling → M → Type 0) (options : ChangeOptions) (before now : Option (List ℕ)) (mends : M) (start new : Mending)
    → IsMendingStart options start → new.import ≡ start.import → new.changes ≡ start.changes → new.made ≡ start.made → Appends before now announcement
    → StillMends tells options before now mends mends new.import new
starts_mended tells options before now mends start new is import changes made written = record {
  steps = [];
  given = [];
  has = record {
    first = new.import;
    start = subst (λ (i : Import). IsStart (mending_of i)) (sym import) is.start;
    reached = refl;
    are = refl;
    told = refl;
    changed = subst (λ (q : ChangeState). HasChanged q [] []) (sym changes) is.changed;
    asked = ap (λ (q : ChangeState). q.options) changes ∙ is.asked;
    fits = tt;
    written = subst (Appends before now) (sym (append-nil announcement)) written;
    pages = ap (λ (m : Made). m.pages) made ∙ is.no_pages;
    counted = ap (λ (m : Made). m.commands) made ∙ is.no_commands;
  };
}

pub no_feed : {M : Type 0} (tells : M → Telling → M → Type 0) (options : ChangeOptions) (before now : Option (List ℕ)) (mends : M) → IsChangedAs options [] []
    → WritesPrefix before now announcement → BreaksMended tells options before now mends mends []
no_feed tells options before now mends changed written = record {
  steps = [];
  joined = tt;
  rest = [];
  told = [];
  are_told = refl;
  changed = changed;
  written = subst (WritesPrefix before now) (sym (append-nil announcement)) written;
}

pub no_announcement : {M : Type 0} (tells : M → Telling → M → Type 0) (options : ChangeOptions) (fault : MakingFault) (before now : Option (List ℕ)) (mends : M)
    → IsChangedAs options [] [] → GivesNot before now announcement [] fault → StopsMended tells options fault before now mends mends
no_announcement tells options Limit before now mends changed (same, long) = absurd (long tt)
no_announcement tells options Write before now mends changed prefix = ([], no_feed tells options before now mends changed prefix)
no_announcement tells options Memory before now mends changed same =
    ([], no_feed tells options before now mends changed (none_prefix before now announcement same))
no_announcement tells options (Page at fault) before now mends changed never = absurd never
no_announcement tells options (Chain at fault) before now mends changed never = absurd never
no_announcement tells options (PacketTooLong at) before now mends changed never = absurd never
no_announcement tells options (Unfinished at serial) before now mends changed never = absurd never
no_announcement tells options (TooLong at) before now mends changed never = absurd never
no_announcement tells options (Read at) before now mends changed never = absurd never

-- ---- how many pages there were
pub counts_page : (old mid after : Mending) (steps : List ImportStep) (s : ImportStep) (pages : ℕ)
    → old.made.pages ≡ min (length (filter has_page steps)) (2 ^ 64 - 1) → mid.made ≡ old.made → after.made.pages ≡ mid.made.pages
    → has_page s ≡ true → pages ≡ min (after.made.pages + 1) (2 ^ 64 - 1) → pages ≡ min (length (filter has_page (steps ++ s ∷ []))) (2 ^ 64 - 1)
counts_page old mid after steps s pages was made same is more =
    counted_on (2 ^ 64 - 1) pages after.made.pages 1 (length (filter has_page steps)) (length (filter has_page (steps ++ s ∷ []))) more
    (same ∙ ap (λ (m : Made). m.pages) made ∙ was) (count_push steps s ∙ ap (λ n. length (filter has_page steps) + n) (ap one_if is))

pub counts_none : (old mid after : Mending) (steps : List ImportStep) (s : ImportStep)
    → old.made.pages ≡ min (length (filter has_page steps)) (2 ^ 64 - 1) → mid.made ≡ old.made → after.made.pages ≡ mid.made.pages
    → has_page s ≡ false → after.made.pages ≡ min (length (filter has_page (steps ++ s ∷ []))) (2 ^ 64 - 1)
counts_none old mid after steps s was made same is =
    same ∙ ap (λ (m : Made). m.pages) made ∙ was
    ∙ ap (λ n. min n (2 ^ 64 - 1)) (sym (none_more (length (filter has_page (steps ++ s ∷ []))) (length (filter has_page steps)) (one_if (has_page s)) (count_push steps s) (ap one_if is)))

-- ---- what came of it
pub mended_made : {M : Type 0} (tells : M → Telling → M → Type 0) (options : ChangeOptions) (result : Result Made MakingFault) (before now : Option (List ℕ))
    (unaware aware : M) → FinishesMended tells options result before now unaware aware → IfOk result (λ made. MendsFeed tells options before now unaware aware made)
mended_made tells options (Ok made) before now unaware aware is = is
mended_made tells options (Err fault) before now unaware aware is = tt

pub mended_stopped : {M : Type 0} (tells : M → Telling → M → Type 0) (options : ChangeOptions) (result : Result Made MakingFault) (before now : Option (List ℕ))
    (unaware aware : M) → FinishesMended tells options result before now unaware aware → IfErr result (λ fault. StopsMended tells options fault before now unaware aware)
mended_stopped tells options (Ok made) before now unaware aware is = tt
mended_stopped tells options (Err fault) before now unaware aware is = is

-- the end, by what became of the last commands
pub closes_by : {M : Type 0} (tells : M → Telling → M → Type 0) (options : ChangeOptions) (result : Result (Unit {0}) MakingFault) (before now : Option (List ℕ)) (unaware aware : M)
    (steps : List ImportStep) (old new : Mending) → OnOk result (ClosesWell tells options before now unaware aware steps old new)
    → IfErr result (λ fault. StopsMended tells options fault before now unaware aware) → ClosesMended tells options result before now unaware aware steps old new
closes_by tells options (Ok done) before now unaware aware steps old new well stops = well
closes_by tells options (Err fault) before now unaware aware steps old new well stops = stops
