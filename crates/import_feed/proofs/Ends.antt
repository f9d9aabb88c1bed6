-- The end of a feed.
use Rattle.std.proofs.Common.{◌≡◌, ℕ, Bool, true, false, Option, Some, None, Ok, Err, List, [], ◌++◌, refl, sym, ◌∙◌, ap, subst, arith, append-nil, length, length-append}
use Rattle.std.specs.Io.KnownBytes.{Appends, Consumes}
use Rattle.std.proofs.KnownBytes.{Consumes-nil}
use Rattle.ogg_page.specs.Output.{WritesPrefix}
use Rattle.ogg_page.specs.Laws.PageBytes.{all_both}
use Rattle.ogg_page.specs.Page.{Page as PageValue}
use Rattle.link_chain.specs.Links.{AreLinks}
use Rattle.link_chain.specs.Taking.{unfinished_stream}
use Rattle.chain_rules.specs.Recording.{Recording, HoldsLinks, after}
use Rattle.ogg_command.specs.declared.command.Command.{Command}
use Rattle.import_gather.specs.Kept.{waits}
use Rattle.import_gather.specs.Gathered.{Gathered, HasGathered}
use Rattle.std.specs.List.{AllByRecursion}
use Rattle.import_changes.specs.Changed.{IsChanged}
use Rattle.import_changes.specs.Skeletons.{BeginThose, IsBegunAs}
use Rattle.import_feed.specs.Source.{HasSourced, Sourced, gathered_of}
use Rattle.feed_records.specs.Record.{announcement}
use Rattle.import_feed.specs.Feed.{Fits, GivesNot, HasTooLong, records_of}
use Rattle.import_feed.specs.Making.{Breaks, HasGiven, HasTaken, MakesFeed, Stops, StopsAtFault}
use Rattle.import_feed.specs.Turn.{EndsAt, EndsWell, GivesRest, GivesRestNot, Finishes, GoesOn, IsStarted, StillMakes, TakesAll, Turns, of_input}
use Rattle.std.specs.Prelude.{IfErr, IfOk, Result, ◌-◌, ◌^◌}
use Rattle.import_feed.specs.declared.made.Made.{Made}
use Rattle.import_feed.specs.declared.maker.Maker.{Maker}
use Rattle.import_feed.specs.declared.fault.MakingFault.{MakingFault}
use Rattle.import_feed.specs.declared.fault.MakingFault.TheVariants.{Page, Chain, PacketTooLong, Unfinished, TooLong, Read, Limit, Write, Memory}
use Rattle.import_feed.proofs.Lists.{counted_on, later_of}
use Rattle.import_feed.proofs.Turns.{not_given, prefix_written, written_more}
use Rattle.import_changes.specs.declared.options.ChangeOptions.{ChangeOptions}

-- what waited is written
pub all_given : (options : ChangeOptions) (before now0 now1 : Option (List ℕ)) (old new : Maker) (links : List (List PageValue)) (given : List Command) →
    HasGiven options before now0 links old.gatherer given → (rest : GivesRest old new now0 now1) → HasGiven options before now1 links new.gatherer (given ++ rest.more)
all_given options before now0 now1 old new links given was rest = record {
  gathers = rest.gathers options links given was.gathers;
  fits = all_both Fits given rest.more was.fits rest.fits;
  written = written_more before now0 now1 given rest.more was.written rest.written;
}

-- what waited isn't written as a whole
pub rest_breaks : (options : ChangeOptions) (fault : MakingFault) (from left before now0 now1 : Option (List ℕ)) (old : Maker) (links : List (List PageValue)) (given : List Command) (offset : ℕ) (rest : List ℕ) →
    HasTaken from left links offset rest → HasGiven options before now0 links old.gatherer given → GivesRestNot fault old now0 now1 → Breaks options from left before now1
rest_breaks options fault from left before now0 now1 old links given offset rest taken was not = record {
  links = links;
  offset = offset;
  rest = rest;
  taken = taken;
  broken = record {
    gathered = not.new;
    given = given ++ not.more;
    gathers = not.gathers options links given was.gathers;
    written = prefix_written before now0 now1 given not.more was.written (not_given now0 now1 (records_of not.more) not.more fault not.not);
  };
}

pub own_stops : (options : ChangeOptions) (fault : MakingFault) (a b : Option (List ℕ)) (bytes : List ℕ) (commands : List Command) (from left before now : Option (List ℕ)) → GivesNot a b bytes commands fault →
    (breaks : Breaks options from left before now) → (HasTooLong commands → HasTooLong breaks.broken.given) → Stops options fault from left before now
own_stops options Limit a b bytes commands from left before now is breaks long = (breaks, long is.1)
own_stops options Write a b bytes commands from left before now is breaks long = breaks
own_stops options Memory a b bytes commands from left before now is breaks long = breaks
own_stops options (Page at fault) a b bytes commands from left before now never breaks long = absurd never
own_stops options (Chain at fault) a b bytes commands from left before now never breaks long = absurd never
own_stops options (PacketTooLong at) a b bytes commands from left before now never breaks long = absurd never
own_stops options (Unfinished at serial) a b bytes commands from left before now never breaks long = absurd never
own_stops options (TooLong at) a b bytes commands from left before now never breaks long = absurd never
own_stops options (Read at) a b bytes commands from left before now never breaks long = absurd never

pub rest_stops : (options : ChangeOptions) (fault : MakingFault) (from left before now0 now1 : Option (List ℕ)) (old : Maker) (links : List (List PageValue)) (given : List Command) (offset : ℕ) (rest : List ℕ) →
    HasTaken from left links offset rest → HasGiven options before now0 links old.gatherer given → GivesRestNot fault old now0 now1 → Stops options fault from left before now1
unfolding rest_breaks
rest_stops options fault from left before now0 now1 old links given offset rest taken was not =
    own_stops options fault now0 now1 (records_of not.more) not.more from left before now1 not.not
    (rest_breaks options fault from left before now0 now1 old links given offset rest taken was not)
    (λ long all. long (later_of Fits given not.more all))

-- a fault of the input
pub ends_of_input : (options : ChangeOptions) (fault : MakingFault) (from left before now : Option (List ℕ)) (maker : Maker) → of_input fault ≡ true →
    TakesAll options (Err fault) from left before now maker → EndsAt options fault from left before now maker
ends_of_input options (Page at fault) from left before now maker is ends = ends
ends_of_input options (Chain at fault) from left before now maker is ends = ends
ends_of_input options (PacketTooLong at) from left before now maker is ends = ends
ends_of_input options (Unfinished at serial) from left before now maker is ends = ends
ends_of_input options (TooLong at) from left before now maker is ends = ends
ends_of_input options (Read at) from left before now maker is ends = ends
ends_of_input options Limit from left before now maker is ends = cc
ends_of_input options Write from left before now maker is ends = cc
ends_of_input options Memory from left before now maker is ends = cc

pub stops_of_input : (options : ChangeOptions) (fault : MakingFault) (from left before now : Option (List ℕ)) → of_input fault ≡ true →
    StopsAtFault options from left before now fault → Stops options fault from left before now
stops_of_input options (Page at fault) from left before now is stops = stops
stops_of_input options (Chain at fault) from left before now is stops = stops
stops_of_input options (PacketTooLong at) from left before now is stops = stops
stops_of_input options (Unfinished at serial) from left before now is stops = stops
stops_of_input options (TooLong at) from left before now is stops = stops
stops_of_input options (Read at) from left before now is stops = stops
stops_of_input options Limit from left before now is stops = cc
stops_of_input options Write from left before now is stops = cc
stops_of_input options Memory from left before now is stops = cc

pub stops_at : (options : ChangeOptions) (fault : MakingFault) (from left before now0 now1 : Option (List ℕ)) (old new : Maker) → of_input fault ≡ true →
    EndsAt options fault from left before now0 old → GivesRest old new now0 now1 → Stops options fault from left before now1
stops_at options fault from left before now0 now1 old new is ends rest = stops_of_input options fault from left before now1 is (record {
  links = ends.links;
  offset = ends.offset;
  rest = ends.rest;
  taken = ends.taken;
  fault_is = ends.fault_is;
  all = record {
    gathered = new.gatherer;
    given = ends.given ++ rest.more;
    all = all_given options before now0 now1 old new ends.links ends.given ends.all rest;
    none_waits = rest.none_waits;
  };
})

-- the input ended
pub taken_whole : (options : ChangeOptions) (from left before now : Option (List ℕ)) (maker : Maker) → (ends : EndsWell options from left before now maker) → HasTaken from left ends.links maker.pages.offset []
taken_whole options from left before now maker ends = subst (HasTaken from left ends.links maker.pages.offset) ends.unread ends.made.taken

pub ends_unfinished : (options : ChangeOptions) (from left before now0 now1 : Option (List ℕ)) (old new : Maker) (at serial : ℕ) → at ≡ new.pages.offset → unfinished_stream new.gatherer.chain ≡ Some serial →
    EndsWell options from left before now0 old → GivesRest old new now0 now1 → StopsAtFault options from left before now1 (Unfinished at serial)
ends_unfinished options from left before now0 now1 old new at serial at_is unfinished ends rest =
    let all = all_given options before now0 now1 old new ends.links ends.given ends.made.all rest in
    record {
      links = ends.links;
      offset = old.pages.offset;
      rest = [];
      taken = taken_whole options from left before now0 old ends;
      fault_is = (
        at_is ∙ ap (λ p. p.offset) rest.pages,
        refl,
        ends.at_end,
        subst (λ chain. unfinished_stream chain ≡ Some serial) all.gathers.gathers.chain unfinished,
      );
      all = record { gathered = new.gatherer; given = ends.given ++ rest.more; all = all; none_waits = rest.none_waits };
    }

abbrev pub HoldsRecording : Type 0
HoldsRecording =
    (bytes : List ℕ) (links : List (List PageValue)) (gathered : Gathered) (given : List Command) (recording : Recording) → AreLinks bytes links
    → HasGathered links gathered given → waits gathered.link ≡ false → HoldsLinks links recording → after [] given ≡ recording

-- the commands written hold the recording of the links, changed as asked
held_as_asked : (options : ChangeOptions) (bytes : List ℕ) (links : List (List PageValue)) (sourced : Sourced) (given : List Command) (recording : Recording) → HoldsRecording → AreLinks bytes links
    → HasSourced options links sourced given → waits sourced.link ≡ false → HoldsLinks links recording → IsChanged options recording (after [] given)
held_as_asked options bytes links sourced given recording holds are h none is =
    subst (λ b. IsChanged b recording (after [] given)) h.asked
    (subst (λ r. IsChanged sourced.changes.options r (after [] given)) (holds bytes links (gathered_of sourced) h.commands recording are h.gathers none is) h.changed.changed)

pub ends_whole : (options : ChangeOptions) (from left before now0 now1 : Option (List ℕ)) (old new : Maker) → HoldsRecording → unfinished_stream new.gatherer.chain ≡ None →
    EndsWell options from left before now0 old → GivesRest old new now0 now1 → MakesFeed options from left before now1 new.made
ends_whole options from left before now0 now1 old new holds finished ends rest =
    let all = all_given options before now0 now1 old new ends.links ends.given ends.made.all rest in
    let given : List Command = ends.given ++ rest.more in
    record {
      links = ends.links;
      offset = old.pages.offset;
      taken = taken_whole options from left before now0 old ends;
      at_end = ends.at_end;
      whole = subst (λ chain. unfinished_stream chain ≡ None) all.gathers.gathers.chain finished;
      given = given;
      fits = all.fits;
      written = all.written;
      held = λ recording is.
          held_as_asked options ends.made.taken.bytes ends.links new.gatherer given recording holds ends.made.taken.are all.gathers rest.none_waits is;
      begun = subst (λ o. AllByRecursion (IsBegunAs o) given) all.gathers.asked all.gathers.changed.begun;
      commands = all.gathers.commands;
      gathered = λ recording is.
          holds ends.made.taken.bytes ends.links (gathered_of new.gatherer) all.gathers.commands recording ends.made.taken.are
          all.gathers.gathers rest.none_waits is;
      stay = subst (λ o. BeginThose o all.gathers.commands given) all.gathers.asked all.gathers.changed.stay;
      pages = rest.page_count ∙ ends.made.pages;
      counted = counted_on (2 ^ 64 - 1) new.made.commands old.made.commands (length rest.more) (length ends.given) (length (ends.given ++ rest.more)) rest.counted
          ends.made.counted (length-append ends.given rest.more);
    }

-- ---- the begin
pub starts : (options : ChangeOptions) (from before now : Option (List ℕ)) (maker : Maker) → IsStarted options maker → Appends before now announcement → StillMakes options from from before now maker
starts options from before now maker is written = record {
  links = [];
  given = [];
  made = record {
    taken = record {
      bytes = [];
      are = subst (λ (l : List ℕ). AreLinks l []) is.gathers.gathers.are.spelled is.gathers.gathers.are;
      consumed = subst (Consumes from from) (sym (ap (λ p. p.unread) is.pages)) (Consumes-nil from);
      offset_is = ap (λ p. p.offset) is.pages;
    };
    all = record { gathers = is.gathers; fits = tt; written = subst (Appends before now) (sym (append-nil announcement)) written };
    goes = is.goes;
    pages = is.no_pages;
    counted = is.no_commands;
  };
}

pub goes_on : (options : ChangeOptions) (maker : Maker) → IsStarted options maker → GoesOn maker
goes_on options maker is = record {
  unended = ap (λ p. p.outcome) is.pages;
  place = ap (λ chain. chain.length_of) is.gathers.gathers.chain ∙ sym (ap (λ p. p.offset) is.pages);
  small = omega (arith, ap (λ p. p.offset) is.pages);
  counted = omega (arith, is.no_pages);
}

pub turns_false : (options : ChangeOptions) (is_page : Bool) (from left before now : Option (List ℕ)) (maker : Maker) → is_page ≡ false → Turns options (Ok is_page) from left before now maker → EndsWell options from left before now maker
turns_false options false from left before now maker is ends = ends
turns_false options true from left before now maker is ends = cc

pub turns_true : (options : ChangeOptions) (is_page : Bool) (from left before now : Option (List ℕ)) (maker : Maker) → is_page ≡ true → Turns options (Ok is_page) from left before now maker → StillMakes options from left before now maker
turns_true options true from left before now maker is makes = makes
turns_true options false from left before now maker is makes = cc

-- nothing was taken, and the announcement wasn't written as a whole
pub breaks_first : (options : ChangeOptions) (from before now : Option (List ℕ)) (gathered : Sourced) → HasSourced options [] gathered [] → WritesPrefix before now announcement → Breaks options from from before now
breaks_first options from before now gathered gathers written = record {
  links = [];
  offset = 0;
  rest = [];
  taken = record {
    bytes = [];
    are = subst (λ (l : List ℕ). AreLinks l []) gathers.gathers.are.spelled gathers.gathers.are;
    consumed = Consumes-nil from;
    offset_is = refl;
  };
  broken = record {
    gathered = gathered;
    given = [];
    gathers = gathers;
    written = subst (WritesPrefix before now) (sym (append-nil announcement)) written;
  };
}

pub first_stops : (options : ChangeOptions) (fault : MakingFault) (from before now : Option (List ℕ)) (gathered : Sourced) → HasSourced options [] gathered [] → GivesNot before now announcement [] fault →
    Stops options fault from from before now
unfolding breaks_first
first_stops options fault from before now gathered gathers not =
    own_stops options fault before now announcement [] from from before now not (breaks_first options from before now gathered gathers (not_given before now announcement [] fault not)) (λ long. long)

-- ---- what is reported
pub finished_made : (options : ChangeOptions) (result : Result Made MakingFault) (from left before now : Option (List ℕ)) → Finishes options result from left before now →
    IfOk result (λ made. MakesFeed options from left before now made)
finished_made options (Ok made) from left before now is = is
finished_made options (Err fault) from left before now is = tt

pub finished_stopped : (options : ChangeOptions) (result : Result Made MakingFault) (from left before now : Option (List ℕ)) → Finishes options result from left before now →
    IfErr result (λ fault. Stops options fault from left before now)
finished_stopped options (Ok made) from left before now is = tt
finished_stopped options (Err fault) from left before now is = is
