-- A list of a station's calls is a list of what is done with a source.
use Rattle.std.proofs.Common.{◌≡◌, ◌⊎◌, ℕ, Option, Some, None, List, [], ◌∷◌, ◌++◌, length, refl, sym, ap, subst, inl, inr}
use Rattle.disk_model.specs.declared.disk.Disk.{Ghosts as DiskModel}
use Rattle.feed_records.specs.declared.item.Record.{Record}
use Rattle.feed_records.specs.declared.item.Record.TheVariants.{Flush}
use Rattle.feed_replies.specs.declared.reply.Reply.{Reply}
use Rattle.import_mend.specs.declared.mend.Mend.{Mend}
use Rattle.import_record.specs.Pushing.{Call, Came as CameIn, InputState, IsStepped, NeedsNone, Stepped as SteppedIn, event_of, events_in}
use Rattle.import_record.specs.Steps.{Ends, IntakeState, state_of}
use Rattle.import_record.specs.Whole.{Event, GoOn}
use Rattle.import_record.specs.declared.intake.Taken.{Taken}
use Rattle.import_record.specs.declared.reading.ImportRun.{ImportRun}
use Rattle.import_record.specs.declared.reading.Step.{Step}
use Rattle.import_record.specs.declared.reading.Step.TheVariants.{Flushed, PassedOver, Page, Ended as EndedStep}
use Rattle.ogg_page.specs.Window.{LentAt}
use Rattle.serve_hub.specs.Parts.{HubParts}
use Rattle.serve_hub.specs.Running.{Answers, IsIn, Progress}
use Rattle.serve_hub.specs.Showing.{Shows}
use Rattle.serve_machine.specs.Hub.{HubState}
use Rattle.serve_machine.specs.Own.{KeepsFile}
use Rattle.station_hub.specs.Keeping.{KeepsRecorded}
use Rattle.station_hub.specs.declared.live_hub.LiveHub.{LiveHub}
use Rattle.station_sources.specs.Air.{HoldsMore, IsShort}
use Rattle.station_sources.specs.Importing.{Fed, Finishes, Move, Moves, Noted as NotedMove, Took as TookMove, WentOn as WentOnMove, fed_in}
use Rattle.station_sources.specs.SeenLaws.{ends_seen, stepped_seen}
use Rattle.station_sources.specs.Taking.{input_of}
use Rattle.station_sources.specs.declared.air.OnAir.{OnAir}
use Rattle.station.specs.Stepping.{HasEnded, TakesFromSource}
use Rattle.station.specs.declared.stepping.Done.TheVariants.{Bytes, Stepped}
use Rattle.station_laws.specs.Recorded.{AnswersOn, AreCalled, AreLast, Came, Committed, FindsNoEnd, Noted, Other, SourceCall, Took, WentOn, came_in, file_of}

same_air : (one other : OnAir) → Some one ≡ Some other → one ≡ other
same_air one other e = cc

module _ {D : Type 0} (model : DiskModel D) where
  abbrev file_in : Progress D → HubState
  file_in progress = file_of progress.machine

  -- ---- the same step, of the file alone
  on_file : (before after : Progress D) (given : Record) (reply : Reply) (own : List ℕ) → Answers model before given reply own after
      → AnswersOn model (file_in before) given reply own (file_in after)
  on_file before after given reply own answered = (before, after, refl, refl, answered)

  stepped_on : (bytes : List ℕ) (step : Step) (lent : Option LentAt) (old new : InputState) (before after : Progress D)
      → IsStepped (Answers model) bytes step lent old new before after
      → IsStepped (AnswersOn model) bytes step lent old new (file_in before) (file_in after)
  stepped_on = stepped_seen (Answers model) (AnswersOn model) file_in on_file

  -- ---- the calls
  same_file : (old new : HubState) → KeepsFile old new → file_of new ≡ file_of old
  same_file old new keeps = ap file_of keeps

  -- a flush that is due is a step of the stream that takes nothing of it
  flushed : (reply : Reply) (air : OnAir) (before after : Progress D) → Answers model before Flush reply [] after
      → IsStepped (AnswersOn model) [] (Flushed reply) air.import.input.pages.lent (input_of air.import) (input_of air.import) (file_in before) (file_in after)
  flushed reply air before after answered = record {
    output = None;
    new_output = None;
    steps = (on_file before after Flush reply [] answered, refl, refl, refl, refl);
    lent_is = refl;
  }

  -- what calls are for a source
  abbrev pub Moved : List SourceCall → OnAir → OnAir → LiveHub D → HubState → Type 0
  Moved calls old new last start =
      (moves : List Move) × (after : HubState) × Shows model last.hub after × Moves (AnswersOn model) moves old new start (file_of after)
      × (fed_in moves ≡ came_in calls)

  begun_at : (calls : List SourceCall) (old new : OnAir) (last : LiveHub D) (start other : HubState) → other ≡ start
      → Moved calls old new last other → Moved calls old new last start
  begun_at calls old new last start other same moved = subst (Moved calls old new last) same moved

  shows_as : (one other : HubParts D) (machine : HubState) → one ≡ other → Shows model one machine → Shows model other machine
  shows_as one other machine same shows = subst (λ (hub : HubParts D). Shows model hub machine) same shows

  pub moves_of : (calls : List SourceCall) (old new : OnAir) (live last : LiveHub D) (machine : HubState) → AreCalled model calls old new live last
      → Shows model live.hub machine → Moved calls old new last (file_of machine)
  moves_of [] old new live last machine (same, stays) shows =
      ([], machine, shows_as live.hub last.hub machine (ap (λ (one : LiveHub D). one.hub) (sym stays)) shows, (same, refl), refl)
  moves_of (Came bytes ∷ later) old new live last machine (next, between, holds, keeps, rest) shows =
      let (mid, seen, kept) = keeps machine shows in
      let (moves, after, shown, moved, fed) =
      begun_at later next new last (file_of machine) (file_of mid) (same_file machine mid kept) (moves_of later next new between last mid rest seen) in
      (Fed bytes ∷ moves, after, shown, (next, holds, moved), ap (λ l. bytes ++ l) fed)
  moves_of (Noted ∷ later) old new live last machine (next, between, stays, keeps, rest) shows =
      let (mid, seen, kept) = keeps machine shows in
      let (moves, after, shown, moved, fed) =
      begun_at later next new last (file_of machine) (file_of mid) (same_file machine mid kept) (moves_of later next new between last mid rest seen) in
      (NotedMove ∷ moves, after, shown, (next, stays, moved), fed)
  moves_of (WentOn ∷ later) old new live last machine (next, between, passed, rest) shows =
      let same : next ≡ passed.source = same_air next passed.source passed.on_air in
      let (moves, after, shown, moved, fed) =
      moves_of later passed.source new between last machine (subst (λ (one : OnAir). AreCalled model later one new between last) same rest)
      (shows_as live.hub between.hub machine (ap (λ (one : LiveHub D). one.hub) (sym passed.same)) shows) in
      (WentOnMove ∷ moves, after, shown, (passed.source, passed.goes_on, moved), fed)
  moves_of (Took step ∷ later) old new live last machine (next, between, needs, takes, rest) shows =
      let before : Progress D = record { now = live.hub; machine = machine } in
      let stepped = takes before (refl, shows) in
      let source = stepped.source in
      let mid = stepped.after in
      let same : next ≡ source = same_air next source stepped.on_air in
      let (moves, after, shown, moved, fed) =
      moves_of later source new between last mid.machine (subst (λ (one : OnAir). AreCalled model later one new between last) same rest)
      stepped.reached.1 in (
        TookMove step ∷ moves,
        after,
        shown,
        (
          source,
          file_in mid,
          stepped.keeps,
          needs,
          stepped_on [] step source.import.input.pages.lent (input_of old.import) (input_of source.import) before mid stepped.takes.stepped,
          moved,
        ),
        fed,
      )
  moves_of (Committed reply ∷ later) old new live last machine (between, flushes, rest) shows =
      let before : Progress D = record { now = live.hub; machine = machine } in
      let (mid, answered, is_in) = flushes.answered before (refl, shows) in
      let (moves, after, shown, moved, fed) = moves_of later old new between last mid.machine rest is_in.1 in (
        TookMove (Flushed flushes.reply) ∷ moves,
        after,
        shown,
        (
          old,
          file_in mid,
          record { seen = refl; pending = refl; feeder = refl; short = refl; lost = refl; has_page = refl },
          tt,
          flushed flushes.reply old before mid answered,
          moved,
        ),
        fed,
      )
  moves_of (Other ∷ later) old new live last machine (between, keeps, rest) shows =
      let (mid, seen, kept) = keeps machine shows in
      begun_at later old new last (file_of machine) (file_of mid) (same_file machine mid kept) (moves_of later old new between last mid rest seen)

  -- ---- lists that are joined
  pub joins : (calls later : List SourceCall) (old mid new : OnAir) (live between last : LiveHub D) → AreCalled model calls old mid live between
      → AreCalled model later mid new between last → AreCalled model (calls ++ later) old new live last
  joins [] later old mid new live between last (same, stays) rest =
      subst (λ (one : OnAir). AreCalled model later one new live last) same
      (subst (λ (one : LiveHub D). AreCalled model later mid new one last) stays rest)
  joins (Came bytes ∷ calls) later old mid new live between last (next, hub, holds, keeps, called) rest =
      (next, hub, holds, keeps, joins calls later next mid new hub between last called rest)
  joins (Noted ∷ calls) later old mid new live between last (next, hub, stays, keeps, called) rest =
      (next, hub, stays, keeps, joins calls later next mid new hub between last called rest)
  joins (WentOn ∷ calls) later old mid new live between last (next, hub, passed, called) rest =
      (next, hub, passed, joins calls later next mid new hub between last called rest)
  joins (Took step ∷ calls) later old mid new live between last (next, hub, needs, takes, called) rest =
      (next, hub, needs, takes, joins calls later next mid new hub between last called rest)
  joins (Committed reply ∷ calls) later old mid new live between last (hub, flushes, called) rest =
      (hub, flushes, joins calls later old mid new hub between last called rest)
  joins (Other ∷ calls) later old mid new live between last (hub, keeps, called) rest =
      (hub, keeps, joins calls later old mid new hub between last called rest)

  -- ---- bytes that come
  fed_by : (bytes : List ℕ) (old after : OnAir) (live last : LiveHub D) → KeepsRecorded model live.hub last.hub
      → HoldsMore bytes old after ⊎ IsShort (length bytes) old after
      → AreCalled model (Came bytes ∷ []) old after live last ⊎ AreCalled model (Noted ∷ []) old after live last
  fed_by bytes old after live last keeps (inl holds) = inl (after, last, holds, keeps, (refl, refl))
  fed_by bytes old after live last keeps (inr short) =
      inr (after, last, record { kept = short.kept; import = short.import; body = short.body }, keeps, (refl, refl))

  pub fed_more : (bytes : List ℕ) (old : OnAir) (now : Option OnAir) (live last : LiveHub D)
      → (after : OnAir) × (now ≡ Some after) × (after.feeder ≡ old.feeder) × (HoldsMore bytes old after ⊎ IsShort (length bytes) old after)
      → KeepsRecorded model live.hub last.hub
      → (new : OnAir) × (now ≡ Some new) × (AreCalled model (Came bytes ∷ []) old new live last ⊎ AreCalled model (Noted ∷ []) old new live last)
  fed_more bytes old now live last (after, is, feeder, held) keeps = (after, is, fed_by bytes old after live last keeps held)

  -- ---- steps
  pub passed : (old : OnAir) (now : Option OnAir) (live last : LiveHub D) → TakesFromSource model Bytes old now live last
      → (new : OnAir) × (now ≡ Some new) × AreCalled model (WentOn ∷ []) old new live last
  passed old now live last is = (
    is.source,
    is.on_air,
    (is.source, last, subst (λ (one : Option OnAir). TakesFromSource model Bytes old one live last) is.on_air is, (refl, refl)),
  )

  pub stepped_once : (step : Step) (old : OnAir) (now : Option OnAir) (live last : LiveHub D) (machine : HubState) → NeedsNone step old.import.input.pages
      → Shows model live.hub machine → TakesFromSource model (Stepped step) old now live last
      → (new : OnAir) × (now ≡ Some new) × AreCalled model (Took step ∷ []) old new live last
  stepped_once step old now live last machine needs shows takes =
      let is = takes (record { now = live.hub; machine = machine }) (refl, shows) in (
        is.source,
        is.on_air,
        (is.source, last, needs, subst (λ (one : Option OnAir). TakesFromSource model (Stepped step) old one live last) is.on_air takes, (refl, refl)),
      )

  -- ---- the end
  ends_on : (offset : ℕ) (old new : IntakeState) (taken : Taken) (before after : Progress D) (pages new_pages : Option (List ℕ))
      → Ends (Answers model) offset old new taken before after pages new_pages
      → Ends (AnswersOn model) offset old new taken (file_in before) (file_in after) pages new_pages
  ends_on = ends_seen (Answers model) (AnswersOn model) file_in on_file

  -- steps were taken up to the one that found the end, and what was open was ended
  pub record HasFinished (offset : ℕ) (junk : Option Mend) (taken : Taken) (old : OnAir) (start : HubState) : Type 0 where
    pub steps : List Step
    pub between : ImportRun
    pub run : ImportRun
    pub reached : HubState
    pub after : HubState
    pub finishes : Finishes (AnswersOn model) steps old (input_of between) start reached
    pub ends : Ends (AnswersOn model) offset (state_of between) (state_of run) taken reached after None None

  abbrev pub AtEnd : (offset : ℕ) (junk : Option Mend) (taken : Taken) → OnAir → LiveHub D → Type 0
  AtEnd offset junk taken air live = (before : Progress D) → IsIn model before live.hub → HasEnded model offset junk taken air before

  found_end : (offset : ℕ) (junk : Option Mend) (taken : Taken) (air : OnAir) (before : Progress D) → HasEnded model offset junk taken air before
      → HasFinished offset junk taken air (file_in before)
  found_end offset junk taken air before is =
      let by = is.takes.ended in record {
        steps = EndedStep junk ∷ [];
        between = by.between;
        run = is.run;
        reached = file_in by.reached;
        after = file_in is.after;
        finishes = (stepped_on [] (EndedStep junk) by.between.input.pages.lent (input_of air.import) (input_of by.between) before by.reached by.finds, refl);
        ends = ends_on offset (state_of by.between) (state_of is.run) taken by.reached is.after None None by.ends;
      }

  started_at : (offset : ℕ) (junk : Option Mend) (taken : Taken) (air : OnAir) (other start : HubState) → other ≡ start
      → HasFinished offset junk taken air other → HasFinished offset junk taken air start
  started_at offset junk taken air other start same is = subst (HasFinished offset junk taken air) same is

  -- nothing was taken before
  untaken : (steps : List Step) (old next : OnAir) (new : InputState) (start end : HubState) → next.import ≡ old.import
      → Finishes (AnswersOn model) steps next new start end → Finishes (AnswersOn model) steps old new start end
  untaken [] old next new start end same none = none
  untaken (EndedStep junk ∷ later) old next new start end same (stepped, none) =
      (subst (λ (run : ImportRun). IsStepped (AnswersOn model) [] (EndedStep junk) new.pages.lent (input_of run) new start end) same stepped, none)
  untaken (Flushed reply ∷ later) old next new start end same (one, mid, stepped, rest) = (
    one,
    mid,
    subst (λ (run : ImportRun). IsStepped (AnswersOn model) [] (Flushed reply) one.import.input.pages.lent (input_of run) (input_of one.import) start mid) same stepped,
    rest,
  )
  untaken (PassedOver ∷ later) old next new start end same (one, mid, stepped, rest) = (
    one,
    mid,
    subst (λ (run : ImportRun). IsStepped (AnswersOn model) [] PassedOver one.import.input.pages.lent (input_of run) (input_of one.import) start mid) same stepped,
    rest,
  )
  untaken (Page offset junk taken ∷ later) old next new start end same (one, mid, stepped, rest) = (
    one,
    mid,
    subst (λ (run : ImportRun). IsStepped (AnswersOn model) [] (Page offset junk taken) one.import.input.pages.lent (input_of run) (input_of one.import) start mid) same stepped,
    rest,
  )

  -- one more step
  one_more : (step : Step) (later : List Step) (old next : OnAir) (new : InputState) (start mid end : HubState) → FindsNoEnd step
      → IsStepped (AnswersOn model) [] step next.import.input.pages.lent (input_of old.import) (input_of next.import) start mid
      → Finishes (AnswersOn model) later next new mid end → Finishes (AnswersOn model) (step ∷ later) old new start end
  one_more (EndedStep junk) later old next new start mid end none stepped rest = absurd none
  one_more (Flushed reply) later old next new start mid end some stepped rest = (next, mid, stepped, rest)
  one_more PassedOver later old next new start mid end some stepped rest = (next, mid, stepped, rest)
  one_more (Page offset junk taken) later old next new start mid end some stepped rest = (next, mid, stepped, rest)

  stepped_then : (offset : ℕ) (junk : Option Mend) (taken : Taken) (step : Step) (old next : OnAir) (start mid : HubState) → FindsNoEnd step
      → IsStepped (AnswersOn model) [] step next.import.input.pages.lent (input_of old.import) (input_of next.import) start mid
      → HasFinished offset junk taken next mid → HasFinished offset junk taken old start
  stepped_then offset junk taken step old next start mid some stepped is = record {
    steps = step ∷ is.steps;
    between = is.between;
    run = is.run;
    reached = is.reached;
    after = is.after;
    finishes = one_more step is.steps old next (input_of is.between) start mid is.reached some stepped is.finishes;
    ends = is.ends;
  }

  pub finished : (calls : List SourceCall) (offset : ℕ) (junk : Option Mend) (taken : Taken) (old mid : OnAir) (live last : LiveHub D) (machine : HubState)
      → AreLast model calls old mid live last → AtEnd offset junk taken mid last → Shows model live.hub machine
      → HasFinished offset junk taken old (file_of machine)
  finished [] offset junk taken old mid live last machine (same, stays) ended shows =
      let before : Progress D = record { now = last.hub; machine = machine } in
      subst (λ (one : OnAir). HasFinished offset junk taken one (file_of machine)) same
      (found_end offset junk taken mid before (ended before (refl, shows_as live.hub last.hub machine (ap (λ (one : LiveHub D). one.hub) (sym stays)) shows)))
  finished (Came bytes ∷ later) offset junk taken old mid live last machine none ended shows = absurd none
  finished (WentOn ∷ later) offset junk taken old mid live last machine none ended shows = absurd none
  finished (Noted ∷ later) offset junk taken old mid live last machine (next, between, stays, keeps, rest) ended shows =
      let (seen, shown, kept) = keeps machine shows in
      let is = started_at offset junk taken next (file_of seen) (file_of machine) (same_file machine seen kept)
      (finished later offset junk taken next mid between last seen rest ended shown) in record {
        steps = is.steps;
        between = is.between;
        run = is.run;
        reached = is.reached;
        after = is.after;
        finishes = untaken is.steps old next (input_of is.between) (file_of machine) is.reached stays.import is.finishes;
        ends = is.ends;
      }
  finished (Took step ∷ later) offset junk taken old mid live last machine (next, between, some, takes, rest) ended shows =
      let before : Progress D = record { now = live.hub; machine = machine } in
      let stepped = takes before (refl, shows) in
      let source = stepped.source in
      let same : next ≡ source = same_air next source stepped.on_air in
      stepped_then offset junk taken step old source (file_of machine) (file_in stepped.after) some
      (stepped_on [] step source.import.input.pages.lent (input_of old.import) (input_of source.import) before stepped.after stepped.takes.stepped)
      (finished later offset junk taken source mid between last stepped.after.machine
      (subst (λ (one : OnAir). AreLast model later one mid between last) same rest) ended stepped.reached.1)
  finished (Committed reply ∷ later) offset junk taken old mid live last machine (between, flushes, rest) ended shows =
      let before : Progress D = record { now = live.hub; machine = machine } in
      let (after, answered, is_in) = flushes.answered before (refl, shows) in
      stepped_then offset junk taken (Flushed flushes.reply) old old (file_of machine) (file_in after) tt (flushed flushes.reply old before after answered)
      (finished later offset junk taken old mid between last after.machine rest ended is_in.1)
  finished (Other ∷ later) offset junk taken old mid live last machine (between, keeps, rest) ended shows =
      let (seen, shown, kept) = keeps machine shows in
      started_at offset junk taken old (file_of seen) (file_of machine) (same_file machine seen kept)
      (finished later offset junk taken old mid between last seen rest ended shown)

-- ---- the file isn't opened again
all_append : (one other : List Event) → GoOn one → GoOn other → GoOn (one ++ other)
all_append [] other first second = second
all_append (event ∷ events) other (goes, first) second = (goes, all_append events other first second)

step_goes_on : (step : Step) (lent : Option LentAt) → GoOn (event_of step lent)
step_goes_on (Flushed reply) lent = (tt, tt)
step_goes_on PassedOver lent = tt
step_goes_on (Page offset junk taken) None = tt
step_goes_on (Page offset junk taken) (Some lent) = (tt, tt)
step_goes_on (EndedStep junk) lent = tt

go_on : (calls : List Call) → GoOn (events_in calls)
go_on [] = tt
go_on (CameIn bytes ∷ later) = go_on later
go_on (SteppedIn step lent ∷ later) = all_append (event_of step lent) (events_in later) (step_goes_on step lent) (go_on later)

pub all_go_on : (events : List Event) (calls last : List Call) → events ≡ events_in calls ++ events_in last → GoOn events
all_go_on events calls last same = subst GoOn (sym same) (all_append (events_in calls) (events_in last) (go_on calls) (go_on last))
