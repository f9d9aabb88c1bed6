-- A hub's recorder has run what a source's stream became.
use Rattle.std.proofs.Common.{◌≡◌, ℕ, None, Option, Result, Ok, Err, IfOk, OnErr, List, [], ◌∷◌, ◌++◌, refl, sym, ◌∙◌, ap, subst}
use Rattle.std.specs.Prelude.{IfErr}
use Rattle.disk_model.specs.declared.disk.Disk.{Ghosts as DiskModel}
use Rattle.feed_records.specs.declared.item.Record.{Record}
use Rattle.feed_records.specs.declared.item.Record.TheVariants.{Command as CommandOf, Flush as FlushOf}
use Rattle.feed_replies.specs.declared.reply.Reply.{Reply}
use Rattle.feed_runner.specs.Answering.{AnswersAll}
use Rattle.import_mend.specs.declared.mend.Mend.{Mend}
use Rattle.import_record.specs.Pushing.{InputState, IsStepped}
use Rattle.import_record.specs.Running.{HasRun, StopsAt, records_of}
use Rattle.import_record.specs.declared.answering.Answered.{Answered}
use Rattle.import_record.specs.Steps.{StopsBy}
use Rattle.import_record.specs.declared.fault.RecordFault.{RecordFault}
use Rattle.import_record.specs.declared.fault.RecordFault.TheVariants.{Read, Memory, Write}
use Rattle.import_record.specs.declared.intake.Taken.{Taken}
use Rattle.import_record.specs.declared.reading.ImportRun.{ImportRun}
use Rattle.import_record.specs.declared.reading.Step.{Step as StepOf}
use Rattle.import_record.specs.declared.reading.Step.TheVariants.{Flushed, PassedOver, Page, Ended}
use Rattle.ogg_command.specs.declared.command.Command.{Command}
use Rattle.ogg_page.specs.Window.{LentAt}
use Rattle.ogg_page.specs.declared.fault.WriteFault.{WriteFault}
use Rattle.serve_hub.specs.Running.{Answers, IsIn, Progress}
use Rattle.serve_hub.specs.Showing.{Shows}
use Rattle.serve_machine.specs.Hub.{Flush, HubState, Record as Recorded}
use Rattle.serve_machine.specs.Run.{AreSteps, Step}
use Rattle.station_hub.specs.Going.{AreRecorders, left_by}
use Rattle.station_hub.specs.Live.{RecordsLive}
use Rattle.station_hub.specs.LiveLaws.{is_live_in, left_then, records_none, recorders_then, steps_then, tracks_then}
use Rattle.station_hub.specs.LiveRunning.{IsLiveIn, LiveAnswers, LiveProgress, live_in}
use Rattle.station_hub.specs.Places.{PlacesState}
use Rattle.station_hub.specs.Tracking.{TracksOn}
use Rattle.station_hub.specs.declared.live_hub.LiveHub.{LiveHub}
use Rattle.station_sources.specs.SeenLaws.{run_seen, takes_end_seen, takes_step_seen}
use Rattle.station_sources.specs.declared.air.OnAir.{OnAir}
use Rattle.station_sources.specs.declared.air.Took.{Took}
use Rattle.station_sources.specs.declared.air.Took.TheVariants.{Nothing, Bytes, Stepped, Foreign, Ended as EndedAt}
use Rattle.station_sources.specs.Taking.{TakesEnd, TakesStep}

-- ---- what a runner has answered
module _ {D : Type 0} where
  -- steps of the recorder lead from one machine to the other, and the places stay those of the file
  pub record Leads (before after : LiveProgress D) : Type 0 where
    pub steps : List Step
    pub are : AreSteps before.hub.machine steps
    pub recorders : AreRecorders steps
    pub left : left_by before.hub.machine steps ≡ after.hub.machine
    pub tracks : TracksOn before.hub.machine before.places after.hub.machine after.places

  none_leads : (before after : LiveProgress D) → after ≡ before → Leads before after
  none_leads before after same =
      subst (Leads before) (sym same) (record { steps = []; are = tt; recorders = tt; left = refl; tracks = λ start tracks. tracks })

  leads_then : (before mid after : LiveProgress D) → Leads before mid → Leads mid after → Leads before after
  leads_then before mid after first second = record {
    steps = first.steps ++ second.steps;
    are = steps_then before.hub.machine first.steps second.steps first.are
        (subst (λ (machine : HubState). AreSteps machine second.steps) (sym first.left) second.are);
    recorders = recorders_then first.steps second.steps first.recorders second.recorders;
    left = left_then before.hub.machine first.steps second.steps ∙ ap (λ (machine : HubState). left_by machine second.steps) first.left ∙ second.left;
    tracks = tracks_then before.hub.machine mid.hub.machine after.hub.machine before.places mid.places after.places first.tracks second.tracks;
  }

module _ {D : Type 0} (model : DiskModel D) where
  answered : (before after : LiveProgress D) (given : Record) (reply : Reply) (own : List ℕ) → LiveAnswers model before given reply own after
      → Leads before after
  answered before after (CommandOf command) reply own is = record {
    steps = record { event = Recorded command is.hub.1.answer; after = after.hub.machine } ∷ [];
    are = (is.hub.1.step, tt);
    recorders = (refl, tt);
    left = refl;
    tracks = is.tracks;
  }
  answered before after FlushOf reply own is = record {
    steps = record { event = Flush is.hub.1.answer; after = after.hub.machine } ∷ [];
    are = (is.hub.1.step, tt);
    recorders = (refl, tt);
    left = refl;
    tracks = is.tracks;
  }

  all_answered : (before after : LiveProgress D) (records : List Record) (replies : List Reply) (bytes : List ℕ)
      → AnswersAll (LiveAnswers model) before records replies bytes after → Leads before after
  all_answered before after [] [] bytes (none, same) = none_leads before after same
  all_answered before after (given ∷ records) (reply ∷ replies) bytes (next, own, later, first, rest, is) =
      leads_then before next after (answered before next given reply own first) (all_answered next after records replies later rest)
  all_answered before after [] (reply ∷ replies) bytes are = absurd are
  all_answered before after (given ∷ records) [] bytes are = absurd are

  stepped : (step : StepOf) (lent : Option LentAt) (old new : InputState) (before after : LiveProgress D)
      → IsStepped (LiveAnswers model) [] step lent old new before after → Leads before after
  stepped (Flushed reply) lent old new before after is = answered before after FlushOf reply [] is.steps.0
  stepped PassedOver lent old new before after is = none_leads before after is.steps.2
  stepped (Page offset junk taken) lent old new before after is =
      let takes = is.steps.1.3 in
      let runs = takes.ran.runs in
      all_answered before after (records_of takes.given) takes.ran.replies runs.bytes runs.answered
  stepped (Ended junk) lent old new before after is = none_leads before after is.steps.1.2

  takes_step : (Over : Type 0) (step : StepOf) (old new : ImportRun) (before after : LiveProgress D)
      → TakesStep (LiveAnswers model) Over step old new before after → Leads before after
  takes_step Over step old new before after takes = stepped step _ _ _ before after takes.stepped

  takes_end : (Over : Type 0) (offset : ℕ) (junk : Option Mend) (taken : Taken) (old new : ImportRun) (before after : LiveProgress D)
      → TakesEnd (LiveAnswers model) Over offset junk taken old new before after → Leads before after
  takes_end Over offset junk taken old new before after takes =
      let ended = takes.ended in
      let runs = ended.ends.ran.runs in
      leads_then before ended.reached after (stepped (Ended junk) _ _ _ before ended.reached ended.finds)
      (all_answered ended.reached after (records_of ended.ends.given) ended.ends.ran.replies runs.bytes runs.answered)

  stops : (fault : RecordFault) (before after : LiveProgress D) (old new : Option (List ℕ)) → StopsBy (LiveAnswers model) fault before after old new
      → Leads before after
  stops Read before after old new (same, kept) = none_leads before after same
  stops Memory before after old new (same, kept) = none_leads before after same
  stops Write before after old new (given, stop) =
      all_answered before after (records_of stop.front) stop.replies stop.runs.bytes stop.runs.answered

  -- whatever was answered, only the recorder has gone on
  led : (old new : LiveHub D) → ((before : LiveProgress D) → IsLiveIn model before old → (after : LiveProgress D) × IsLiveIn model after new × Leads before after)
      → RecordsLive model old new
  led old new leads before shown =
      let from : Progress D = record { now = old.hub; machine = before } in
      let (after, is_in, is) = leads (live_in from old) (is_live_in model from old (refl, shown)) in (
        is.steps,
        is.are,
        is.recorders,
        subst (λ (machine : HubState). Shows model new.hub machine) (sym is.left) is_in.hub.1,
        subst (λ (machine : HubState). TracksOn before old.places machine new.places) (sym is.left)
            (subst (λ (places : PlacesState). TracksOn before old.places after.hub.machine places) is_in.places is.tracks),
      )

  pub by_flush : (old new : LiveHub D) (reply : Reply)
      → ((before : LiveProgress D) → IsLiveIn model before old → (after : LiveProgress D) × LiveAnswers model before FlushOf reply [] after × IsLiveIn model after new)
      → RecordsLive model old new
  by_flush old new reply flushes = led old new (λ before is_in.
      let (after, answers, reached) = flushes before is_in in
      (after, reached, answered before after FlushOf reply [] answers))

  -- ---- what a source's step, and commands that are run, leave of the hub
  pub took : (old new : LiveHub D) (air now : OnAir) (Over : Type 0) (result : Result Took RecordFault)
      → ((before : LiveProgress D) (step : StepOf) → IsLiveIn model before old → result ≡ Ok (Stepped step)
      → (after : LiveProgress D) × IsLiveIn model after new × TakesStep (LiveAnswers model) Over step air.import now.import before after)
      → ((before : LiveProgress D) (offset : ℕ) (junk : Option Mend) (taken : Taken) → IsLiveIn model before old → result ≡ Ok (EndedAt offset junk taken)
      → (after : LiveProgress D) × IsLiveIn model after new × TakesEnd (LiveAnswers model) Over offset junk taken air.import now.import before after)
      → (result ≡ Ok Bytes → new ≡ old) → (result ≡ Ok Nothing → new ≡ old) → ((passed : ℕ) → result ≡ Ok (Foreign passed) → new ≡ old)
      → ((before : LiveProgress D) → IsLiveIn model before old → IfErr result (λ fault. (after : LiveProgress D) × IsLiveIn model after new
      × StopsBy (LiveAnswers model) fault before after None None))
      → RecordsLive model old new
  took old new air now Over (Ok Nothing) steps ends bytes nothing foreign stopped =
      subst (λ (live : LiveHub D). RecordsLive model old live) (sym (nothing refl)) (records_none model old)
  took old new air now Over (Ok Bytes) steps ends bytes nothing foreign stopped =
      subst (λ (live : LiveHub D). RecordsLive model old live) (sym (bytes refl)) (records_none model old)
  took old new air now Over (Ok (Foreign passed)) steps ends bytes nothing foreign stopped =
      subst (λ (live : LiveHub D). RecordsLive model old live) (sym (foreign passed refl)) (records_none model old)
  took old new air now Over (Ok (Stepped step)) steps ends bytes nothing foreign stopped = led old new (λ before is_in.
      let (after, reached, takes) = steps before step is_in refl in
      (after, reached, takes_step Over step air.import now.import before after takes))
  took old new air now Over (Ok (EndedAt offset junk taken)) steps ends bytes nothing foreign stopped = led old new (λ before is_in.
      let (after, reached, takes) = ends before offset junk taken is_in refl in
      (after, reached, takes_end Over offset junk taken air.import now.import before after takes))
  took old new air now Over (Err fault) steps ends bytes nothing foreign stopped = led old new (λ before is_in.
      let (after, reached, stop) = stopped before is_in in
      (after, reached, stops fault before after None None stop))

  pub ran : (old new : LiveHub D) (commands : List Command) (result : Result Answered WriteFault) (pages new_pages : Option (List ℕ))
      → ((before : LiveProgress D) → IsLiveIn model before old → IfOk result (λ answered. (after : LiveProgress D) × IsLiveIn model after new
      × HasRun (LiveAnswers model) commands answered before after pages new_pages))
      → ((before : LiveProgress D) → IsLiveIn model before old → OnErr result ((after : LiveProgress D) × IsLiveIn model after new
      × StopsAt (LiveAnswers model) commands before after pages new_pages))
      → RecordsLive model old new
  ran old new commands (Ok answered) pages new_pages ok err = led old new (λ before is_in.
      let (after, reached, run) = ok before is_in in
      (after, reached, all_answered before after (records_of commands) run.replies run.runs.bytes run.runs.answered))
  ran old new commands (Err fault) pages new_pages ok err = led old new (λ before is_in.
      let (after, reached, stop) = err before is_in in
      (after, reached, all_answered before after (records_of stop.front) stop.replies stop.runs.bytes stop.runs.answered))

  -- ---- the same of the hub alone
  of_hub : (before after : LiveProgress D) (given : Record) (reply : Reply) (own : List ℕ) → LiveAnswers model before given reply own after
      → Answers model before.hub given reply own after.hub
  of_hub before after given reply own answers = answers.hub

  abbrev hub_of : LiveProgress D → Progress D
  hub_of live = live.hub

  pub flushed : (old new : LiveHub D) (reply : Reply)
      → ((before : LiveProgress D) → IsLiveIn model before old → (after : LiveProgress D) × LiveAnswers model before FlushOf reply [] after × IsLiveIn model after new)
      → (before : Progress D) → IsIn model before old.hub → (after : Progress D) × Answers model before FlushOf reply [] after × IsIn model after new.hub
  flushed old new reply flushes before is_in =
      let (after, answers, reached) = flushes (live_in before old) (is_live_in model before old is_in) in
      (after.hub, answers.hub, reached.hub)

  pub hub_stepped : (Over : Type 0) (step : StepOf) (old new : ImportRun) (before after : LiveProgress D) → TakesStep (LiveAnswers model) Over step old new before after
      → TakesStep (Answers model) Over step old new before.hub after.hub
  hub_stepped Over step old new before after takes = takes_step_seen (LiveAnswers model) (Answers model) hub_of of_hub Over step old new before after takes

  pub hub_ended : (Over : Type 0) (offset : ℕ) (junk : Option Mend) (taken : Taken) (old new : ImportRun) (before after : LiveProgress D)
      → TakesEnd (LiveAnswers model) Over offset junk taken old new before after → TakesEnd (Answers model) Over offset junk taken old new before.hub after.hub
  hub_ended Over offset junk taken old new before after takes =
      takes_end_seen (LiveAnswers model) (Answers model) hub_of of_hub Over offset junk taken old new before after takes

  pub hub_ran : (commands : List Command) (result : Answered) (before after : LiveProgress D) (old new : Option (List ℕ))
      → HasRun (LiveAnswers model) commands result before after old new → HasRun (Answers model) commands result before.hub after.hub old new
  hub_ran commands result before after old new run = run_seen (LiveAnswers model) (Answers model) hub_of of_hub commands result before after old new run
