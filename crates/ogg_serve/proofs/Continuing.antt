-- Calls lead the history of a hub's file on.
use Rattle.std.proofs.Common.{◌≡◌, ◌≢◌, ℕ, Bool, true, false, not, ◌||◌, Option, Some, None, Result, Ok, Err, List, [], ◌∷◌, ◌++◌, ◌⊎◌, inl, inr, refl, sym, ap, ◌∙◌, subst, subst₂}
use Rattle.std.specs.Prelude.{IfErr, IfSome, is_some, ⊤}
use Rattle.disk_model.specs.declared.disk.Disk.{Ghosts as DiskModel}
use Rattle.disk_model.specs.Image.{DiskState}
use Rattle.link_chain.specs.Recording.{Recording}
use Rattle.chain_rules.specs.Recording.{add}
use Rattle.feed_replies.specs.declared.fault.RunFault.{RunFault}
use Rattle.feed_replies.specs.declared.fault.RunFault.TheVariants.{Feed, Write, TooMany}
use Rattle.feed_records.specs.declared.item.Record.{Record}
use Rattle.feed_records.specs.declared.item.Record.TheVariants.{Command as CommandOf, Flush}
use Rattle.feed_replies.specs.declared.reply.Kept.{Kept}
use Rattle.feed_replies.specs.declared.reply.Reply.{Reply}
use Rattle.feed_run.specs.Run.{RunState, Steps, StopsAt, StopsBy, Streams}
use Rattle.gate_file.specs.declared.fault.OpenFault.{OpenFault}
use Rattle.ogg_command.specs.declared.command.Command.{Command}
use Rattle.ogg_command.specs.declared.refusal.Refusal.{Refusal}
use Rattle.ogg_command.specs.declared.refusal.Refusal.TheVariants.{Disk, Failed}
use Rattle.history.specs.World.{World, Call, Opening, Step, Faulted, Looked, Opened, happens, run, disk_after}
use Rattle.history.specs.History.{StandsIn, run-append, disk_after-append, steps-append}
use Rattle.file_recorder.specs.Answer.{call_of, command_step, flush_step}
use Rattle.file_recorder.specs.Recorder.{RecorderState, IsRecorderStep}
use Rattle.file_recorder.specs.Recovery.{Shows as ShowsRecording, Accepts}
use Rattle.file_recorder.specs.Running.{reply_of, reply_of_flush}
use Rattle.feed_replies.specs.declared.outcome.Outcome.{Outcome}
use Rattle.feed_replies.specs.declared.outcome.Outcome.TheVariants.{Held as WasHeld, Kept as WasKept}
use Rattle.serve_hub.specs.declared.opening.Lost.{Lost}
use Rattle.serve_hub.specs.Images.{IfFile, Flushes, OpensIn, Reads, Records, Reopens, disk_in}
use Rattle.serve_hub.specs.Parts.{HubParts, OnlyFile}
use Rattle.serve_hub.specs.Running.{Answers, CommandAnswered, FlushAnswered, IsIn, Progress, waiting_in}
use Rattle.serve_hub.specs.Showing.{Shows, ShowsPlace}
use Rattle.serve_machine.specs.Hub.{HubState, flush_step as machine_flush, is_failed}
use Rattle.ogg_serve.specs.Feeding.{FollowsIf, HasAnswered, HasStepped, Reopened, says_failed}
use Rattle.ogg_serve.specs.FileHistory.{ContinuesHistory, GoesOnTo, RecorderStands, StandsOn}
use Rattle.ogg_serve.specs.declared.feeding.Step.{Step as FeedStep}
use Rattle.ogg_serve.specs.declared.feeding.Step.TheVariants.{Done, End, Lost as LostOf}

-- ---- what a failed answer closes
command_closes : (w : World Command) (answer : Result Outcome Refusal) (call : Call Command) (command : Command) → says_failed (reply_of answer) ≡ true
    → (happens w (command_step answer call command)).is_open ≡ false
command_closes w (Ok (WasHeld count)) call command says = cc says
command_closes w (Ok (WasKept kept)) call command says = cc says
command_closes w (Err Disk) call command says = refl
command_closes w (Err _) call command says = cc says

flush_closes : (w : World Command) (answer : Result Kept Refusal) → says_failed (reply_of_flush answer) ≡ true → (happens w (flush_step answer)).is_open ≡ false
flush_closes w (Ok kept) says = cc says
flush_closes w (Err refusal) says = refl

open_if : (is_open : Bool) → not is_open ≡ false → is_open ≡ true
open_if true e = refl
open_if false e = cc e

closed_if : (is_open : Bool) → not is_open ≡ true → is_open ≡ false
closed_if true e = cc e
closed_if false e = refl

-- a machine whose recorder has failed refuses a flush
flush_refused : (old new : HubState) (answer : Result Kept Refusal) → is_failed old ≡ true → machine_flush old answer new → answer ≡ Err Failed
flush_refused old new (Ok kept) failed step = let no : true ≡ false = sym failed ∙ step.0 in cc
flush_refused old new (Err Failed) failed step = refl
flush_refused old new (Err Disk) failed step = let no : true ≡ false = sym failed ∙ step.0 in cc
flush_refused old new (Err _) failed step = absurd step

has_failed : (has_file doubt : Bool) → has_file ≡ true → doubt ≡ true → (not has_file || doubt) ≡ true
has_failed true true file failed = refl
has_failed true false file failed = cc failed
has_failed false doubt file failed = cc file

not_disk : (answer : Result Kept Refusal) (A : Type 0) → answer ≡ Err Failed → IfErr answer (λ refusal. refusal ≢ Disk → A) → A
not_disk answer A is same = subst (λ (r : Result Kept Refusal). IfErr r (λ refusal. refusal ≢ Disk → A)) is same (λ e. cc e)

pub reply_of_step : (found : Option Reply) (reply : Reply) (P : Reply → Type 0) → found ≡ Some reply → IfSome found P → P reply
reply_of_step found reply P is h = subst (λ (o : Option Reply). IfSome o P) is h

-- ---- steps
module _ {D : Type 0} (model : DiskModel D) where
  abbrev Stands : Recording → World Command → Option (RecorderState D) → Option (Lost D) → D → Type 0
  Stands first w file lost disk = StandsOn model first w file lost disk

  abbrev GoesOn : Recording → World Command → D → Option (RecorderState D) → Option (Lost D) → Type 0
  GoesOn first w disk file lost = GoesOnTo model first w disk file lost

  abbrev IsStepIn : Recording → World Command → Step Command → D → D → Type 0
  IsStepIn first w step old new = IsRecorderStep model first w step old new

  abbrev pub Continues : HubParts D → HubParts D → Type 0
  Continues old new = ContinuesHistory model old new

  -- what the law of histories says of one step
  abbrev pub StandsAfter : Type 0
  StandsAfter = (first : Recording) (w : World Command) (step : Step Command) (old new : D) → StandsIn ShowsRecording add first w (model.state old)
      → IsStepIn first w step old new → StandsIn ShowsRecording add first (happens w step) (model.state new)

  abbrev moved : (first : Recording) (w : World Command) (disk : D) (file file_now : Option (RecorderState D)) (lost lost_now : Option (Lost D))
      → file_now ≡ file → lost_now ≡ lost → Stands first w file lost disk → Stands first w file_now lost_now disk
  moved first w disk file file_now lost lost_now f l s = record {
    is = (λ i. disk_in (f i) (l i)) ∙ s.is;
    honest = s.honest;
    shown = s.shown;
    recorder = subst (RecorderStands model first w) (sym f) s.recorder;
  }

  abbrev rests : (first : Recording) (w : World Command) (disk : D) (file : Option (RecorderState D)) (lost : Option (Lost D)) → Stands first w file lost disk
      → GoesOn first w disk file lost
  rests first w disk file lost s = record { steps = []; are = tt; stands = s }

  -- nothing but the sessions changes
  pub stays : (old new : HubParts D) → new.file ≡ old.file → new.lost ≡ old.lost → Continues old new
  stays old new f l first w disk s = rests first w disk new.file new.lost (moved first w disk old.file new.file old.lost new.lost f l s)

  pub same : (old new : HubParts D) → new ≡ old → Continues old new
  same old new e = stays old new (ap (λ (hub : HubParts D). hub.file) e) (ap (λ (hub : HubParts D). hub.lost) e)

  abbrev and_then : (first : Recording) (w : World Command) (disk : D) (file file_now : Option (RecorderState D)) (lost lost_now : Option (Lost D))
      → (on : GoesOn first w disk file lost) → GoesOn first (run w on.steps) (disk_after disk on.steps) file_now lost_now → GoesOn first w disk file_now lost_now
  and_then first w disk file file_now lost lost_now x y = record {
    steps = x.steps ++ y.steps;
    are = steps-append model ShowsRecording Accepts add first w disk x.steps y.steps x.are y.are;
    stands =
        subst₂ (λ (world : World Command) (d : D). Stands first world file_now lost_now d) (sym (run-append w x.steps y.steps))
        (sym (disk_after-append disk x.steps y.steps)) y.stands;
  }

  pub then_on : (a b c : HubParts D) → Continues a b → Continues b c → Continues a c
  then_on a b c ab bc first w disk s =
      let x = ab first w disk s in
      and_then first w disk b.file c.file b.lost c.lost x (bc first (run w x.steps) (disk_after disk x.steps) x.stands)

  -- one step of a disk that is this one
  abbrev one : StandsAfter → (first : Recording) (w : World Command) (step : Step Command) (old new : D) (file : Option (RecorderState D)) (lost : Option (Lost D))
      → StandsIn ShowsRecording add first w (model.state old) → IsStepIn first w step old new → disk_in file lost ≡ Some new
      → RecorderStands model first (happens w step) file → GoesOn first w old file lost
  one stands first w step old new file lost shown is_step is recorder = record {
    steps = (step, new) ∷ [];
    are = (is_step, tt);
    stands = record { is = is; honest = is_step.2; shown = stands first w step old new shown is_step; recorder = recorder };
  }

  -- ---- readings
  read_on : StandsAfter → (first : Recording) (w : World Command) (disk : D) (file file_now : Option (RecorderState D)) (lost lost_now : Option (Lost D))
      → IfFile (Reads model) file file_now → lost_now ≡ lost → Stands first w file lost disk
      → GoesOn first w disk file_now lost_now
  read_on stands first w disk None file_now lost lost_now none l s =
      rests first w disk file_now lost_now (moved first w disk None file_now lost lost_now none l s)
  read_on stands first w disk (Some a) None lost lost_now reads l s = absurd reads
  read_on stands first w disk (Some a) (Some b) lost lost_now reads l s =
      let e : a.file.disk ≡ disk = cc s.is in
      let (is_step, is_in) = reads.step first w s.recorder (subst model.is_honest (sym e) s.honest) in
      subst (λ (d : D). GoesOn first w d (Some b) lost_now) e
      (one stands first w Looked a.file.disk b.file.disk (Some b) lost_now
      (subst (λ (d : D). StandsIn ShowsRecording add first w (model.state d)) (sym e) s.shown) is_step refl is_in)

  pub read : StandsAfter → (old new : HubParts D) → IfFile (Reads model) old.file new.file → new.lost ≡ old.lost
      → Continues old new
  read stands old new reads l first w disk s = read_on stands first w disk old.file new.file old.lost new.lost reads l s

  -- ---- records
  -- the history goes on, and if the reply says that the disk has failed the file is to be opened again
  abbrev Answered : Recording → World Command → D → Option (RecorderState D) → Option (Lost D) → Reply → Type 0
  Answered first w disk file lost reply =
      (on : GoesOn first w disk file lost) × (says_failed reply ≡ true → (run w on.steps).is_open ≡ false)

  without_file : (first : Recording) (w : World Command) (disk : D) (file_now : Option (RecorderState D)) (lost lost_now : Option (Lost D)) (reply : Reply)
      → file_now ≡ None → lost_now ≡ lost → Stands first w None lost disk → Answered first w disk file_now lost_now reply
  without_file first w disk file_now lost lost_now reply none l s =
      (rests first w disk file_now lost_now (moved first w disk None file_now lost lost_now none l s), λ says. s.recorder)

  command_on : StandsAfter → (first : Recording) (w : World Command) (disk : D) (file file_now : Option (RecorderState D)) (lost lost_now : Option (Lost D))
      (command : Command) (answer : Result Outcome Refusal) → IfFile (Records model command answer) file file_now
      → lost_now ≡ lost → Stands first w file lost disk → Answered first w disk file_now lost_now (reply_of answer)
  command_on stands first w disk None file_now lost lost_now command answer none l s =
      without_file first w disk file_now lost lost_now (reply_of answer) none l s
  command_on stands first w disk (Some a) None lost lost_now command answer records l s = absurd records
  command_on stands first w disk (Some a) (Some b) lost lost_now command answer records l s =
      let e : a.file.disk ≡ disk = cc s.is in
      let call = call_of a.most w command in
      let (is_step, is_in) = records.step first w s.recorder (subst model.is_honest (sym e) s.honest) in
      subst (λ (d : D). Answered first w d (Some b) lost_now (reply_of answer)) e (
        one stands first w (command_step answer call command) a.file.disk b.file.disk (Some b) lost_now
            (subst (λ (d : D). StandsIn ShowsRecording add first w (model.state d)) (sym e) s.shown) is_step refl is_in,
        command_closes w answer call command,
      )

  flush_on : StandsAfter → (first : Recording) (w : World Command) (disk : D) (a b : RecorderState D) (lost : Option (Lost D)) (answer : Result Kept Refusal)
      → Flushes model answer a b → w.is_open ≡ true → Stands first w (Some a) lost disk
      → Answered first w disk (Some b) lost (reply_of_flush answer)
  flush_on stands first w disk a b lost answer flushes going s =
      let e : a.file.disk ≡ disk = cc s.is in
      let (is_step, is_in) = flushes.step first w s.recorder going (subst model.is_honest (sym e) s.honest) in
      subst (λ (d : D). Answered first w d (Some b) lost (reply_of_flush answer)) e (
        one stands first w (flush_step answer) a.file.disk b.file.disk (Some b) lost
            (subst (λ (d : D). StandsIn ShowsRecording add first w (model.state d)) (sym e) s.shown) is_step refl is_in,
        flush_closes w answer,
      )

  -- by whether the recorder has failed
  flush_by : StandsAfter → (failed : Bool) (first : Recording) (w : World Command) (disk : D) (a b : RecorderState D) (lost : Option (Lost D)) (answer : Result Kept Refusal)
      → a.file.failed ≡ failed → (failed ≡ true → answer ≡ Err Failed) → Flushes model answer a b
      → IfErr answer (λ refusal. refusal ≢ Disk → Some b ≡ Some a) → Stands first w (Some a) lost disk → Answered first w disk (Some b) lost (reply_of_flush answer)
  flush_by stands false first w disk a b lost answer is refused flushes unchanged s =
      flush_on stands first w disk a b lost answer flushes (open_if w.is_open (sym s.recorder.failed ∙ is)) s
  flush_by stands true first w disk a b lost answer is refused flushes unchanged s =
      let as_before : Some b ≡ Some a = not_disk answer (Some b ≡ Some a) (refused refl) unchanged in
      (rests first w disk (Some b) lost (moved first w disk (Some a) (Some b) lost lost as_before refl s), λ says. closed_if w.is_open (sym s.recorder.failed ∙ is))

  flush_in : StandsAfter → (first : Recording) (w : World Command) (disk : D) (file file_now : Option (RecorderState D)) (lost lost_now : Option (Lost D))
      (machine next : HubState) (answer : Result Kept Refusal) → ShowsPlace model file lost machine
      → IfFile (Flushes model answer) file file_now → lost_now ≡ lost → machine_flush machine answer next
      → IfErr answer (λ refusal. refusal ≢ Disk → file_now ≡ file) → Stands first w file lost disk → Answered first w disk file_now lost_now (reply_of_flush answer)
  flush_in stands first w disk None file_now lost lost_now machine next answer shown none l step unchanged s =
      without_file first w disk file_now lost lost_now (reply_of_flush answer) none l s
  flush_in stands first w disk (Some a) None lost lost_now machine next answer shown flushes l step unchanged s = absurd flushes
  flush_in stands first w disk (Some a) (Some b) lost lost_now machine next answer shown flushes l step unchanged s =
      subst (λ (now : Option (Lost D)). Answered first w disk (Some b) now (reply_of_flush answer)) (sym l)
      (flush_by stands a.file.failed first w disk a b lost answer refl
      (λ failed. flush_refused machine next answer (has_failed machine.has_file (is_some machine.in_doubt) shown.has_file (shown.failed_is ∙ failed)) step)
      flushes unchanged s)

  file_of : (old new : HubParts D) → OnlyFile old new → new.lost ≡ old.lost
  file_of old new only = ap (λ (hub : HubParts D). hub.lost) only

  command_answered : StandsAfter → (before after : Progress D) (command : Command) (reply : Reply) → CommandAnswered model before after command reply
      → (first : Recording) (w : World Command) (disk : D) → Stands first w before.now.file before.now.lost disk → Answered first w disk after.now.file after.now.lost reply
  command_answered stands before after command reply a first w disk s =
      subst (λ (r : Reply). Answered first w disk after.now.file after.now.lost r) (sym a.told)
      (command_on stands first w disk before.now.file after.now.file before.now.lost after.now.lost command a.answer a.disk (file_of before.now after.now a.only) s)

  unchanged_file : (old new : HubParts D) (answer : Result Kept Refusal) → IfErr answer (λ refusal. refusal ≢ Disk → new ≡ old)
      → IfErr answer (λ refusal. refusal ≢ Disk → new.file ≡ old.file)
  unchanged_file old new (Ok kept) same = tt
  unchanged_file old new (Err refusal) same = λ other. ap (λ (hub : HubParts D). hub.file) (same other)

  flush_answered : StandsAfter → (before after : Progress D) (reply : Reply) → ShowsPlace model before.now.file before.now.lost before.machine
      → FlushAnswered model before after reply
      → (first : Recording) (w : World Command) (disk : D) → Stands first w before.now.file before.now.lost disk → Answered first w disk after.now.file after.now.lost reply
  flush_answered stands before after reply shown a first w disk s =
      subst (λ (r : Reply). Answered first w disk after.now.file after.now.lost r) (sym a.told)
      (flush_in stands first w disk before.now.file after.now.file before.now.lost after.now.lost before.machine after.machine a.answer shown a.disk
      (file_of before.now after.now a.only) a.step (unchanged_file before.now after.now a.answer a.same) s)

  answered : StandsAfter → (before after : Progress D) (given : Record) (reply : Reply) (own : List ℕ) → ShowsPlace model before.now.file before.now.lost before.machine
      → Answers model before given reply own after
      → (first : Recording) (w : World Command) (disk : D) → Stands first w before.now.file before.now.lost disk → Answered first w disk after.now.file after.now.lost reply
  answered stands before after (CommandOf command) reply own shown (none, a) first w disk s = command_answered stands before after command reply a first w disk s
  answered stands before after Flush reply own shown (none, a) first w disk s = flush_answered stands before after reply shown a first w disk s

  -- ---- reopenings
  opens_in : StandsAfter → (first : Recording) (w : World Command) (old new : D) (file : Option (RecorderState D)) (lost : Option (Lost D))
      → OpensIn model first w old new file → StandsIn ShowsRecording add first w (model.state old) → disk_in file lost ≡ Some new
      → GoesOn first w old file lost
  opens_in stands first w old new (Some recorder) lost (found, is_step, is_in) shown is = one stands first w (Opened found) old new (Some recorder) lost shown is_step is is_in
  opens_in stands first w old new None lost is_step shown is = one stands first w (Faulted Opening) old new None lost shown is_step is refl

  disk_of : (file : Option (RecorderState D)) (lost : Option (Lost D)) (machine : HubState) → ShowsPlace model file lost machine → (disk : D) × (disk_in file lost ≡ Some disk)
  disk_of (Some recorder) lost machine shown = (recorder.file.disk, refl)
  disk_of None (Some lost) machine shown = (lost.disk, refl)
  disk_of None None machine shown = absurd shown

  reopened : StandsAfter → (result : Result ⊤ OpenFault) (mid after : Progress D) → ShowsPlace model after.now.file after.now.lost after.machine
      → Reopened model result mid after
      → (first : Recording) (w : World Command) (disk : D) → w.is_open ≡ false → Stands first w mid.now.file mid.now.lost disk → GoesOn first w disk after.now.file after.now.lost
  reopened stands result mid after shown r first w disk closed s =
      let (new, is) = disk_of after.now.file after.now.lost after.machine shown in
      let opens = r.disk disk new s.is is in
      opens_in stands first w disk new after.now.file after.now.lost (opens.step first w s.shown closed s.honest) s.shown is

  follows_on : StandsAfter → (failed : Bool) (reply : Reply) (step : FeedStep) (mid after : Progress D) → ShowsPlace model after.now.file after.now.lost after.machine
      → says_failed reply ≡ failed → FollowsIf model failed reply step mid after
      → (first : Recording) (w : World Command) (disk : D) → Answered first w disk mid.now.file mid.now.lost reply → GoesOn first w disk after.now.file after.now.lost
  follows_on stands true reply (Done other) mid after shown is (says, r) first w disk (on, closes) =
      and_then first w disk mid.now.file after.now.file mid.now.lost after.now.lost on
      (reopened stands (Ok tt) mid after shown r first (run w on.steps) (disk_after disk on.steps) (closes is) on.stands)
  follows_on stands true reply (LostOf fault) mid after shown is r first w disk (on, closes) =
      and_then first w disk mid.now.file after.now.file mid.now.lost after.now.lost on
      (reopened stands (Err fault) mid after shown r first (run w on.steps) (disk_after disk on.steps) (closes is) on.stands)
  follows_on stands true reply End mid after shown is r first w disk answer = absurd r
  follows_on stands false reply step mid after shown is (told, as_mid) first w disk (on, closes) =
      subst (λ (p : Progress D). GoesOn first w disk p.now.file p.now.lost) (sym as_mid) on

  -- ---- a step of a feed
  no_end : (failed : Bool) (reply : Reply) (mid after : Progress D) → FollowsIf model failed reply End mid after → ⊥
  no_end true reply mid after f = f
  no_end false reply mid after f = let no : End ≡ Done reply = f.0 in cc

  pub has_answered : (old new : Streams) (was now : RunState) (before after : Progress D) (step : FeedStep)
      → HasAnswered model old new was now before after step
      → HasStepped model old new was now before after (Ok step)
  has_answered old new was now before after (Done reply) h = h
  has_answered old new was now before after (LostOf fault) h = h
  has_answered old new was now before after End h = absurd (no_end (says_failed h.reply) h.reply h.mid after h.follows)

  module _ (stands : StandsAfter) (old new : Streams) (was now : RunState) (before after : Progress D)
      (shown : ShowsPlace model before.now.file before.now.lost before.machine) (shown_after : ShowsPlace model after.now.file after.now.lost after.machine) where
    ran : (mid : Progress D) (reply : Reply) → Steps (Answers model) waiting_in old new was now before mid reply
        → (first : Recording) (w : World Command) (disk : D) → Stands first w before.now.file before.now.lost disk → Answered first w disk mid.now.file mid.now.lost reply
    ran mid reply (inl one_record) = answered stands before mid one_record.given reply one_record.own shown one_record.answers_it
    ran mid reply (inr flush) = answered stands before mid Flush reply [] shown flush.answers_it

    unmoved : after ≡ before → Continues before.now after.now
    unmoved e = same before.now after.now (ap (λ (p : Progress D). p.now) e)

    stopped : (given : Record) (reply : Reply) (own : List ℕ) (reached : Progress D) (waits : Bool) (pages new_pages lines new_lines : Option (List ℕ))
        → Answers model before given reply own reached → StopsAt waits pages new_pages lines new_lines own reply before reached after
        → Continues before.now after.now
    stopped given reply own reached waits pages new_pages lines new_lines a (inl none) = unmoved none.2
    stopped given reply own reached waits pages new_pages lines new_lines a (inr whole) = λ first w disk s.
        subst (λ (p : Progress D). GoesOn first w disk p.now.file p.now.lost) (sym whole.2) (answered stands before reached given reply own shown a first w disk s).0

    stops_by : (fault : RunFault) → StopsBy (Answers model) waiting_in fault old new was.version was.records before after
        → Continues before.now after.now
    stops_by (Feed fault) stop = unmoved stop.same
    stops_by TooMany stop = unmoved stop.same
    stops_by Write stop = stopped stop.given stop.reply stop.own stop.reached new.waits old.pages new.pages old.lines new.lines stop.answers_it stop.written

    pub has_stepped : (result : Result FeedStep RunFault) → HasStepped model old new was now before after result
        → Continues before.now after.now
    has_stepped (Ok (Done reply)) h = λ first w disk s.
        follows_on stands (says_failed h.reply) h.reply (Done reply) h.mid after shown_after refl h.follows first w disk (ran h.mid h.reply h.ran first w disk s)
    has_stepped (Ok (LostOf fault)) h = λ first w disk s.
        follows_on stands (says_failed h.reply) h.reply (LostOf fault) h.mid after shown_after refl h.follows first w disk (ran h.mid h.reply h.ran first w disk s)
    has_stepped (Ok End) h = unmoved h.same
    has_stepped (Err fault) h = stops_by fault h

  -- A step of a feed leaves the hub, or it is one of its run.
  pub by_outcome : {O : Type 0} (outcome : Option O) (A : O → Type 0) (old new : HubParts D) → IfSome outcome A → ((o : O) → A o → new ≡ old)
      → (outcome ≡ None → Continues old new) → Continues old new
  by_outcome None A old new closed leaves goes = goes refl
  by_outcome (Some o) A old new closed leaves goes = same old new (leaves o closed)

  pub hub_stepped : StandsAfter → (old new : Streams) (was now : RunState) (hub hub_now : HubParts D) (before : HubState) (after : Progress D) (result : Result FeedStep RunFault)
      → Shows model hub before → IsIn model after hub_now
      → HasStepped model old new was now (record { now = hub; machine = before }) after result → Continues hub hub_now
  hub_stepped stands old new was now hub hub_now before after result shown (is, shown_after) h =
      subst (λ (to : HubParts D). Continues hub to) is
      (has_stepped stands old new was now (record { now = hub; machine = before }) after shown.place
      (subst (λ (to : HubParts D). ShowsPlace model to.file to.lost after.machine) (sym is) shown_after.place) result h)
