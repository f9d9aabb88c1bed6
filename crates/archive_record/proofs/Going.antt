-- What the newest file answers leads from one account of an archive's folder to another.
use Rattle.std.proofs.Common.{◌≡◌, ℕ, Bool, true, false, Option, Some, None, List, [], ◌∷◌, ◌++◌, ⊎_elim, refl, sym, ◌∙◌, ap, subst}
use Rattle.std.specs.Prelude.{OnOk, Result, Ok, Err}
use Rattle.disk_model.specs.declared.disk.Disk.{Ghosts as DiskModel}
use Rattle.archive_folder.specs.declared.names.FileName.{FileName}
use Rattle.archive_folder.specs.declared.names.Name.{Name}
use Rattle.archive_folder.specs.Names.{Place}
use Rattle.archive_history.specs.Archive.{Archive, Newest, names}
use Rattle.feed_records.specs.declared.item.Record.{Record}
use Rattle.feed_records.specs.declared.item.Record.TheVariants.{Flush}
use Rattle.feed_replies.specs.declared.reply.Reply.{Reply}
use Rattle.feed_replies.specs.declared.reply.Reply.TheVariants.{Kept as KeptReply, Refused as RefusedReply}
use Rattle.feed_runner.specs.Answering.{AnswersAll}
use Rattle.file_recorder.specs.Ending.{AllEnded, AnswersEnd, EndRefused}
use Rattle.file_recorder.specs.Recorder.{IsIn, RecorderState}
use Rattle.file_recorder.specs.Running.{Answers, FlushedBy, Progress, Replies, progress, streams_in}
use Rattle.file_recorder.specs.Steps.{HasSteps, Stands}
use Rattle.gate_file.specs.GateFile.{GateState}
use Rattle.history.specs.World.{World, run}
use Rattle.import_record.specs.Pushing.{InputState, IsStepped}
use Rattle.import_record.specs.Running.{HasRun, StopsAt, records_of}
use Rattle.import_record.specs.declared.answering.Answered.{Answered}
use Rattle.import_record.specs.Steps.{StopsBy}
use Rattle.import_record.specs.declared.fault.RecordFault.{RecordFault}
use Rattle.import_record.specs.declared.fault.RecordFault.TheVariants.{Read, Memory, Write}
use Rattle.import_record.specs.declared.reading.Step.{Step}
use Rattle.import_record.specs.declared.reading.Step.TheVariants.{Flushed, PassedOver, Page, Ended}
use Rattle.link_chain.specs.Recording.{Recording}
use Rattle.ogg_command.specs.declared.command.Command.{Command}
use Rattle.ogg_command.specs.declared.refusal.Refusal.{Refusal}
use Rattle.ogg_command.specs.declared.refusal.Refusal.TheVariants.{Disk}
use Rattle.ogg_page.specs.Window.{LentAt}
use Rattle.archive_record.specs.Account.{LeadsTo, NewestIsLast, StaysWritten}
use Rattle.archive_record.specs.FilesState.{FilesState}
use Rattle.archive_record.specs.Leading.{CallsLeadOn}
use Rattle.archive_record.specs.Reaching.{AreAt, Comes, ComesBack, ComesFree, ComesWritten, GoesBy, GoesOnFrom, IsAtHand, IsWaiting, IsWritten, WritesIt, in_world}
use Rattle.archive_record.specs.Recovering.{IsGivenBack}
use Rattle.archive_record.specs.Retention.{IsLeftOf}
use Rattle.archive_record.specs.Writing.{AnswersIn, HasDone, HasGoneOn, IsNow, Writing, writing}
use Rattle.archive_record.specs.declared.newest.Newest.{Newest as NewestFile}
use Rattle.archive_record.specs.declared.recovery.Failed.{Failed}
use Rattle.archive_record.proofs.Kept.{all_in}
use Rattle.archive_record.proofs.Leading.{steps_lead}
use Rattle.archive_record.proofs.Reaching.{and_then, aside, back_free, back_then, comes, its_last, last_for, none_for, stays_back, stays_here, stays_written, written_then, written_then_free}

-- records that were answered in turn, and then others
pub all_then : {S : Type 0} (answers : S → Record → Reply → List ℕ → S → Type 0) (records : List Record) (replies : List Reply) (bytes : List ℕ) (before mid after : S)
    (later : List Record) (others : List Reply) (more : List ℕ) → AnswersAll answers before records replies bytes mid → AnswersAll answers mid later others more after
    → (all : List ℕ) × AnswersAll answers before (records ++ later) (replies ++ others) all after
all_then answers [] [] bytes before mid after later others more (none, same) rest =
    (more, subst (λ (s : _). AnswersAll answers s later others more after) same rest)
all_then answers (given ∷ records) (reply ∷ replies) bytes before mid after later others more (next, own, tail, first, all, is) rest =
    let (on, both) = all_then answers records replies tail next mid after later others more all rest in (own ++ on, (next, own, on, first, both, refl))
all_then answers [] (reply ∷ replies) bytes before mid after later others more all rest = absurd all
all_then answers (given ∷ records) [] bytes before mid after later others more all rest = absurd all

pub and_done : {S : Type 0} (answers : S → Record → Reply → List ℕ → S → Type 0) (before mid after : S) → HasDone answers before mid → HasDone answers mid after
    → HasDone answers before after
and_done answers before mid after first later =
    let (bytes, all) = all_then answers first.records first.replies first.bytes before mid after later.records later.replies later.bytes first.all later.all in
    record { records = first.records ++ later.records; replies = first.replies ++ later.replies; bytes = bytes; all = all }

pub on_ok_where : {A E : Type 0} (result : Result A E) (P Q : Type 0) → (P → Q) → OnOk result P → OnOk result Q
on_ok_where (Ok value) P Q each is = each is
on_ok_where (Err fault) P Q each is = tt

-- what a flush leaves
pub record FlushLeaves {D : Type 0} (old new : RecorderState D) : Type 0 where
  pub chain : new.chain ≡ old.chain
  pub kept : new.file.failed ≡ false → new.held ≡ 0

not_both : {b : Bool} → b ≡ true → b ≡ false → ⊥
not_both is other = cc

pub flush_leaves : {D : Type 0} (old new : RecorderState D) (reply : Reply) → Replies old Flush reply new → FlushLeaves old new
flush_leaves old new reply is = by_failed old.file.failed reply refl is
  where
    by_failed : (failed : Bool) (reply : Reply) → old.file.failed ≡ failed → FlushedBy failed old reply new → FlushLeaves old new
    by_failed true reply failed (told, same) = record {
      chain = ap (λ (r : RecorderState _). r.chain) same;
      kept = λ works. absurd (not_both (ap (λ (r : RecorderState _). r.file.failed) same ∙ failed) works);
    }
    by_failed false (KeptReply kept) failed (told, works, none, is) = record {
      chain = ap (λ (r : RecorderState _). r.chain) is;
      kept = λ works. ap (λ (r : RecorderState _). r.held) is;
    }
    by_failed false (RefusedReply Disk) failed (held, (bad, end, is)) = record {
      chain = ap (λ (r : RecorderState _). r.chain) is;
      kept = λ works. absurd (not_both bad works);
    }
    by_failed false reply failed none = absurd none

-- nothing was given back
pub none_given : {D : Type 0} (was : Option (NewestFile D)) (result : Option Failed) → result ≡ None → IsGivenBack was result → was ≡ None
none_given None result is given = refl
none_given (Some newest) result is given = absurd (subst (λ (one : Option Failed). IsGivenBack (Some newest) one) is given)

-- what is said of files holds of the same files
pub by_same_files : {F D : Type 0} (names_in : F → List Name) (moment : F → ℕ) (left_since : F → ℕ → List ℕ → Type 0) (is_honest : F → Type 0) (model : DiskModel D)
    (old files new : FilesState F) (was now later : Option (NewestFile D)) → new ≡ files → later ≡ now
    → GoesBy names_in moment left_since is_honest model old was files now → GoesBy names_in moment left_since is_honest model old was new later
by_same_files names_in moment left_since is_honest model old files new was now later same is goes =
    subst (λ (after : FilesState _). GoesBy names_in moment left_since is_honest model old was after later) (sym same)
    (subst (λ (newest : Option (NewestFile _)). GoesBy names_in moment left_since is_honest model old was files newest) (sym is) goes)

pub from_same : {F D : Type 0} (names_in : F → List Name) (moment : F → ℕ) (left_since : F → ℕ → List ℕ → Type 0) (is_honest : F → Type 0) (model : DiskModel D)
    (old new : FilesState F) (was first now : Option (NewestFile D)) → was ≡ first
    → GoesBy names_in moment left_since is_honest model old first new now → GoesBy names_in moment left_since is_honest model old was new now
from_same names_in moment left_since is_honest model old new was first now same goes =
    subst (λ (newest : Option (NewestFile _)). GoesBy names_in moment left_since is_honest model old newest new now) (sym same) goes

pub from_files : {F D : Type 0} (names_in : F → List Name) (moment : F → ℕ) (left_since : F → ℕ → List ℕ → Type 0) (is_honest : F → Type 0) (model : DiskModel D)
    (old first new : FilesState F) (was now : Option (NewestFile D)) → old ≡ first
    → GoesBy names_in moment left_since is_honest model first was new now → GoesBy names_in moment left_since is_honest model old was new now
from_files names_in moment left_since is_honest model old first new was now same goes =
    subst (λ (files : FilesState _). GoesBy names_in moment left_since is_honest model files was new now) (sym same) goes

module _ {D : Type 0} (model : DiskModel D) where
  -- what file_recorder says of records that were answered in turn
  abbrev pub AreStepsOf : Type 0
  AreStepsOf = (before after : Progress D) (records : List Record) (replies : List Reply) (bytes : List ℕ) → AnswersAll (Answers model) before records replies bytes after
      → HasSteps model before after records replies

  abbrev HasAnswered : Writing D → Writing D → Type 0
  HasAnswered before after = HasDone (AnswersIn model) before after

  pub none_answered : (before after : Writing D) → after ≡ before → HasAnswered before after
  none_answered before after same = record { records = []; replies = []; bytes = []; all = (refl, same) }

  pub one_answered : (before : Writing D) (given : Record) (reply : Reply) (own : List ℕ) (after : Writing D) → AnswersIn model before given reply own after
      → HasAnswered before after
  one_answered before given reply own after answer =
      record { records = given ∷ []; replies = reply ∷ []; bytes = own ++ []; all = (after, own, [], answer, (refl, refl), refl) }

  pub and_answered : (before mid after : Writing D) → HasAnswered before mid → HasAnswered mid after → HasAnswered before after
  and_answered before mid after first later = and_done (AnswersIn model) before mid after first later

  -- records and then one more
  pub and_one : (before mid after : Progress D) → HasDone (Answers model) before mid → (given : Record) (reply : Reply) (own : List ℕ) → Answers model mid given reply own after
      → HasDone (Answers model) before after
  and_one before mid after done given reply own answer =
      and_done (Answers model) before mid after done
      (record { records = given ∷ []; replies = reply ∷ []; bytes = own ++ []; all = (after, own, [], answer, (refl, refl), refl) })

  pub commands_answered : (commands : List Command) (told : Answered) (before after : Writing D) (old new : Option (List ℕ)) → HasRun (AnswersIn model) commands told before after old new
      → HasAnswered before after
  commands_answered commands told before after old new ran =
      record { records = records_of commands; replies = ran.replies; bytes = ran.runs.bytes; all = ran.runs.answered }

  pub part_answered : (commands : List Command) (before after : Writing D) (old new : Option (List ℕ)) → StopsAt (AnswersIn model) commands before after old new
      → HasAnswered before after
  part_answered commands before after old new at =
      record { records = records_of at.front; replies = at.replies; bytes = at.runs.bytes; all = at.runs.answered }

  pub one_then_flushed : (before mid after : Writing D) (reply : Reply) → HasAnswered before mid → AnswersIn model mid Flush reply [] after → HasAnswered before after
  one_then_flushed before mid after reply first answer = and_answered before mid after first (one_answered mid Flush reply [] after answer)

  pub step_answered : (bytes : List ℕ) (step : Step) (lent : Option LentAt) (old new : InputState) (before after : Writing D)
      → IsStepped (AnswersIn model) bytes step lent old new before after → HasAnswered before after
  step_answered bytes (Flushed reply) lent old new before after is = one_answered before Flush reply [] after is.steps.0
  step_answered bytes PassedOver lent old new before after is = none_answered before after is.steps.2
  step_answered bytes (Page offset junk taken) lent old new before after is =
      let ran = is.steps.1.3.ran in
      record { records = records_of is.steps.1.3.given; replies = ran.replies; bytes = ran.runs.bytes; all = ran.runs.answered }
  step_answered bytes (Ended junk) lent old new before after is = none_answered before after is.steps.1.2

  pub stop_answered : (cause : RecordFault) (before after : Writing D) (old new : Option (List ℕ)) → StopsBy (AnswersIn model) cause before after old new → HasAnswered before after
  stop_answered Read before after old new stops = none_answered before after stops.0
  stop_answered Memory before after old new stops = none_answered before after stops.0
  stop_answered Write before after old new stops =
      let at = stops.1 in record { records = records_of at.front; replies = at.replies; bytes = at.runs.bytes; all = at.runs.answered }

  -- ---- ends of streams
  pub ends_all : (records : List Record) (replies : List Reply) (bytes : List ℕ) (before after : Progress D)
      → AnswersAll (AnswersEnd streams_in (Answers model)) before records replies bytes after → AnswersAll (Answers model) before records replies bytes after
  ends_all [] [] bytes before after all = all
  ends_all (given ∷ records) (reply ∷ replies) bytes before after (next, own, later, first, all, is) =
      (next, own, later, first.1, ends_all records replies later next after all, is)
  ends_all [] (reply ∷ replies) bytes before after all = absurd all
  ends_all (given ∷ records) [] bytes before after all = absurd all

  pub all_ended : (before after : Progress D) (replies : List Reply) → AllEnded streams_in (Answers model) before after replies → HasDone (Answers model) before after
  all_ended before after replies is =
      let e = is.ended in
      record { records = e.records; replies = replies; bytes = e.bytes; all = ends_all e.records replies e.bytes before after e.answers_all }

  pub one_refused : (before after : Progress D) (replies : List Reply) (refusal : Refusal) → EndRefused streams_in (Answers model) before after replies refusal
      → HasDone (Answers model) before after
  one_refused before after replies refusal is =
      let e = is.ended in
      and_one before is.mid after (record { records = e.records; replies = replies; bytes = e.bytes; all = ends_all e.records replies e.bytes before is.mid e.answers_all })
      is.last (RefusedReply refusal) is.own is.answers_it.1

  pub all_done : (before after : Writing D) → HasAnswered before after → HasDone (Answers model) before.progress after.progress
  all_done before after is =
      let (all, same) = all_in model is.records is.replies is.bytes before after is.all in
      record { records = is.records; replies = is.replies; bytes = is.bytes; all = all }

  pub same_name : (before after : Writing D) → HasAnswered before after → after.name ≡ before.name
  same_name before after is = (all_in model is.records is.replies is.bytes before after is.all).1

module _ {F D : Type 0} (names_in : F → List Name) (moment : F → ℕ) (left_since : F → ℕ → List ℕ → Type 0) (is_honest : F → Type 0) (file_in : F → ℕ → Place D) (model : DiskModel D)
    (law : CallsLeadOn names_in moment left_since model) where
  -- the recorder of the newest file has come so far
  pub written_on : (files : FilesState F) (a : Archive Command) (file : Newest Command) (n : ℕ) (recorder : RecorderState D) (disks : ℕ → D) (after : Progress D)
      → AreAt names_in model files a disks → IsWritten model a file n recorder disks → files.out ≡ Some n → HasDone (Answers model) (progress [] file.world recorder) after → AreStepsOf model
      → ComesWritten names_in moment left_since model files a disks n after.now files
  written_on files a file n recorder disks after at written out done of =
      let s = of (progress [] file.world recorder) after done.records done.replies done.bytes done.all in
      let here : Stands model (progress [] file.world recorder) = (written.honest, written.stands) in
      let stands = s.stands here in
      let own : disks file.name.number ≡ recorder.file.disk = ap disks written.number_is ∙ written.here in
      let (b, later, newest, ended, there, named, leads) =
      steps_lead names_in moment left_since model law s.steps a file disks files.folder recorder.file.disk s.are_commands written.newest at.stands.names_are written.stays own (s.are here) in
      let world = run file.world s.steps in
      let (front, last, is, number) = its_last names_in moment left_since file_in model law files a disks file at written.newest in (
        b,
        in_world file world,
        later,
        record {
          newest = newest;
          number_is = written.number_is;
          stays = written.stays;
          stands = subst (λ (w : World Command). IsIn model [] w after.now) (sym s.leads)
              (subst (λ (r : Recording). IsIn model r after.world after.now) s.same stands.1);
          here = sym (ap later written.number_is) ∙ there ∙ s.ends;
          honest = stands.0;
        },
        out,
        comes names_in moment left_since file_in model law files files a b disks later at
            (last_for names_in moment left_since file_in model law files.files b (in_world file world) newest (front, last, is, number)) leads,
      )

  -- it was told first how many commands wait
  pub written_after : (files : FilesState F) (a : Archive Command) (file : Newest Command) (n : ℕ) (old new : RecorderState D) (disks : ℕ → D)
      → AreAt names_in model files a disks → IsWritten model a file n old disks → files.out ≡ Some n → HasGoneOn model file.world old new → AreStepsOf model
      → ComesWritten names_in moment left_since model files a disks n new files
  written_after files a file n old new disks at written out gone of =
      let (told, same, stands, after, now, done) = gone written.stands in
      subst (λ (r : RecorderState D). ComesWritten names_in moment left_since model files a disks n r files) now
      (written_on files a file n told disks after at (record {
        newest = written.newest;
        number_is = written.number_is;
        stays = written.stays;
        stands = stands;
        here = written.here ∙ ap (λ (f : GateState D). f.disk) (sym same);
        honest = subst (λ (f : GateState D). model.is_honest f.disk) (sym same) written.honest;
      }) out done of)

  -- what the newest file has answered leads on
  pub goes_by : (files : FilesState F) (old : NewestFile D) (now : Option (NewestFile D)) → AreStepsOf model
      → ((before : Writing D) → IsNow before (Some old) → (after : Writing D) × IsNow after now × HasDone (AnswersIn model) before after)
      → GoesBy names_in moment left_since is_honest model files (Some old) files now
  goes_by files old now of answered = λ honest. (
    honest,
    λ a disks at (file, written, out).
        let before = writing old.name (progress [] file.world old.recorder) in
        let (after, reached, is) = answered before (refl, refl) in
        at_last now a disks before after reached (same_name model before after is)
        (written_on files a file old.name.number old.recorder disks after.progress at written out (all_done model before after is) of),
  )
    where
      at_last : (now : Option (NewestFile D)) (a : Archive Command) (disks : ℕ → D) (before after : Writing D) → IsNow after now → after.name ≡ before.name
          → ComesWritten names_in moment left_since model files a disks before.name.number after.progress.now files
          → (b : Archive Command) × (later : ℕ → D) × WritesIt model files now b later × Comes names_in moment left_since model files a disks files b later
      at_last None a disks before after reached same led = absurd reached
      at_last (Some newest) a disks before after (named, here) same (b, file, later, written, out, so_far) =
          let number : before.name.number ≡ newest.name.number = sym (ap (λ (f : FileName). f.number) same) ∙ ap (λ (f : FileName). f.number) named in (
            b,
            later,
            (
              file,
              subst (λ (r : RecorderState D). IsWritten model b file newest.name.number r later) here
                  (subst (λ (k : ℕ). IsWritten model b file k after.progress.now later) number written),
              out ∙ ap Some number,
            ),
            so_far,
          )

  -- its recorder has
  pub goes_by_done : (files : FilesState F) (old now : NewestFile D) → now.name ≡ old.name → AreStepsOf model
      → ((w : World Command) → (after : Progress D) × (after.now ≡ now.recorder) × HasDone (Answers model) (progress [] w old.recorder) after)
      → GoesBy names_in moment left_since is_honest model files (Some old) files (Some now)
  goes_by_done files old now named of done = λ honest. (
    honest,
    λ a disks at (file, written, out).
        let (after, is, all) = done file.world in
        let (b, last, later, writes, still, led) = written_on files a file old.name.number old.recorder disks after at written out all of in
        let number : old.name.number ≡ now.name.number = sym (ap (λ (f : FileName). f.number) named) in (
          b,
          later,
          (
            last,
            subst (λ (r : RecorderState D). IsWritten model b last now.name.number r later) is
                (subst (λ (k : ℕ). IsWritten model b last k after.now later) number writes),
            still ∙ ap Some number,
          ),
          led,
        ),
  )

  -- nothing was done
  pub goes_none : (files : FilesState F) (newest : Option (NewestFile D)) → GoesBy names_in moment left_since is_honest model files newest files newest
  goes_none files newest = λ honest. (honest, λ a disks at it. (a, disks, it, stays_here names_in moment left_since file_in model law files a disks at))

  -- its recorder is let go
  pub goes_dropped : (files : FilesState F) (newest : NewestFile D) → GoesBy names_in moment left_since is_honest model files (Some newest) files None
  goes_dropped files newest = λ honest. (
    honest,
    λ a disks at (file, written, out).
        let (b, after, none, led) = aside names_in moment left_since file_in model law files files a a file disks disks written.newest (stays_here names_in moment left_since file_in model law files a disks at) in
        (b, after, none, led),
  )

  -- one call, and then another
  pub goes_then : (old mid new : FilesState F) (was between now : Option (NewestFile D)) → GoesBy names_in moment left_since is_honest model old was mid between
      → GoesBy names_in moment left_since is_honest model mid between new now → GoesBy names_in moment left_since is_honest model old was new now
  goes_then old mid new was between now first later = λ honest.
      let (kept, on) = first honest in
      let (still, on_from) = later kept in (
        still,
        λ a disks at it.
            let (b, then, it_then, led) = on a disks at it in
            let (c, after, it_now, led_on) = on_from b then led.0 it_then in
            (c, after, it_now, and_then names_in moment left_since file_in model law old mid new a b c disks then after led led_on),
      )

  -- no file is written from then on
  pub goes_free : (old new : FilesState F) (was : Option (NewestFile D)) → (is_honest old.folder → is_honest new.folder)
      → (is_honest old.folder → (a : Archive Command) (disks : ℕ → D) → AreAt names_in model old a disks → WritesIt model old was a disks
      → ComesFree names_in moment left_since model old a disks new)
      → GoesBy names_in moment left_since is_honest model old was new None
  goes_free old new was honest free = λ is. (
    honest is,
    λ a disks at it.
        let (b, after, none, led) = free is a disks at it in (b, after, none, led),
  )

  -- this recorder writes it from then on
  pub goes_written : (old new : FilesState F) (was : Option (NewestFile D)) (newest : NewestFile D) → (is_honest old.folder → is_honest new.folder)
      → (is_honest old.folder → (a : Archive Command) (disks : ℕ → D) → AreAt names_in model old a disks → WritesIt model old was a disks
      → ComesWritten names_in moment left_since model old a disks newest.name.number newest.recorder new)
      → GoesBy names_in moment left_since is_honest model old was new (Some newest)
  goes_written old new was newest honest written = λ is. (
    honest is,
    λ a disks at it.
        let (b, file, after, writes, out, led) = written is a disks at it in (b, after, (file, writes, out), led),
  )

  -- what is open is ended first, and then the file
  pub ended_free : (old new : FilesState F) (a : Archive Command) (file : Newest Command) (n : ℕ) (recorder held : RecorderState D) (disks : ℕ → D)
      → AreAt names_in model old a disks → IsWritten model a file n recorder disks → old.out ≡ Some n → HasGoneOn model file.world recorder held → AreStepsOf model
      → ((b : Archive Command) (one : Newest Command) (after : ℕ → D) → AreAt names_in model old b after → IsWritten model b one n held after
      → ComesFree names_in moment left_since model old b after new)
      → ComesFree names_in moment left_since model old a disks new
  ended_free old new a file n recorder held disks at written out gone of ends =
      let on = written_after old a file n recorder held disks at written out gone of in
      written_then_free names_in moment left_since file_in model law old old new a disks n held on (λ b one after there writes still. ends b one after there writes)

  pub unended_written : (old new : FilesState F) (a : Archive Command) (file : Newest Command) (n : ℕ) (recorder held back : RecorderState D) (disks : ℕ → D)
      → AreAt names_in model old a disks → IsWritten model a file n recorder disks → old.out ≡ Some n → HasGoneOn model file.world recorder held → AreStepsOf model
      → ((b : Archive Command) (one : Newest Command) (after : ℕ → D) → AreAt names_in model old b after → IsWritten model b one n held after
      → ComesWritten names_in moment left_since model old b after n back new)
      → ComesWritten names_in moment left_since model old a disks n back new
  unended_written old new a file n recorder held back disks at written out gone of ends =
      let on = written_after old a file n recorder held disks at written out gone of in
      written_then names_in moment left_since file_in model law old old new a disks n held back on (λ b one after there writes still. ends b one after there writes)

  -- files are thrown away
  pub goes_thrown : (old new : FilesState F) (newest : Option (NewestFile D)) → (is_honest old.folder → is_honest new.folder) → IsLeftOf old.files new.files → new.out ≡ old.out
      → (is_honest old.folder → (a : Archive Command) (disks : ℕ → D) → NewestIsLast old.files a → names_in old.folder ≡ names a
      → StaysWritten names_in moment left_since model a old.folder disks new.folder)
      → GoesBy names_in moment left_since is_honest model old newest new newest
  goes_thrown old new None honest left out throws = λ is. (
    honest is,
    λ a disks at none.
        let (b, same, named, leads) = throws is a disks at.last at.stands.names_are in
        let none_still = same ∙ none in
        (b, disks, none_still, comes names_in moment left_since file_in model law old new a b disks disks at (none_for names_in moment left_since file_in model law new.files b none_still) leads),
  )
  goes_thrown old new (Some newest) honest left out throws = λ is. (
    honest is,
    λ a disks at (file, written, held).
        let (b, last, after, writes, still, led) =
        stays_written names_in moment left_since file_in model law old new a file newest.name.number newest.recorder disks at written left (out ∙ held) (throws is a disks at.last at.stands.names_are) in
        (b, after, (last, writes, still), led),
  )

  -- ---- the file may be opened again
  abbrev From : FilesState F → ℕ → FilesState F → Option (NewestFile D) → Type 0
  From old n new now = GoesOnFrom names_in moment left_since is_honest model file_in old n new now

  abbrev Given : FilesState F → Option (NewestFile D) → ℕ → FilesState F → Type 0
  Given old was n new = is_honest old.folder → (a : Archive Command) (disks : ℕ → D) → AreAt names_in model old a disks → WritesIt model old was a disks
      → ComesBack names_in moment left_since model file_in old a disks n new

  -- it is set aside, and the archive goes on
  pub from_free : (old new : FilesState F) (n : ℕ) (now : Option (NewestFile D)) → GoesBy names_in moment left_since is_honest model old None new now
      → GoesOnFrom names_in moment left_since is_honest model file_in old n new now
  from_free old new n now goes = λ honest.
      let (kept, on) = goes honest in (
        kept,
        λ a file disks at number hand.
            let (b, between, none, led) = aside names_in moment left_since file_in model law old old a a file disks disks hand.newest (stays_here names_in moment left_since file_in model law old a disks at) in
            let (c, after, writes, led_on) = on b between led.0 none in
            (c, after, writes, and_then names_in moment left_since file_in model law old old new a b c disks between after led led_on),
      )

  -- it wasn't opened, and the archive goes on
  pub back_from : (old mid new : FilesState F) (n : ℕ) (now : Option (NewestFile D)) → (is_honest old.folder → is_honest mid.folder)
      → (is_honest old.folder → (a : Archive Command) (file : Newest Command) (disks : ℕ → D) → AreAt names_in model old a disks → IsAtHand file_in model old.folder a file disks
      → ComesBack names_in moment left_since model file_in old a disks file.name.number mid)
      → GoesOnFrom names_in moment left_since is_honest model file_in mid n new now → GoesOnFrom names_in moment left_since is_honest model file_in old n new now
  back_from old mid new n now honest back goes = λ is.
      let (kept, on) = goes (honest is) in (
        kept,
        λ a file disks at number hand.
            let (b, one, between, same, rests, led) = back is a file disks at hand in
            let (c, after, writes, led_on) = on b one between led.0 (same ∙ number) rests in
            (c, after, writes, and_then names_in moment left_since file_in model law old mid new a b c disks between after led led_on),
      )

  -- no file is written any more
  pub back_to_none : (old new : FilesState F) (n : ℕ) → (is_honest old.folder → is_honest new.folder)
      → (is_honest old.folder → (a : Archive Command) (file : Newest Command) (disks : ℕ → D) → AreAt names_in model old a disks → IsAtHand file_in model old.folder a file disks
      → ComesBack names_in moment left_since model file_in old a disks file.name.number new)
      → GoesOnFrom names_in moment left_since is_honest model file_in old n new None
  back_to_none old new n honest back = λ is. (
    honest is,
    λ a file disks at number hand.
        let (b, after, none, led) = back_free names_in moment left_since file_in model law old new a disks file.name.number (back is a file disks at hand) in
        (b, after, none, led),
  )

  pub to_same : (old new : FilesState F) (n : ℕ) (now later : Option (NewestFile D)) → later ≡ now → From old n new now → From old n new later
  to_same old new n now later same goes = subst (λ (newest : Option (NewestFile D)). From old n new newest) (sym same) goes

  pub from_other : (old first new : FilesState F) (n : ℕ) (now : Option (NewestFile D)) → old ≡ first → From first n new now → From old n new now
  from_other old first new n now same goes = subst (λ (files : FilesState F). From files n new now) (sym same) goes

  -- its recorder writes it, and the archive goes on
  pub opened_from : (old mid new : FilesState F) (n : ℕ) (newest : NewestFile D) (now : Option (NewestFile D)) → newest.name.number ≡ n
      → (is_honest old.folder → is_honest mid.folder)
      → (is_honest old.folder → (a : Archive Command) (file : Newest Command) (disks : ℕ → D) → AreAt names_in model old a disks → IsAtHand file_in model old.folder a file disks
      → ComesWritten names_in moment left_since model old a disks file.name.number newest.recorder mid)
      → GoesBy names_in moment left_since is_honest model mid (Some newest) new now → GoesOnFrom names_in moment left_since is_honest model file_in old n new now
  opened_from old mid new n newest now own honest opened goes = λ is.
      let (kept, on) = goes (honest is) in (
        kept,
        λ a file disks at number hand.
            let (b, last, between, written, out, led) = opened is a file disks at hand in
            let same : file.name.number ≡ newest.name.number = number ∙ sym own in
            let (c, after, writes, led_on) = on b between led.0 (last, subst (λ (k : ℕ). IsWritten model b last k newest.recorder between) same written, out ∙ ap Some same) in
            (c, after, writes, and_then names_in moment left_since file_in model law old mid new a b c disks between after led led_on),
      )

  -- a recorder's file was given back, and the archive goes on
  pub given_then : (old mid new : FilesState F) (was now : Option (NewestFile D)) (n : ℕ) → (is_honest old.folder → is_honest mid.folder) → Given old was n mid → From mid n new now
      → GoesBy names_in moment left_since is_honest model old was new now
  given_then old mid new was now n honest given goes = λ is.
      let (kept, on) = goes (honest is) in (
        kept,
        λ a disks at writes.
            let (b, file, between, number, hand, led) = given is a disks at writes in
            let (c, after, writes_on, led_on) = on b file between led.0 number hand in
            (c, after, writes_on, and_then names_in moment left_since file_in model law old mid new a b c disks between after led led_on),
      )

  pub given_free : (old new : FilesState F) (was : Option (NewestFile D)) (n : ℕ) → (is_honest old.folder → is_honest new.folder) → Given old was n new
      → GoesBy names_in moment left_since is_honest model old was new None
  given_free old new was n honest given = λ is. (
    honest is,
    λ a disks at writes.
        let (b, after, none, led) = back_free names_in moment left_since file_in model law old new a disks n (given is a disks at writes) in
        (b, after, none, led),
  )

  -- files go meanwhile
  pub given_room : (old mid new : FilesState F) (was : Option (NewestFile D)) (n : ℕ) → (is_honest old.folder → is_honest mid.folder) → Given old was n mid
      → IsLeftOf mid.files new.files → (is_honest mid.folder → file_in new.folder ≡ file_in mid.folder)
      → (is_honest mid.folder → (a : Archive Command) (disks : ℕ → D) → NewestIsLast mid.files a → names_in mid.folder ≡ names a
      → StaysWritten names_in moment left_since model a mid.folder disks new.folder)
      → Given old was n new
  given_room old mid new was n honest given left places throws = λ is a disks at writes.
      let kept = honest is in
      back_then names_in moment left_since file_in model law old mid new a disks n (given is a disks at writes)
      (λ b file after there hand. stays_back names_in moment left_since file_in model law mid new b file after there hand left (places kept) (throws kept b after there.last there.stands.names_are))

  -- ---- a start
  -- none was opened
  pub begun_none : {R E : Type 0} (old new : FilesState F) (b : Archive Command) (disks : ℕ → D) → AreAt names_in model old b disks → IsWaiting file_in model old b disks
      → (result : Result (Option R) E) → result ≡ Ok None → (old.files ≡ [] → (result ≡ Ok None) × (new ≡ old))
      → (result ≡ Ok None → (a : Archive Command) (last : Newest Command) (at : ℕ → D) → AreAt names_in model old a at → IsAtHand file_in model old.folder a last at
      → ComesFree names_in moment left_since model old a at new)
      → (c : Archive Command) × (after : ℕ → D) × WritesIt model new None c after × Comes names_in moment left_since model old b disks new c after
  begun_none old new b disks at waiting result is empty unopened = ⊎_elim
      (λ (none, known). (
        b,
        disks,
        none,
        subst (λ (files : FilesState F). Comes names_in moment left_since model old b disks files b disks) (sym (empty known).1) (stays_here names_in moment left_since file_in model law old b disks at),
      ))
      (λ (file, hand). let (c, after, none, led) = unopened is b file disks at hand in (c, after, none, led))
      waiting

  -- this recorder writes the last file
  pub begun_some : {R E : Type 0} (old new : FilesState F) (b : Archive Command) (disks : ℕ → D) → AreAt names_in model old b disks → IsWaiting file_in model old b disks
      → (newest : NewestFile D) (found : R) (result : Result (Option R) E) → result ≡ Ok (Some found) → (old.files ≡ [] → (result ≡ Ok None) × (new ≡ old))
      → ((a : Archive Command) (last : Newest Command) (at : ℕ → D) → AreAt names_in model old a at → IsAtHand file_in model old.folder a last at
      → ComesWritten names_in moment left_since model old a at newest.name.number newest.recorder new)
      → (c : Archive Command) × (after : ℕ → D) × WritesIt model new (Some newest) c after × Comes names_in moment left_since model old b disks new c after
  begun_some old new b disks at waiting newest found result is empty opened = ⊎_elim
      (λ (none, known). absurd (no_some found result is (empty known).0))
      (λ (file, hand). let (c, one, after, written, out, led) = opened b file disks at hand in (c, after, (one, written, out), led))
      waiting
    where
      no_some : {R E : Type 0} (found : R) (result : Result (Option R) E) → result ≡ Ok (Some found) → result ≡ Ok None → ⊥
      no_some found result is other = cc

  -- the archive was opened, and files were thrown away
  pub started_then : (a : Archive Command) (folder : F) (old opened told new : FilesState F) (disks : ℕ → D) (b : Archive Command) (was now : Option (NewestFile D))
      → LeadsTo names_in moment left_since model a folder disks b old.folder disks → is_honest opened.folder → told ≡ opened → now ≡ was
      → ((c : Archive Command) × (after : ℕ → D) × WritesIt model opened was c after × Comes names_in moment left_since model old b disks opened c after)
      → GoesBy names_in moment left_since is_honest model told now new now
      → is_honest new.folder
      × ((c : Archive Command) × (after : ℕ → D) × WritesIt model new now c after × AreAt names_in model new c after × LeadsTo names_in moment left_since model a folder disks c new.folder after)
  started_then a folder old opened told new disks b was now leads honest same is (c, between, writes, led) thrown =
      let from = subst (λ (files : FilesState F). GoesBy names_in moment left_since is_honest model files now new now) same thrown in
      let (kept, on) = from honest in
      let (d, after, writes_on, led_on) = on c between led.0 (subst (λ (newest : Option (NewestFile D)). WritesIt model opened newest c between) (sym is) writes) in (
        kept,
        (
          d,
          after,
          writes_on,
          led_on.0,
          law.both a c d folder opened.folder new.folder disks between after (law.both a b c folder old.folder opened.folder disks disks between leads led.1) led_on.1,
        ),
      )
