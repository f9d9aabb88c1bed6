-- What the files of an archive have of what was recorded into them.
use Rattle.std.proofs.Common.{◌≡◌, ℕ, Option, List, [], ◌∷◌, ◌∙◌, ap}
use Rattle.disk_model.specs.declared.disk.Disk.{Ghosts as DiskModel}
use Rattle.archive_folder.specs.Names.{Place}
use Rattle.feed_records.specs.declared.item.Record.{Record}
use Rattle.feed_replies.specs.declared.reply.Reply.{Reply}
use Rattle.feed_runner.specs.Answering.{AnswersAll}
use Rattle.file_recorder.specs.Running.{Answers}
use Rattle.import_record.specs.Steps.{IntakeState}
use Rattle.import_record.specs.Whole.{Done, Event, Records}
use Rattle.import_record.specs.Whole.Event.{Flushing, Resuming, Taking}
use Rattle.archive_record.specs.Recorded.{FollowOn, HasKept, HaveKept, Part}
use Rattle.archive_record.specs.Writing.{AnswersIn, Writing}

module _ {D : Type 0} (model : DiskModel D) where
  -- what the newest file answers its recorder answers, and the file is the same
  pub all_in : (records : List Record) (replies : List Reply) (bytes : List ℕ) (before after : Writing D) → AnswersAll (AnswersIn model) before records replies bytes after
      → AnswersAll (Answers model) before.progress records replies bytes after.progress × (after.name ≡ before.name)
  all_in [] [] bytes before after (none, same) = ((none, ap (λ (w : Writing D). w.progress) same), ap (λ (w : Writing D). w.name) same)
  all_in (given ∷ records) (reply ∷ replies) bytes before after (next, own, later, first, rest, is) =
      let (all, same) = all_in records replies later next after rest in ((next.progress, own, later, first.answered, all, is), same ∙ first.same)
  all_in [] (reply ∷ replies) bytes before after are = absurd are
  all_in (given ∷ records) [] bytes before after are = absurd are

  -- these records are those of the recorder, and the file is the same
  abbrev RecordedIn : List Event → IntakeState → IntakeState → Done → Writing D → Writing D → Type 0
  RecordedIn events old new done before after =
      Records (Answers model) events old new done before.progress after.progress × (after.name ≡ before.name)

  records_in : (events : List Event) (old new : IntakeState) (done : Done) (before after : Writing D) → Records (AnswersIn model) events old new done before after
      → RecordedIn events old new done before after
  records_in [] old new done before after (same, none, here) =
      ((same, none, ap (λ (w : Writing D). w.progress) here), ap (λ (w : Writing D). w.name) here)
  records_in (Flushing ∷ later) old new done before after (reply, own, mid, rest, answer, records, is) =
      let (all, same) = records_in later old new rest mid after records in
      ((reply, own, mid.progress, rest, answer.answered, all, is), same ∙ answer.same)
  records_in (Taking lent ∷ later) old new done before after (next, taken, mid, pages, new_pages, rest, takes, records, is) =
      let (all, same) = records_in later next new rest mid after records in
      let runs = takes.ran.runs in
      let (answered, stays) = all_in _ takes.ran.replies runs.bytes before mid runs.answered in (
        (
          next,
          taken,
          mid.progress,
          pages,
          new_pages,
          rest,
          record {
            more = takes.more;
            given = takes.given;
            mended = takes.mended;
            options = takes.options;
            changed = takes.changed;
            begun = takes.begun;
            ran = record {
              replies = takes.ran.replies;
              runs = record { bytes = runs.bytes; answered = answered; written = runs.written };
              result_is = takes.ran.result_is;
            };
          },
          all,
          is,
        ),
        same ∙ stays,
      )
  records_in (Resuming streams serials ∷ later) old new done before after (next, commands, told, mid, pages, new_pages, rest, resumes, ran, records, is) =
      let (all, same) = records_in later next new rest mid after records in
      let (answered, stays) = all_in _ ran.replies ran.runs.bytes before mid ran.runs.answered in (
        (
          next,
          commands,
          told,
          mid.progress,
          pages,
          new_pages,
          rest,
          resumes,
          record {
            replies = ran.replies;
            runs = record { bytes = ran.runs.bytes; answered = answered; written = ran.runs.written };
            result_is = ran.result_is;
          },
          all,
          is,
        ),
        same ∙ stays,
      )

  -- what import_record says of the recordings of a recorder
  abbrev pub AreKept : Type 0
  AreKept =
      (events : List Event) (old new : IntakeState) (done : Done) (before after : Writing D)
      → Records (Answers model) events old new done before.progress after.progress → after.name ≡ before.name → HasKept model before after done

  pub kept_in : AreKept → (events : List Event) (old new : IntakeState) (done : Done) (before after : Writing D)
      → Records (AnswersIn model) events old new done before after → HasKept model before after done
  kept_in law events old new done before after records =
      let (all, same) = records_in events old new done before after records in law events old new done before after all same

module _ {D F : Type 0} (model : DiskModel D) (is_honest : F → Type 0) (file_in : F → ℕ → Place D) (bound : Option ℕ) where
  pub kept_on : AreKept model → (parts : List (Part D F)) (before : Writing D) (old : IntakeState) (after : Writing D) (new : IntakeState)
      → FollowOn model is_honest file_in bound parts before old after new → HaveKept model parts
  kept_on law [] before old after new follow = tt
  kept_on law (part ∷ later) before old after new (mid, next, on, records, follow) = (
    kept_in model law _ old mid part.done part.begun part.last records,
    kept_on law later part.last mid after new follow,
  )
