-- Calls of an archive, in turn, are a recording over its files.
use Rattle.std.proofs.Common.{◌≡◌, ◌⊎◌, inl, inr, ℕ, Option, Some, None, Ok, List, [], ◌∷◌, ◌++◌, refl, sym, ◌∙◌, ap, subst, append_assoc}
use Rattle.disk_model.specs.declared.disk.Disk.{Ghosts as DiskModel}
use Rattle.archive_folder.specs.Names.{Place}
use Rattle.feed_records.specs.declared.item.Record.TheVariants.{Flush}
use Rattle.feed_replies.specs.declared.reply.Reply.{Reply}
use Rattle.feed_runner.specs.Answering.{AnswersAll}
use Rattle.file_recorder.specs.Recorder.{RecorderState}
use Rattle.file_recorder.specs.Running.{progress}
use Rattle.import_mend.specs.Gives.{Mending}
use Rattle.import_mend.specs.Importing.{mending_of}
use Rattle.import_mend.specs.declared.import.Import.{Import}
use Rattle.import_pages.specs.Reader.{HasAdvanced, ReaderState}
use Rattle.import_mend.specs.Whole.{TakesPages}
use Rattle.import_mend.specs.declared.mend.Mend.{Mend}
use Rattle.import_record.specs.Begun.{streams_after, streams_with}
use Rattle.import_record.specs.Pushing.{IsStepped, NeedsNone}
use Rattle.import_record.specs.Resuming.{Resumes}
use Rattle.import_record.specs.Running.{HasRun, nothing}
use Rattle.import_record.specs.declared.answering.Answered.{Answered}
use Rattle.import_record.specs.Steps.{IntakeState, Takes, state_of}
use Rattle.import_record.specs.Whole.{Done, Event, Records, flush_then, nothing_done, page_then, pages_in, resumed_then}
use Rattle.import_record.specs.Whole.Event.{Flushing, Taking}
use Rattle.import_record.specs.declared.begun.BegunStream.{BegunStream}
use Rattle.import_record.specs.declared.intake.Taken.{Taken}
use Rattle.import_record.specs.declared.reading.ImportRun.{ImportRun}
use Rattle.import_record.specs.declared.reading.Step.{Step}
use Rattle.import_record.specs.declared.reading.Step.TheVariants.{Flushed as FlushedStep, PassedOver, Page, Ended}
use Rattle.ogg_command.specs.declared.command.Command.{Command}
use Rattle.ogg_page.specs.Window.{LentAt}
use Rattle.archive_record.specs.Changing.{GoesOver, HasBegun, HasNotEnded, IsReopened, IsSetAside}
use Rattle.archive_record.specs.Recorded.{Again, Aside, AreCalled, Begins, Call, Came, Change, Flushed, FollowOn, IsRecordedOver, Looked, Over, Part, Reopened, SetAside, Stays, Took, Unended, WentOver, Works, came_in, goes_on_by, mends_of, more_of, pages_of}
use Rattle.archive_record.specs.Filing.{unwritten}
use Rattle.archive_record.specs.Stepping.{input_of}
use Rattle.archive_record.specs.Writing.{AnswersIn, IsNow, Writing, writing}
use Rattle.archive_record.specs.declared.newest.Newest.{Newest}
use Rattle.archive_record.proofs.Fed.{IsFed, fed_ended, fed_more, fed_none, fed_page, fed_passed}

module _ {D F : Type 0} (model : DiskModel D) (is_honest : F → Type 0) (file_in : F → ℕ → Place D) (bound : Option ℕ) where
  -- what was recorded, and the pages of it, with the bytes that came meanwhile
  pub record Whole (bytes : List ℕ) (before : Writing D) (old : IntakeState) (start : ReaderState) (now : Option (Newest D)) (new : IntakeState)
      (end : ReaderState) : Type 0 where
    pub over : IsRecordedOver model is_honest file_in bound before old now new
    pub fed : IsFed (pages_in over.events ++ pages_of over.parts) bytes start end old.mending new.mending

  abbrev pub WholeOf : List ℕ → Writing D → ImportRun → Option (Newest D) → ImportRun → Type 0
  WholeOf bytes before run now last = Whole bytes before (state_of run) run.input.pages now (state_of last) last.input.pages

  -- nothing was recorded
  none_recorded : (before : Writing D) (run : ImportRun) (now : Option (Newest D)) → IsNow before now → WholeOf [] before run now run
  none_recorded before run now is = record {
    over = record {
      events = [];
      done = nothing_done;
      mid = state_of run;
      last = before;
      on = tt;
      records = (refl, refl, refl);
      parts = [];
      after = before;
      follow = (refl, refl);
      reached = is;
    };
    fed = fed_none run.input.pages (state_of run).mending;
  }

  -- the input is as it was
  at_intake : (bytes : List ℕ) (before : Writing D) (old other : IntakeState) (start : ReaderState) (now : Option (Newest D)) (new : IntakeState) (end : ReaderState)
      → other ≡ old → Whole bytes before other start now new end → Whole bytes before old start now new end
  at_intake bytes before old other start now new end same is = subst (λ (one : IntakeState). Whole bytes before one start now new end) same is

  at_reader : (bytes : List ℕ) (before : Writing D) (old : IntakeState) (start other : ReaderState) (now : Option (Newest D)) (new : IntakeState) (end : ReaderState)
      → other ≡ start → Whole bytes before old other now new end → Whole bytes before old start now new end
  at_reader bytes before old start other now new end same is = subst (λ (one : ReaderState). Whole bytes before old one now new end) same is

  -- ---- one more
  flush_first : (bytes : List ℕ) (before mid : Writing D) (old : IntakeState) (start : ReaderState) (now : Option (Newest D)) (new : IntakeState) (end : ReaderState)
      (reply : Reply) (own : List ℕ) → AnswersIn model before Flush reply own mid → Whole bytes mid old start now new end → Whole bytes before old start now new end
  flush_first bytes before mid old start now new end reply own answered is =
      let over = is.over in record {
        over = record {
          events = Flushing ∷ over.events;
          done = flush_then reply over.done;
          mid = over.mid;
          last = over.last;
          on = (tt, over.on);
          records = (reply, own, mid, over.done, answered, over.records, refl);
          parts = over.parts;
          after = over.after;
          follow = over.follow;
          reached = over.reached;
        };
        fed = is.fed;
      }

  page_first : (bytes : List ℕ) (before mid : Writing D) (old next : IntakeState) (start at : ReaderState) (now : Option (Newest D)) (new : IntakeState)
      (end : ReaderState) (lent : LentAt) (taken : Taken) (pages new_pages : Option (List ℕ)) → NeedsNone PassedOver start
      → (start.outcome ≡ None → HasAdvanced start (Some []) (Ok tt) at (Some [])) → at.lent ≡ Some lent
      → Takes (AnswersIn model) lent.0 lent.1 old next taken before mid pages new_pages
      → Whole bytes mid next at now new end → Whole bytes before old start now new end
  page_first bytes before mid old next start at now new end lent taken pages new_pages needs advanced lent_is takes is =
      let over = is.over in record {
        over = record {
          events = Taking lent ∷ over.events;
          done = page_then taken.mend takes.more takes.given takes.ran.replies over.done;
          mid = over.mid;
          last = over.last;
          on = (tt, over.on);
          records = (next, taken, mid, pages, new_pages, over.done, takes, over.records, refl);
          parts = over.parts;
          after = over.after;
          follow = over.follow;
          reached = over.reached;
        };
        fed = fed_page lent taken.mend takes.more (pages_in over.events ++ pages_of over.parts) bytes start at end old.mending next.mending new.mending needs advanced
            lent_is takes.mended is.fed;
      }

  stepped_first : (bytes : List ℕ) (step : Step) (run next : ImportRun) (before mid : Writing D) (now : Option (Newest D)) (last : ImportRun)
      → NeedsNone step run.input.pages → IsStepped (AnswersIn model) [] step next.input.pages.lent (input_of run) (input_of next) before mid
      → WholeOf bytes mid next now last → WholeOf bytes before run now last
  stepped_first bytes (FlushedStep reply) run next before mid now last needs is rest =
      flush_first bytes before mid (state_of run) run.input.pages now (state_of last) last.input.pages reply [] is.steps.0
      (at_intake bytes mid (state_of run) (state_of next) run.input.pages now (state_of last) last.input.pages is.steps.2
      (at_reader bytes mid (state_of next) run.input.pages next.input.pages now (state_of last) last.input.pages is.steps.1 rest))
  stepped_first bytes PassedOver run next before mid now last needs is rest =
      let passed : Whole bytes mid (state_of next) run.input.pages now (state_of last) last.input.pages = record {
        over = rest.over;
        fed = fed_passed (pages_in rest.over.events ++ pages_of rest.over.parts) bytes run.input.pages next.input.pages last.input.pages
            (state_of next).mending (state_of last).mending needs is.steps.0 rest.fed;
      } in
      subst (λ (one : Writing D). WholeOf bytes one run now last) is.steps.2
      (at_intake bytes mid (state_of run) (state_of next) run.input.pages now (state_of last) last.input.pages is.steps.1 passed)
  stepped_first bytes (Page offset junk taken) run next before mid now last needs is rest =
      let (at, lent_is, offset_is, takes) = is.steps.1 in
      page_first bytes before mid (state_of run) (state_of next) run.input.pages next.input.pages now (state_of last) last.input.pages at taken is.output is.new_output
      needs is.steps.0 lent_is
      (subst (λ (o : ℕ). Takes (AnswersIn model) o at.1 (state_of run) (state_of next) taken before mid is.output is.new_output) (sym offset_is) takes)
      rest
  stepped_first bytes (Ended junk) run next before mid now last needs is rest =
      let found : Whole bytes mid (state_of next) run.input.pages now (state_of last) last.input.pages = record {
        over = rest.over;
        fed = fed_ended junk (pages_in rest.over.events ++ pages_of rest.over.parts) bytes run.input.pages next.input.pages last.input.pages
            (state_of next).mending (state_of last).mending needs is.steps.0 is.steps.1.0 rest.fed;
      } in
      subst (λ (one : Writing D). WholeOf bytes one run now last) is.steps.1.2
      (at_intake bytes mid (state_of run) (state_of next) run.input.pages now (state_of last) last.input.pages is.steps.1.1 found)

  -- Another part comes next, and nothing is taken of the input before it.
  part_first : (bytes : List ℕ) (before : Writing D) (run next : ImportRun) (now : Option (Newest D)) (last : ImportRun) (part : Part D F) (parts : List (Part D F))
      (after : Writing D) → FollowOn model is_honest file_in bound (part ∷ parts) before (state_of run) after (state_of last) → IsNow after now
      → next.input ≡ run.input
      → IsFed (pages_in part.events ++ pages_of parts) bytes next.input.pages last.input.pages (state_of next).mending (state_of last).mending
      → WholeOf bytes before run now last
  part_first bytes before run next now last part parts after follow is same fed = record {
    over = record {
      events = [];
      done = nothing_done;
      mid = state_of run;
      last = before;
      on = tt;
      records = (refl, refl, refl);
      parts = part ∷ parts;
      after = after;
      follow = follow;
      reached = is;
    };
    fed = subst (λ (i : Import). IsFed (pages_in part.events ++ pages_of parts) bytes i.pages last.input.pages (mending_of i) (state_of last).mending) same fed;
  }

  -- ---- the calls
  pub follows : (calls : List (Call F)) (old : Option (Newest D)) (run : ImportRun) (new : Option (Newest D)) (last : ImportRun) (before : Writing D)
      → IsNow before old → AreCalled model is_honest file_in bound calls old run new last → WholeOf (came_in calls) before run new last
  follows [] old run new last before is (same, stays) =
      subst (λ (one : ImportRun). WholeOf [] before run new one) (sym stays)
      (none_recorded before run new (subst (λ (one : Option (Newest D)). IsNow before one) (sym same) is))
  follows (Came bytes ∷ later) old run new last before is (next, comes, called) =
      let rest = follows later old next new last before is called in
      let fed : Whole (bytes ++ came_in later) before (state_of next) run.input.pages new (state_of last) last.input.pages = record {
        over = rest.over;
        fed = fed_more (pages_in rest.over.events ++ pages_of rest.over.parts) bytes (came_in later) run.input.pages next.input.pages last.input.pages
            (state_of next).mending (state_of last).mending (state_of run) (state_of next) comes rest.fed;
      } in
      at_intake (bytes ++ came_in later) before (state_of run) (state_of next) run.input.pages new (state_of last) last.input.pages comes.same fed
  follows (Took step ∷ later) old run new last before is (now, next, needs, steps, called) =
      let one = steps before is in
      stepped_first (came_in later) step run next before one.after new last needs one.stepped (follows later now next new last one.after one.reached called)
  follows (Flushed ∷ later) old run new last before is (now, flushes, called) =
      let one = flushes before is in
      flush_first (came_in later) before one.after (state_of run) run.input.pages new (state_of last) last.input.pages one.reply [] one.answered
      (follows later now run new last one.after one.reached called)
  follows (Looked ∷ later) old run new last before is called = follows later old run new last before is called
  follows (WentOver folder answered ∷ later) old run new last before is (now, next, goes, called) =
      let over = goes before is in
      let begun = over.begun in
      let here : Writing D = writing begun.name (progress [] unwritten begun.recorder) in
      let runs = begun.runs [] unwritten in
      let whole = follows later now next new last runs.flushed.after runs.flushed.reached called in
      let rest = whole.over in
      let then : Done = flush_then runs.flushed.reply rest.done in
      let part : Part D F =
      record { change = Over folder; events = Flushing ∷ rest.events; done = resumed_then over.again runs.ran.replies then; begun = here; last = rest.last } in
      part_first (came_in later) before run next new last part rest.parts rest.after (
        rest.mid,
        (over.left, over.goes_on, over.ended, begun.works, (refl, begun.unwritten)),
        (tt, rest.on),
        (
          state_of next,
          over.again,
          answered,
          runs.begun,
          None,
          None,
          then,
          over.resumes,
          runs.ran,
          (runs.flushed.reply, [], runs.flushed.after, rest.done, runs.flushed.answered, rest.records, refl),
          refl,
        ),
        rest.follow,
      )
      rest.reached over.input whole.fed
  follows (Unended ∷ later) old run new last before is (now, newest, out, is_newest, fails, called) =
      let failed = fails before is in
      let here : Writing D = writing before.name (progress before.progress.first before.progress.world failed.back) in
      let at : IsNow before (Some newest) = subst (λ (one : Option (Newest D)). IsNow before one) is_newest is in
      let whole =
      follows later now run new last here (subst (λ (one : Option (Newest D)). IsNow here one) (sym failed.stays) (at.0, refl)) called in
      let rest = whole.over in
      let part : Part D F = record { change = Stays; events = rest.events; done = rest.done; begun = here; last = rest.last } in
      part_first (came_in later) before run run new last part rest.parts rest.after
      (rest.mid, (failed.last, failed.goes_on, failed.ends, refl, failed.kept), rest.on, rest.records, rest.follow) rest.reached refl whole.fed
  follows (Reopened answered ∷ later) old run new last before is (now, next, newest, is_newest, opened, called) =
      let here : Writing D = writing newest.name (progress before.progress.first before.progress.world opened.recorder) in
      let at : IsNow before (Some newest) = subst (λ (one : Option (Newest D)). IsNow before one) is_newest is in
      let (after, reached, ran) = opened.runs before.progress.first before.progress.world in
      let whole = follows later now next new last after reached called in
      let rest = whole.over in
      let part : Part D F =
      record { change = Again; events = rest.events; done = resumed_then opened.commands ran.replies rest.done; begun = here; last = rest.last } in
      part_first (came_in later) before run next new last part rest.parts rest.after (
        rest.mid,
        (opened.works, sym at.0),
        rest.on,
        (state_of next, opened.commands, answered, after, None, None, rest.done, opened.resumes, ran, rest.records, refl),
        rest.follow,
      )
      rest.reached opened.input whole.fed
  follows (SetAside answered ∷ later) old run new last before is (now, next, newest, is_newest, aside, called) =
      let begun = aside.begun in
      let here : Writing D = writing begun.name (progress [] unwritten begun.recorder) in
      let at : IsNow before (Some newest) = subst (λ (one : Option (Newest D)). IsNow before one) is_newest is in
      let runs = begun.runs [] unwritten in
      let whole = follows later now next new last runs.flushed.after runs.flushed.reached called in
      let rest = whole.over in
      let then : Done = flush_then runs.flushed.reply rest.done in
      let part : Part D F =
      record { change = Aside; events = Flushing ∷ rest.events; done = resumed_then aside.again runs.ran.replies then; begun = here; last = rest.last } in
      part_first (came_in later) before run next new last part rest.parts rest.after (
        rest.mid,
        (begun.works, (refl, begun.unwritten)),
        (tt, rest.on),
        (
          state_of next,
          aside.again,
          answered,
          runs.begun,
          None,
          None,
          then,
          subst (λ (l : List ℕ). Resumes [] l (state_of run) (state_of next) aside.again) (sym (ap (λ (r : RecorderState D). r.chain.serials) at.1)) aside.resumes,
          runs.ran,
          (runs.flushed.reply, [], runs.flushed.after, rest.done, runs.flushed.answered, rest.records, refl),
          refl,
        ),
        rest.follow,
      )
      rest.reached aside.input whole.fed

  -- ---- lists that are joined
  abbrev Called : List (Call F) → Option (Newest D) → ImportRun → Option (Newest D) → ImportRun → Type 0
  Called calls old run new last = AreCalled model is_honest file_in bound calls old run new last

  pub joins : (calls later : List (Call F)) (old mid new : Option (Newest D)) (run between last : ImportRun) → Called calls old run mid between
      → Called later mid between new last → Called (calls ++ later) old run new last
  joins [] later old mid new run between last (same, stays) rest =
      subst (λ (one : Option (Newest D)). Called later one run new last) same (subst (λ (one : ImportRun). Called later mid one new last) stays rest)
  joins (Came bytes ∷ calls) later old mid new run between last (next, comes, called) rest =
      (next, comes, joins calls later old mid new next between last called rest)
  joins (Took step ∷ calls) later old mid new run between last (now, next, needs, steps, called) rest =
      (now, next, needs, steps, joins calls later now mid new next between last called rest)
  joins (Flushed ∷ calls) later old mid new run between last (now, flushes, called) rest =
      (now, flushes, joins calls later now mid new run between last called rest)
  joins (Looked ∷ calls) later old mid new run between last called rest = joins calls later old mid new run between last called rest
  joins (WentOver folder answered ∷ calls) later old mid new run between last (now, next, goes, called) rest =
      (now, next, goes, joins calls later now mid new next between last called rest)
  joins (Unended ∷ calls) later old mid new run between last (now, newest, out, is, fails, called) rest =
      (now, newest, out, is, fails, joins calls later now mid new run between last called rest)
  joins (Reopened answered ∷ calls) later old mid new run between last (now, next, newest, is, opened, called) rest =
      (now, next, newest, is, opened, joins calls later now mid new next between last called rest)
  joins (SetAside answered ∷ calls) later old mid new run between last (now, next, newest, is, aside, called) rest =
      (now, next, newest, is, aside, joins calls later now mid new next between last called rest)

  -- ---- one call
  pub changed_once : (out : Option ℕ) (folder : F) (answered : Answered) (newest : Newest D) (old now : Option (Newest D)) (run next : ImportRun)
      → old ≡ Some newest
      → ((before : Writing D) → IsNow before old → GoesOver model is_honest file_in folder bound run next answered before now)
      ⊎ (((before : Writing D) → IsNow before old → HasNotEnded model out newest before now) × (answered ≡ nothing) × (next ≡ run))
      → Called (WentOver folder answered ∷ []) old run now next ⊎ Called (Unended ∷ []) old run now next
  changed_once out folder answered newest old now run next is (inl goes) = inl (now, next, goes, (refl, refl))
  changed_once out folder answered newest old now run next is (inr (fails, none, same)) = inr (now, newest, out, is, fails, (refl, same))

  pub recovered_once : (answered : Answered) (newest : Newest D) (old now : Option (Newest D)) (run next : ImportRun) → old ≡ Some newest
      → IsReopened model newest.name run next answered now ⊎ IsSetAside model bound newest.recorder.chain.serials run next answered now
      → Called (Reopened answered ∷ []) old run now next ⊎ Called (SetAside answered ∷ []) old run now next
  recovered_once answered newest old now run next is (inl opened) = inl (now, next, newest, is, opened, (refl, refl))
  recovered_once answered newest old now run next is (inr aside) = inr (now, next, newest, is, aside, (refl, refl))

-- ---- the pages of all files
both_take : (pages others : List LentAt) (old mid new : Mending) (mends more_mends : List (Option Mend)) (given more : List Command)
    → TakesPages pages old mid mends given → TakesPages others mid new more_mends more
    → TakesPages (pages ++ others) old new (mends ++ more_mends) (given ++ more)
both_take [] others old mid new mends more_mends given more (same, none, empty) later =
    subst (λ (l : List (Option Mend)). TakesPages others old new (l ++ more_mends) (given ++ more)) (sym none)
    (subst (λ (l : List Command). TakesPages others old new more_mends (l ++ more)) (sym empty)
    (subst (λ (m : Mending). TakesPages others m new more_mends more) same later))
both_take (lent ∷ pages) others old mid new mends more_mends given more (next, mend, own, rest, commands, takes, front, mends_are, given_is) later = (
  next,
  mend,
  own,
  rest ++ more_mends,
  commands ++ more,
  takes,
  both_take pages others next mid new rest more_mends commands more front later,
  ap (λ l. l ++ more_mends) mends_are,
  ap (λ l. l ++ more) given_is ∙ append_assoc own commands more,
)

streams_both : (was : List BegunStream) (xs ys : List Command) → streams_after was (xs ++ ys) ≡ streams_after (streams_after was xs) ys
streams_both was [] ys = refl
streams_both was (x ∷ xs) ys = streams_both (streams_with was x) xs ys

module _ {D F : Type 0} (model : DiskModel D) (is_honest : F → Type 0) (file_in : F → ℕ → Place D) (bound : Option ℕ) where
  -- what import_record says of pages that are taken in turn
  abbrev pub TakeAll : Type 0
  TakeAll =
      (events : List Event) (old new : IntakeState) (done : Done) (before after : Writing D) → Records (AnswersIn model) events old new done before after
      → TakesPages (pages_in events) old.mending new.mending done.mends done.more
      × (new.begun.streams ≡ streams_after old.begun.streams done.more)

  -- these commands of the mended pages are all, and what is kept of the input's last link is what they leave
  abbrev TakenAll : List LentAt → IntakeState → IntakeState → List (Option Mend) → List Command → Type 0
  TakenAll pages old new mends more =
      TakesPages pages old.mending new.mending mends more × (new.begun.streams ≡ streams_after old.begun.streams more)

  taken_both : (pages others : List LentAt) (old mid new : IntakeState) (mends more_mends : List (Option Mend)) (given more : List Command)
      → TakenAll pages old mid mends given → TakenAll others mid new more_mends more → TakenAll (pages ++ others) old new (mends ++ more_mends) (given ++ more)
  taken_both pages others old mid new mends more_mends given more first second = (
    both_take pages others old.mending mid.mending new.mending mends more_mends given more first.0 second.0,
    second.1 ∙ ap (λ l. streams_after l more) first.1 ∙ sym (streams_both old.begun.streams given more),
  )

  -- how it goes on has no pages
  pages_after : (change : Change F) (before begun : Writing D) (events : List Event) → pages_in (goes_on_by change before begun ++ events) ≡ pages_in events
  pages_after (Over folder) before begun events = refl
  pages_after Aside before begun events = refl
  pages_after Again before begun events = refl
  pages_after Stays before begun events = refl

  taken_on : TakeAll → (parts : List (Part D F)) (before : Writing D) (old : IntakeState) (after : Writing D) (new : IntakeState)
      → FollowOn model is_honest file_in bound parts before old after new → TakenAll (pages_of parts) old new (mends_of parts) (more_of parts)
  taken_on takes [] before old after new (here, same) =
      ((ap (λ (s : IntakeState). s.mending) same, refl, refl), ap (λ (s : IntakeState). s.begun.streams) same)
  taken_on takes (part ∷ later) before old after new (mid, next, on, records, follow) =
      let own = takes (goes_on_by part.change before part.begun ++ part.events) old mid part.done part.begun part.last records in
      taken_both (pages_in part.events) (pages_of later) old mid new part.done.mends (mends_of later) part.done.more (more_of later) (
        subst (λ l. TakesPages l old.mending mid.mending part.done.mends part.done.more) (pages_after part.change before part.begun part.events) own.0,
        own.1,
      )
      (taken_on takes later part.last mid after new follow)

  pub taken : TakeAll → (before : Writing D) (old : IntakeState) (now : Option (Newest D)) (new : IntakeState)
      → (over : IsRecordedOver model is_honest file_in bound before old now new)
      → TakenAll (pages_in over.events ++ pages_of over.parts) old new (over.done.mends ++ mends_of over.parts) (over.done.more ++ more_of over.parts)
  taken takes before old now new over =
      taken_both (pages_in over.events) (pages_of over.parts) old over.mid new over.done.mends (mends_of over.parts) over.done.more (more_of over.parts)
      (takes over.events old over.mid over.done before over.last over.records)
      (taken_on takes over.parts over.last over.mid over.after new over.follow)

-- ---- the first file
none_answered : {D : Type 0} (model : DiskModel D) (replies : List Reply) (bytes : List ℕ) (before after : Writing D)
    → AnswersAll (AnswersIn model) before [] replies bytes after → after ≡ before
none_answered model [] bytes before after (none, same) = same
none_answered model (reply ∷ replies) bytes before after are = absurd are

none_run : {D : Type 0} (model : DiskModel D) (answered : Answered) (before after : Writing D) → HasRun (AnswersIn model) [] answered before after None None
    → after ≡ before
none_run model answered before after ran = none_answered model ran.replies ran.runs.bytes before after ran.runs.answered

pub first_begun : {D : Type 0} (model : DiskModel D) (bound : Option ℕ) (answered : Answered) (now : Option (Newest D)) → HasBegun model bound [] answered now
    → (begun : Writing D) × (after : Writing D) × Works begun × Begins model bound begun × IsNow after now
    × (reply : Reply) × AnswersIn model begun Flush reply [] after
first_begun {D} model bound answered now begun =
    let here : Writing D = writing begun.name (progress [] unwritten begun.recorder) in
    let runs = begun.runs [] unwritten in
    let flushed = runs.flushed in (
      here,
      flushed.after,
      begun.works,
      (refl, begun.unwritten),
      flushed.reached,
      flushed.reply,
      subst (λ (one : Writing D). AnswersIn model one Flush flushed.reply [] flushed.after) (none_run model answered here runs.begun runs.ran) flushed.answered,
    )
