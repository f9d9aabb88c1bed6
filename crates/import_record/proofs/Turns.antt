-- Pages that are taken in turn, with flushes between them.
use Rattle.std.proofs.Common.{◌≡◌, ℕ, Bool, true, false, Option, List, [], ◌∷◌, ◌++◌, refl, sym, ap, ◌∙◌, subst, append_assoc, append-nil}
use Rattle.std.specs.List.{AllByRecursion}
use Rattle.ogg_page.specs.Window.{LentAt}
use Rattle.link_chain.specs.declared.stream_state.StreamState.{StreamState}
use Rattle.ogg_command.specs.declared.command.Command.{Command}
use Rattle.ogg_command.specs.declared.command.Command.TheVariants.{Begin, Put, End}
use Rattle.feed_records.specs.declared.item.Record.{Record}
use Rattle.feed_replies.specs.declared.reply.Reply.{Reply}
use Rattle.import_changes.specs.Changed.{Become, ChangeState, HasChangedBeside, IsPlain}
use Rattle.feed_runner.specs.Answering.{AnswersAll}
use Rattle.feed_runner.specs.Counting.{commands_in}
use Rattle.feed_runner.specs.Laws.InTurn.{answers_both}
use Rattle.import_gather.specs.Giving.{IsPlain as IsPlainOf}
use Rattle.import_mend.specs.Gives.{Mending}
use Rattle.import_mend.specs.Whole.{TakesPages}
use Rattle.import_mend.specs.declared.mend.Mend.{Mend}
use Rattle.import_record.specs.Running.{records_of}
use Rattle.import_record.specs.Begun.{BegunState, streams_after}
use Rattle.import_record.specs.Resuming.{ResumesIf, ends_of, holds_open, link_again}
use Rattle.import_record.specs.Steps.{IntakeState}
use Rattle.import_record.proofs.Kept.{streams_both}
use Rattle.import_record.specs.Whole.{Done, Event, GivesOn, GoOn, Records, pages_in}
use Rattle.import_record.specs.Whole.Event.{Flushing, Taking, Resuming}

-- ---- changes
pub all_split : (xs ys : List Command) → AllByRecursion IsPlain (xs ++ ys) → AllByRecursion IsPlain xs × AllByRecursion IsPlain ys
all_split [] ys all = (tt, all)
all_split (x ∷ xs) ys (first, rest) = let (front, back) = all_split xs ys rest in ((first, front), back)

pub none_become : (old : ChangeState) → Become old old [] []
none_become old taken before now has plain =
    subst (λ (l : List Command). HasChangedBeside taken old l (now ++ [])) (sym (append-nil before))
    (subst (λ (l : List Command). HasChangedBeside taken old before l) (sym (append-nil now)) has)

pub both_become : (old mid new : ChangeState) (xs ys gs hs : List Command) → Become old mid xs gs → Become mid new ys hs → Become old new (xs ++ ys) (gs ++ hs)
both_become old mid new xs ys gs hs first second taken before now has plain =
    let (front, back) = all_split xs ys plain in
    subst (λ (l : List Command). HasChangedBeside taken new l (now ++ (gs ++ hs))) (append_assoc before xs ys)
    (subst (λ (l : List Command). HasChangedBeside taken new ((before ++ xs) ++ ys) l) (append_assoc now gs hs)
    (second taken (before ++ xs) (now ++ gs) (first taken before now has front) back))

-- ---- pages
pub both_take : (pages others : List LentAt) (old mid new : Mending) (mends more_mends : List (Option Mend)) (given more : List Command)
    → TakesPages pages old mid mends given → TakesPages others mid new more_mends more
    → TakesPages (pages ++ others) old new (mends ++ more_mends) (given ++ more)
both_take [] others old mid new mends more_mends given more (same, none, empty) later =
    subst (λ (l : List (Option Mend)). TakesPages others old new (l ++ more_mends) (given ++ more)) (sym none)
    (subst (λ (l : List Command). TakesPages others old new more_mends (l ++ more)) (sym empty)
    (subst (λ (m : Mending). TakesPages others m new more_mends more) same later))
both_take (lent ∷ pages) others old mid new mends more_mends given more (next, mend, own, rest, commands, takes, front, mends_are, given_is) later = (
  next,
  mend,
  own,
  rest ++ more_mends,
  commands ++ more,
  takes,
  both_take pages others next mid new rest more_mends commands more front later,
  ap (λ l. l ++ more_mends) mends_are,
  ap (λ l. l ++ more) given_is ∙ append_assoc own commands more,
)

-- what gathering says of a command
plain : (command : Command) → IsPlainOf command → IsPlain command
plain (Begin begin) is = is
plain (Put put) is = tt
plain (End serial) is = tt

pub all_plain : (commands : List Command) → AllByRecursion IsPlainOf commands → AllByRecursion IsPlain commands
all_plain [] all = tt
all_plain (command ∷ commands) (first, rest) = (plain command first, all_plain commands rest)

-- ---- a file that was opened again
resumed_mending : (held : Bool) (streams : List StreamState) (serials : List ℕ) (old next : IntakeState) (commands : List Command)
    → ResumesIf held streams serials old next commands → next.mending ≡ old.mending
resumed_mending true streams serials old next commands (same, is) = ap (λ (s : IntakeState). s.mending) same
resumed_mending false streams serials old next commands (given, again, is) = again.mending

resumed_streams : (held : Bool) (streams : List StreamState) (serials : List ℕ) (old next : IntakeState) (commands : List Command)
    → ResumesIf held streams serials old next commands → next.begun.streams ≡ old.begun.streams
resumed_streams true streams serials old next commands (same, is) = ap (λ (s : IntakeState). s.begun.streams) same
resumed_streams false streams serials old next commands (given, again, is) = ap (λ (b : BegunState). b.streams) again.begun

gives_on : (held : Bool) (streams : List StreamState) (serials : List ℕ) (old next new : IntakeState) (commands : List Command) (rest done : Done)
    → ResumesIf held streams serials old next commands → Become next.changes new.changes rest.more rest.given → AllByRecursion IsPlain rest.more
    → done.given ≡ commands ++ rest.given → done.more ≡ rest.more → GivesOn held streams serials old new done
gives_on true streams serials old next new commands rest done (same, is) become plain given_is more_is = (
  rest.given,
  given_is ∙ ap (λ l. l ++ rest.given) is,
  subst (λ (s : IntakeState). Become s.changes new.changes done.more rest.given) same
      (subst (λ l. Become next.changes new.changes l rest.given) (sym more_is) become),
)
gives_on false streams serials old next new commands rest done (given, again, is) become plain given_is more_is = (
  given ++ rest.given,
  given_is ∙ ap (λ l. l ++ rest.given) is ∙ append_assoc (ends_of [] streams) given rest.given,
  subst (λ l. HasChangedBeside serials new.changes (link_again old.begun.streams ++ l) (given ++ rest.given)) (sym more_is)
      (become serials (link_again old.begun.streams) given again.changed plain),
)

-- ---- records
commands_both : (given : List Command) (rest : List Record) → commands_in (records_of given ++ rest) ≡ given ++ commands_in rest
commands_both [] rest = refl
commands_both (command ∷ given) rest = ap (λ l. command ∷ l) (commands_both given rest)

module _ {S : Type 0} (answers : S → Record → Reply → List ℕ → S → Type 0) where
  pub takes_pages : (events : List Event) (old new : IntakeState) (done : Done) (before after : S) → Records answers events old new done before after
      → TakesPages (pages_in events) old.mending new.mending done.mends done.more
  takes_pages [] old new done before after (same, none, here) =
      (ap (λ (s : IntakeState). s.mending) same, ap (λ (d : Done). d.mends) none, ap (λ (d : Done). d.more) none)
  takes_pages (Flushing ∷ later) old new done before after (reply, own, mid, rest, answer, records, is) =
      subst (λ (d : Done). TakesPages (pages_in later) old.mending new.mending d.mends d.more) (sym is) (takes_pages later old new rest mid after records)
  takes_pages (Taking lent ∷ later) old new done before after (next, taken, mid, pages, new_pages, rest, takes, records, is) = (
    next.mending,
    taken.mend,
    takes.more,
    rest.mends,
    rest.more,
    takes.mended,
    takes_pages later next new rest mid after records,
    ap (λ (d : Done). d.mends) is,
    ap (λ (d : Done). d.more) is,
  )
  takes_pages (Resuming streams serials ∷ later) old new done before after (next, commands, answered, mid, pages, new_pages, rest, resumes, ran, records, is) =
      subst (λ (d : Done). TakesPages (pages_in later) old.mending new.mending d.mends d.more) (sym is)
      (subst (λ (m : Mending). TakesPages (pages_in later) m new.mending rest.mends rest.more)
      (resumed_mending (holds_open streams old.begun.serials) streams serials old next commands resumes) (takes_pages later next new rest mid after records))

  pub become_in_turn : (events : List Event) (old new : IntakeState) (done : Done) (before after : S) → GoOn events → Records answers events old new done before after
      → Become old.changes new.changes done.more done.given
  become_in_turn [] old new done before after on (same, none, here) =
      subst (λ (d : Done). Become old.changes new.changes d.more d.given) (sym none)
      (subst (λ (s : IntakeState). Become old.changes s.changes [] []) (sym same) (none_become old.changes))
  become_in_turn (Flushing ∷ later) old new done before after on (reply, own, mid, rest, answer, records, is) =
      subst (λ (d : Done). Become old.changes new.changes d.more d.given) (sym is) (become_in_turn later old new rest mid after on.1 records)
  become_in_turn (Taking lent ∷ later) old new done before after on (next, taken, mid, pages, new_pages, rest, takes, records, is) =
      subst (λ (d : Done). Become old.changes new.changes d.more d.given) (sym is)
      (both_become old.changes next.changes new.changes takes.more rest.more takes.given rest.given takes.changed (become_in_turn later next new rest mid after on.1 records))
  become_in_turn (Resuming streams serials ∷ later) old new done before after on records = absurd on.0

  pub answered_in_turn : (events : List Event) (old new : IntakeState) (done : Done) (before after : S) → Records answers events old new done before after
      → (bytes : List ℕ) × AnswersAll answers before done.records done.replies bytes after
  answered_in_turn [] old new done before after (same, none, here) =
      subst (λ (d : Done). (bytes : List ℕ) × AnswersAll answers before d.records d.replies bytes after) (sym none) ([], (refl, here))
  answered_in_turn (Flushing ∷ later) old new done before after (reply, own, mid, rest, answer, records, is) =
      let (bytes, all) = answered_in_turn later old new rest mid after records in
      subst (λ (d : Done). (bytes : List ℕ) × AnswersAll answers before d.records d.replies bytes after) (sym is)
      (own ++ bytes, (mid, own, bytes, answer, all, refl))
  answered_in_turn (Taking lent ∷ later) old new done before after (next, taken, mid, pages, new_pages, rest, takes, records, is) =
      let (bytes, all) = answered_in_turn later next new rest mid after records in
      subst (λ (d : Done). (bytes : List ℕ) × AnswersAll answers before d.records d.replies bytes after) (sym is) (
        takes.ran.runs.bytes ++ bytes,
        answers_both answers before mid after (records_of takes.given) rest.records takes.ran.replies rest.replies takes.ran.runs.bytes bytes takes.ran.runs.answered all,
      )
  answered_in_turn (Resuming streams serials ∷ later) old new done before after (next, commands, answered, mid, pages, new_pages, rest, resumes, ran, records, is) =
      let (bytes, all) = answered_in_turn later next new rest mid after records in
      subst (λ (d : Done). (bytes : List ℕ) × AnswersAll answers before d.records d.replies bytes after) (sym is) (
        ran.runs.bytes ++ bytes,
        answers_both answers before mid after (records_of commands) rest.records ran.replies rest.replies ran.runs.bytes bytes ran.runs.answered all,
      )

  pub commands_in_turn : (events : List Event) (old new : IntakeState) (done : Done) (before after : S) → Records answers events old new done before after
      → commands_in done.records ≡ done.given
  commands_in_turn [] old new done before after (same, none, here) = subst (λ (d : Done). commands_in d.records ≡ d.given) (sym none) refl
  commands_in_turn (Flushing ∷ later) old new done before after (reply, own, mid, rest, answer, records, is) =
      subst (λ (d : Done). commands_in d.records ≡ d.given) (sym is) (commands_in_turn later old new rest mid after records)
  commands_in_turn (Taking lent ∷ later) old new done before after (next, taken, mid, pages, new_pages, rest, takes, records, is) =
      subst (λ (d : Done). commands_in d.records ≡ d.given) (sym is)
      (commands_both takes.given rest.records ∙ ap (λ l. takes.given ++ l) (commands_in_turn later next new rest mid after records))
  commands_in_turn (Resuming streams serials ∷ later) old new done before after (next, commands, answered, mid, pages, new_pages, rest, resumes, ran, records, is) =
      subst (λ (d : Done). commands_in d.records ≡ d.given) (sym is)
      (commands_both commands rest.records ∙ ap (λ l. commands ++ l) (commands_in_turn later next new rest mid after records))

  -- what follows when the file was opened again
  pub resumed_in_turn : (streams : List StreamState) (serials : List ℕ) (later : List Event) (old new : IntakeState) (done : Done) (before after : S) → GoOn later
      → AllByRecursion IsPlain done.more → Records answers (Resuming streams serials ∷ later) old new done before after
      → GivesOn (holds_open streams old.begun.serials) streams serials old new done
  resumed_in_turn streams serials later old new done before after on plain (next, commands, answered, mid, pages, new_pages, rest, resumes, ran, records, is) =
      let more : done.more ≡ rest.more = ap (λ (d : Done). d.more) is in
      gives_on (holds_open streams old.begun.serials) streams serials old next new commands rest done resumes (become_in_turn later next new rest mid after on records)
      (subst (λ l. AllByRecursion IsPlain l) more plain) (ap (λ (d : Done). d.given) is) more

  -- what is kept of the link follows the commands of the pages
  pub streams_in_turn : (events : List Event) (old new : IntakeState) (done : Done) (before after : S) → Records answers events old new done before after
      → new.begun.streams ≡ streams_after old.begun.streams done.more
  streams_in_turn [] old new done before after (same, none, here) =
      ap (λ (s : IntakeState). s.begun.streams) same ∙ ap (λ (d : Done). streams_after old.begun.streams d.more) (sym none)
  streams_in_turn (Flushing ∷ later) old new done before after (reply, own, mid, rest, answer, records, is) =
      streams_in_turn later old new rest mid after records ∙ ap (λ (d : Done). streams_after old.begun.streams d.more) (sym is)
  streams_in_turn (Taking lent ∷ later) old new done before after (next, taken, mid, pages, new_pages, rest, takes, records, is) =
      streams_in_turn later next new rest mid after records
      ∙ ap (λ (b : BegunState). streams_after b.streams rest.more) takes.begun
      ∙ sym (streams_both old.begun.streams takes.more rest.more)
      ∙ ap (λ (d : Done). streams_after old.begun.streams d.more) (sym is)
  streams_in_turn (Resuming streams serials ∷ later) old new done before after (next, commands, answered, mid, pages, new_pages, rest, resumes, ran, records, is) =
      streams_in_turn later next new rest mid after records
      ∙ ap (λ l. streams_after l rest.more) (resumed_streams (holds_open streams old.begun.serials) streams serials old next commands resumes)
      ∙ ap (λ (d : Done). streams_after old.begun.streams d.more) (sym is)
