-- What is run in each file of an archive.
use Rattle.std.proofs.Common.{◌≡◌, ℕ, Bool, true, false, Option, List, [], ◌∷◌, ◌++◌, sym, ◌∙◌, ap, subst, append_assoc}
use Rattle.std.specs.List.{AllByRecursion}
use Rattle.disk_model.specs.declared.disk.Disk.{Ghosts as DiskModel}
use Rattle.archive_folder.specs.Names.{Place}
use Rattle.import_changes.specs.Changed.{Become, HasChangedBeside, IsPlain}
use Rattle.import_gather.specs.Giving.{IsPlain as IsPlainOf}
use Rattle.import_record.specs.Resuming.{ResumesIf, ends_of, holds_open, link_again}
use Rattle.import_record.specs.Steps.{IntakeState}
use Rattle.import_record.specs.Whole.{Done, Event, GivesOn, GoOn, Records}
use Rattle.import_record.specs.Whole.Event.{Resuming}
use Rattle.link_chain.specs.declared.stream_state.StreamState.{StreamState}
use Rattle.ogg_command.specs.declared.command.Command.{Command}
use Rattle.ogg_command.specs.declared.command.Command.TheVariants.{Begin, Put, End}
use Rattle.archive_record.specs.Recorded.{Again, Aside, Change, FollowOn, GiveOn, GivesIn, Over, Part, Stays, goes_on_by, more_of}
use Rattle.archive_record.specs.Writing.{AnswersIn, Writing}

-- ---- commands without a Skeleton
plain : (commands : List Command) → AllByRecursion IsPlainOf commands → AllByRecursion IsPlain commands
plain [] all = tt
plain (Begin begin ∷ commands) (here, rest) = (here, plain commands rest)
plain (Put put ∷ commands) (here, rest) = (tt, plain commands rest)
plain (End serial ∷ commands) (here, rest) = (tt, plain commands rest)

split : (P : Command → Type 0) (xs ys : List Command) → AllByRecursion P (xs ++ ys) → AllByRecursion P xs × AllByRecursion P ys
split P [] ys all = (tt, all)
split P (x ∷ xs) ys (here, rest) = let (front, back) = split P xs ys rest in ((here, front), back)

-- ---- how it goes on, and what follows
gives : (held : Bool) (streams : List StreamState) (serials : List ℕ) (old next new : IntakeState) (commands : List Command) (rest done : Done)
    → ResumesIf held streams serials old next commands → Become next.changes new.changes rest.more rest.given → AllByRecursion IsPlain rest.more
    → done.given ≡ commands ++ rest.given → done.more ≡ rest.more → GivesOn held streams serials old new done
gives true streams serials old next new commands rest done (same, is) become all given more = (
  rest.given,
  given ∙ ap (λ l. l ++ rest.given) is,
  subst (λ (s : IntakeState). Become s.changes new.changes done.more rest.given) same
      (subst (λ l. Become next.changes new.changes l rest.given) (sym more) become),
)
gives false streams serials old next new commands rest done (again, begins, is) become all given more = (
  again ++ rest.given,
  given ∙ ap (λ l. l ++ rest.given) is ∙ append_assoc (ends_of [] streams) again rest.given,
  subst (λ l. HasChangedBeside serials new.changes (link_again old.begun.streams ++ l) (again ++ rest.given)) (sym more)
      (become serials (link_again old.begun.streams) again begins.changed all),
)

module _ {D : Type 0} (model : DiskModel D) where
  -- what import_record says of pages that are taken in turn
  abbrev pub AllBecome : Type 0
  AllBecome =
      (events : List Event) (old new : IntakeState) (done : Done) (before after : Writing D) → GoOn events
      → Records (AnswersIn model) events old new done before after → Become old.changes new.changes done.more done.given

  gives_on : AllBecome → (streams : List StreamState) (serials : List ℕ) (events : List Event) (old new : IntakeState) (done : Done) (before after : Writing D)
      → GoOn events → AllByRecursion IsPlain done.more → Records (AnswersIn model) (Resuming streams serials ∷ events) old new done before after
      → GivesOn (holds_open streams old.begun.serials) streams serials old new done
  gives_on law streams serials events old new done before after on all (next, commands, answered, mid, pages, new_pages, rest, resumes, ran, records, is) =
      let more : done.more ≡ rest.more = ap (λ (d : Done). d.more) is in
      gives (holds_open streams old.begun.serials) streams serials old next new commands rest done resumes (law events next new rest mid after on records)
      (subst (λ l. AllByRecursion IsPlain l) more all) (ap (λ (d : Done). d.given) is) more

  gives_in : {F : Type 0} → AllBecome → (change : Change F) (before begun : Writing D) (events : List Event) (old new : IntakeState) (done : Done) (last : Writing D)
      → GoOn events → AllByRecursion IsPlain done.more → Records (AnswersIn model) (goes_on_by change before begun ++ events) old new done begun last
      → GivesIn change before begun old new done
  gives_in law (Over folder) before begun events old new done last on all records =
      gives_on law [] before.progress.now.chain.serials events old new done begun last on all records
  gives_in law Aside before begun events old new done last on all records =
      gives_on law [] before.progress.now.chain.serials events old new done begun last on all records
  gives_in law Again before begun events old new done last on all records =
      gives_on law begun.progress.now.chain.streams begun.progress.now.chain.serials events old new done begun last on all records
  gives_in law Stays before begun events old new done last on all records = law events old new done begun last on records

module _ {D F : Type 0} (model : DiskModel D) (is_honest : F → Type 0) (file_in : F → ℕ → Place D) (bound : Option ℕ) where
  give_on : AllBecome model → (parts : List (Part D F)) (before : Writing D) (old : IntakeState) (after : Writing D) (new : IntakeState)
      → AllByRecursion IsPlain (more_of parts) → FollowOn model is_honest file_in bound parts before old after new → GiveOn parts before old new
  give_on law [] before old after new all (here, same) = same
  give_on law (part ∷ later) before old after new all (mid, next, on, records, follow) =
      let (own, rest) = split IsPlain part.done.more (more_of later) all in (
        mid,
        gives_in model law part.change before part.begun part.events old mid part.done part.last on own records,
        give_on law later part.last mid after new rest follow,
      )

  pub all_give : AllBecome model → (more : List Command) (parts : List (Part D F)) (before : Writing D) (old : IntakeState) (after : Writing D) (new : IntakeState)
      → AllByRecursion IsPlainOf (more ++ more_of parts) → FollowOn model is_honest file_in bound parts before old after new → GiveOn parts before old new
  all_give law more parts before old after new all follow =
      let (first, rest) = split IsPlain more (more_of parts) (plain (more ++ more_of parts) all) in give_on law parts before old after new rest follow
