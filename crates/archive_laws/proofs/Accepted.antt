-- Each command of an archive's account was accepted after those before it.
use Rattle.std.specs.Prelude.{ℕ, ◌==◌, true, false, if◌then◌else◌, List, [], ◌∷◌, ◌++◌, Option, None, Some, ⊤}
use Rattle.std.specs.List.{fold}
use Rattle.std.proofs.Common.{sym, subst}
use Rattle.disk_model.specs.declared.disk.Disk.{Ghosts as DiskModel}
use Rattle.archive_folder.specs.declared.names.Name.{Name}
use Rattle.archive_folder.specs.declared.names.Fate.TheVariants.{Goes}
use Rattle.archive_folder.specs.Names.{name}
use Rattle.history.specs.Commands.{AreAccepted}
use Rattle.history.specs.World.{World, Call, Opening, Staging, Committing, Flushing, Sealing, Reading, Step, Opened, Held, Kept, Flushed, Refused, Looked, Sealed, GivenBack, Faulted, Stopped, StoppedIn, begun, closed, happens, now_in}
use Rattle.history.specs.History.{MayBegin, MayCome}
use Rattle.archive_history.specs.Archive.{File, There, Gone, Content, Whole, Known, Foreign, Newest, Archive, archive, nothing, Move, Making, Throwing, Syncing, Asking, Recording, thrown, begun_by, recorded, ended_with, set_aside, shut, FilesResolve, NewestResolves, Resolves}
use Rattle.archive_history.specs.History.{Point, Event, Called, Recorded, Ended, SetAside, Resumed, Halted, HaltedIn, MayMove, MayResume, Resumes, IsEvent}

module _ {S C : Type 0} (accepts : S → C → Type 0) (next : S → C → S) (first : S) where
  abbrev pub Are : S → List C → Type 0
  Are state commands = AreAccepted accepts next state commands

  -- commands after commands
  pub join : (state : S) (some more : List C) → Are state some → Are (fold next state some) more → Are state (some ++ more)
  join state [] more p q = q
  join state (c ∷ some) more p q = (p.0, join (next state c) some more p.1 q)

  front : (state : S) (some more : List C) → Are state (some ++ more) → Are state some
  front state [] more p = tt
  front state (c ∷ some) more p = (p.0, front (next state c) some more p.1)

  back : (state : S) (some more : List C) → Are state (some ++ more) → Are (fold next state some) more
  back state [] more p = p
  back state (c ∷ some) more p = back (next state c) some more p.1

  -- ---- the newest file
  -- after what is acknowledged the group in doubt is accepted, and so is what waits
  pub record WorldIs (w : World C) : Type 0 where
    pub acknowledged : Are first w.acknowledged
    pub in_doubt : Are (now_in next first w) w.in_doubt
    pub held : Are (now_in next first w) w.held

  with_one : (w : World C) (c : C) → WorldIs w → accepts (fold next (now_in next first w) w.held) c → Are (now_in next first w) (w.held ++ c ∷ [])
  with_one w c is may = join (now_in next first w) w.held (c ∷ []) is.held (may, tt)

  -- a group is acknowledged
  grown : (w : World C) (group : List C) → WorldIs w → Are (now_in next first w) group → WorldIs (record { acknowledged = w.acknowledged ++ group; in_doubt = []; held = []; is_open = true })
  grown w group is more = record { acknowledged = join first w.acknowledged group is.acknowledged more; in_doubt = tt; held = tt }

  shut_with : (w : World C) (group : List C) → WorldIs w → Are (now_in next first w) group → WorldIs (closed w group)
  shut_with w group is more = record { acknowledged = is.acknowledged; in_doubt = more; held = tt }

  begun_is : (w : World C) (call : Call C) → WorldIs w → MayBegin accepts next first w call → WorldIs (begun w call)
  begun_is w Opening is may = shut_with w w.in_doubt is is.in_doubt
  begun_is w (Staging c) is may = shut_with w w.in_doubt is is.in_doubt
  begun_is w (Committing c) is may = shut_with w (w.held ++ c ∷ []) is (with_one w c is may.1)
  begun_is w Flushing is may = shut_with w w.held is is.held
  begun_is w Sealing is may = shut_with w w.in_doubt is is.in_doubt
  begun_is w Reading is may = shut_with w w.in_doubt is is.in_doubt

  step_is : (w : World C) (step : Step C) → WorldIs w → MayCome accepts next first w step → WorldIs (happens w step)
  step_is w (Opened true) is may = grown w w.in_doubt is is.in_doubt
  step_is w (Opened false) is may = grown w [] is tt
  step_is w (Held c) is may = record { acknowledged = is.acknowledged; in_doubt = is.in_doubt; held = with_one w c is may.1 }
  step_is w (Kept c) is may = grown w (w.held ++ c ∷ []) is (with_one w c is may.1)
  step_is w Flushed is may = grown w w.held is is.held
  step_is w (Refused c) is may = is
  step_is w Looked is may = is
  step_is w Sealed is may = shut_with w w.in_doubt is is.in_doubt
  step_is w GivenBack is may = shut_with w w.in_doubt is is.in_doubt
  step_is w (Faulted call) is may = begun_is w call is may
  step_is w Stopped is may = shut_with w w.in_doubt is is.in_doubt
  step_is w (StoppedIn call) is may = begun_is w call is may

  -- ---- all files
  abbrev pub ContentIs : Content C → Type 0
  ContentIs (Whole bytes commands) = Are first commands
  ContentIs (Known world) = WorldIs world
  ContentIs (Foreign bytes) = ⊤

  abbrev pub FilesAre : List (File C) → Type 0
  FilesAre [] = ⊤
  FilesAre (There is_thrown name content ∷ files) = ContentIs content × FilesAre files
  FilesAre (Gone commands ∷ files) = FilesAre files

  abbrev pub NewestIs : Option (Newest C) → Type 0
  NewestIs None = ⊤
  NewestIs (Some file) = WorldIs file.world

  pub record AccountIs (a : Archive C) : Type 0 where
    pub files : FilesAre a.ended
    pub newest : NewestIs a.newest

  files_join : (files more : List (File C)) → FilesAre files → FilesAre more → FilesAre (files ++ more)
  files_join [] more p q = q
  files_join (There is_thrown name content ∷ files) more p q = (p.0, files_join files more p.1 q)
  files_join (Gone commands ∷ files) more p q = files_join files more p q

  files_front : (files more : List (File C)) → FilesAre (files ++ more) → FilesAre files
  files_front [] more p = tt
  files_front (There is_thrown name content ∷ files) more p = (p.0, files_front files more p.1)
  files_front (Gone commands ∷ files) more p = files_front files more p

  files_back : (files more : List (File C)) → FilesAre (files ++ more) → FilesAre more
  files_back [] more p = p
  files_back (There is_thrown name content ∷ files) more p = files_back files more p.1
  files_back (Gone commands ∷ files) more p = files_back files more p

  thrown_are : (n : ℕ) (files : List (File C)) → FilesAre files → FilesAre (thrown n files)
  thrown_are n [] p = tt
  thrown_are n (Gone commands ∷ files) p = thrown_are n files p
  thrown_are n (There is_thrown own content ∷ files) p =
      elim (own.number == n) as (λ b. FilesAre (if b then There true (name own.number Goes) content ∷ files else There is_thrown own content ∷ thrown n files)) [
        | true ↦ p
        | false ↦ (p.0, thrown_are n files p.1)
      ]

  files_resolved : (files others : List (File C)) → FilesResolve files others → FilesAre files → FilesAre others
  files_resolved [] [] are p = tt
  files_resolved [] (There is_thrown name content ∷ others) are p = absurd are
  files_resolved [] (Gone commands ∷ others) are p = absurd are
  files_resolved (There is_thrown name content ∷ files) [] are p = absurd are
  files_resolved (There is_thrown name content ∷ files) (There was_thrown other content' ∷ others) are p =
      (subst ContentIs (sym are.3) p.0, files_resolved files others are.4 p.1)
  files_resolved (There is_thrown name content ∷ files) (Gone commands' ∷ others) are p = files_resolved files others are.2 p.1
  files_resolved (Gone commands ∷ files) [] are p = absurd are
  files_resolved (Gone commands ∷ files) (There was_thrown name content' ∷ others) are p = absurd are
  files_resolved (Gone commands ∷ files) (Gone commands' ∷ others) are p = files_resolved files others are.1 p

  newest_resolved : (newest other : Option (Newest C)) → NewestResolves newest other → NewestIs newest → NewestIs other
  newest_resolved None None are p = tt
  newest_resolved None (Some other) are p = absurd are
  newest_resolved (Some file) None are p = tt
  newest_resolved (Some file) (Some other) are p = subst WorldIs (sym are.2) p

  resolved : (a b : Archive C) → Resolves a b → AccountIs a → AccountIs b
  resolved a b are is = record { files = files_resolved a.ended b.ended are.0 is.files; newest = newest_resolved a.newest b.newest are.1 is.newest }

  shut_is : (ended : List (File C)) (newest : Option (Newest C)) → AccountIs (archive ended newest) → AccountIs (shut (archive ended newest))
  shut_is ended None is = record { files = is.files; newest = tt }
  shut_is ended (Some file) is = record { files = is.files; newest = shut_with file.world file.world.in_doubt is.newest is.newest.in_doubt }

  resumed : (file : File C) (gone : List (File C)) (newest : Newest C) → MayResume file newest → FilesAre (file ∷ gone) → WorldIs newest.world
  resumed (There is_thrown name (Whole bytes commands)) gone newest may p = subst WorldIs (sym may.1) (record { acknowledged = p.0; in_doubt = tt; held = tt })
  resumed (There is_thrown name (Known world)) gone newest may p = subst WorldIs (sym may.1) p.0
  resumed (There is_thrown name (Foreign bytes)) gone newest may p = absurd may
  resumed (Gone commands) gone newest may p = absurd may

  resumed_is : (a b : Archive C) → Resumes a b → AccountIs a → AccountIs b
  resumed_is a b r is =
      let last = r.file ∷ r.gone in
      let all : FilesAre (r.files ++ last) = subst FilesAre r.ended is.files in
      subst AccountIs (sym r.is) (record { files = files_front r.files last all; newest = resumed r.file r.gone r.newest r.may (files_back r.files last all) })

  module _ {F D : Type 0} (names_in : F → List Name) (moment : F → ℕ) (left_since : F → ℕ → List ℕ → Type 0) (model : DiskModel D) (shows : List ℕ → S → Type 0) where
    abbrev May : Archive C → Move C → Type 0
    May a move = MayMove names_in moment left_since model shows accepts next first a move

    abbrev Is : Archive C → Event C → Archive C → Point F D → Point F D → Type 0
    Is a event b old new = IsEvent names_in moment left_since model shows accepts next first a event b old new

    recording : (ended : List (File C)) (newest : Option (Newest C)) (call : Call C) → AccountIs (archive ended newest) → May (archive ended newest) (Recording call)
        → AccountIs (begun_by (archive ended newest) (Recording call))
    recording ended None call is may = absurd may
    recording ended (Some file) call is may = record { files = is.files; newest = begun_is file.world call is.newest may }

    pub begun_account : (a : Archive C) (move : Move C) → AccountIs a → May a move → AccountIs (begun_by a move)
    begun_account a (Making n) is may = record { files = is.files; newest = record { acknowledged = tt; in_doubt = tt; held = tt } }
    begun_account a (Throwing n) is may = record { files = thrown_are n a.ended is.files; newest = is.newest }
    begun_account a Syncing is may = is
    begun_account a Asking is may = is
    begun_account a (Recording call) is may = recording a.ended a.newest call is may

    recorded_is : (ended : List (File C)) (newest : Option (Newest C)) (step : Step C) (b : Archive C) (old new : Point F D) → AccountIs (archive ended newest)
        → Is (archive ended newest) (Recorded step) b old new → AccountIs (recorded (archive ended newest) step)
    recorded_is ended None step b old new is event = absurd event.0
    recorded_is ended (Some file) step b old new is event = record { files = is.files; newest = step_is file.world step is.newest event.0.1.0 }

    ended_is : (ended : List (File C)) (newest : Option (Newest C)) (bytes : List ℕ) → AccountIs (archive ended newest) → AccountIs (ended_with (archive ended newest) bytes)
    ended_is ended None bytes is = record { files = files_join ended [] is.files tt; newest = tt }
    ended_is ended (Some file) bytes is =
        record { files = files_join ended (There false file.name (Whole bytes file.world.acknowledged) ∷ []) is.files (is.newest.acknowledged, tt); newest = tt }

    aside_is : (ended : List (File C)) (newest : Option (Newest C)) → AccountIs (archive ended newest) → AccountIs (set_aside (archive ended newest))
    aside_is ended None is = record { files = files_join ended [] is.files tt; newest = tt }
    aside_is ended (Some file) is = record {
      files = files_join ended (There false file.name (Known (closed file.world file.world.in_doubt)) ∷ []) is.files (shut_with file.world file.world.in_doubt is.newest is.newest.in_doubt, tt);
      newest = tt;
    }

    pub event_is : (a : Archive C) (event : Event C) (b : Archive C) (old new : Point F D) → AccountIs a → Is a event b old new → AccountIs b
    event_is a (Called move) b old new is event = resolved (begun_by a move) b event.3 (begun_account a move is event.1)
    event_is a (Recorded step) b old new is event = subst AccountIs (sym event.2) (recorded_is a.ended a.newest step b old new is event)
    event_is a (Ended bytes) b old new is event = subst AccountIs (sym event.2) (ended_is a.ended a.newest bytes is)
    event_is a SetAside b old new is event = subst AccountIs (sym event.2) (aside_is a.ended a.newest is)
    event_is a Resumed b old new is event = resumed_is a b event.0 is
    event_is a Halted b old new is event = resolved (shut a) b event.3 (shut_is a.ended a.newest is)
    event_is a (HaltedIn move) b old new is event =
        let begun = begun_account a move is event.1 in
        resolved (shut (begun_by a move)) b event.3.3 (shut_is (begun_by a move).ended (begun_by a move).newest begun)

  pub nothing_is : AccountIs nothing
  nothing_is = record { files = tt; newest = tt }
