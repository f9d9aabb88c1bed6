-- After every event the folder stands as the account says.
use Rattle.std.specs.Prelude.{◌≢◌, ◌≡◌, ℕ, false, List, [], ◌∷◌, ◌++◌, Option, None, Some, refl}
use Rattle.std.specs.List.{fold, AllByRecursion}
use Rattle.std.proofs.Common.{inl, inr, ⊎_elim, sym, ◌∙◌, ap, subst, arith}
use Rattle.disk_model.specs.declared.disk.Disk.{Ghosts as DiskModel}
use Rattle.disk_model.specs.Image.{IsImage}
use Rattle.archive_folder.specs.declared.names.Name.{Name}
use Rattle.archive_folder.specs.Names.{name, IsLeft, AreBelow}
use Rattle.history.specs.Commands.{IsPartOf}
use Rattle.history.specs.World.{World, Call, Step, start, closed, happens, begun, now_in}
use Rattle.history.specs.History.{ShowsWorld, StandsIn, Leaves, IsStep}
use Rattle.archive_folder.specs.declared.names.Fate.TheVariants.{Comes}
use Rattle.archive_history.specs.Archive.{File, There, Gone, Whole, Known, Foreign, Newest, Archive, archive, set_aside, nothing, names_of, names, Move, Making, Throwing, Syncing, Asking, Recording, thrown, begun_by, recorded, ended_with, shut, Resolves, newest_commands, acknowledged, all_acknowledged, NewestResolves, newest_names}
use Rattle.archive_history.specs.Showing.{numbers, ShowsArchive, ShowsCommands}
use Rattle.archive_history.specs.History.{Point, Event, Called, Recorded, Ended, SetAside, Resumed, MayResume, Resumes, Halted, HaltedIn, IsImageOf, MayMove, LeavesAll, WasBytes, WasImage, RestartsFrom, IsEvent, AreEvents, account_after, point_after, answered_one, answered, ThrowsNothing, IsArchiveHistory, MadeBytes, IsEmptyAt}
use Rattle.archive_history.specs.Accounted.{Bytes, AreSafe, NewestAbove, FilesStand, Stands as StandsBy, Now as NowBy, StandsAs, NewestStands}
use Rattle.archive_history.proofs.Accounted.{shows_files, files_same, thrown_stand}
use Rattle.archive_history.proofs.Counting.{shows_commands}
use Rattle.archive_history.proofs.Accounts.{Grows, same_grows, grows_on, resolved_same, shut_same, begun_same, ended_same, aside_same, resumed_same, recorded_grows}
use Rattle.archive_history.proofs.Keeping.{AreKept, kept_is_all, kept_resolved, kept_ended, kept_aside, kept_front}
use Rattle.archive_history.proofs.Resolving.{below_append, below_thrown, safe_resolved, safe_thrown, newest_safe_resolved, above_resolved, files_resolved, newest_resolved, all_restarted, below_resolved}

module _ {F D S C : Type 0} (names_in : F → List Name) (moment : F → ℕ) (left_since : F → ℕ → List ℕ → Type 0) (model : DiskModel D)
    (shows : List ℕ → S → Type 0) (accepts : S → C → Type 0) (next : S → C → S) (first : S) where
  abbrev Stands : Bytes → Archive C → Type 0
  Stands of a = StandsBy shows next first of a

  abbrev Now : Point F D → Bytes
  Now point = NowBy model point

  abbrev Holds : Archive C → Point F D → Type 0
  Holds a point = StandsAs names_in model shows next first a point

  resolved : (of : Bytes) (a b : Archive C) → Resolves a b → Stands of a → Stands of b
  resolved of a b are stands = record {
    files = files_resolved shows next first of a.ended b.ended are.0 stands.files;
    newest = newest_resolved shows next first of a.newest b.newest are.1 stands.newest;
    safe = safe_resolved a.ended b.ended are.0 stands.safe;
    newest_safe = newest_safe_resolved a.newest b.newest are.1 stands.newest_safe;
    above = above_resolved a.ended b.ended a.newest b.newest are.0 are.1 stands.above;
  }

  -- a stop loses only what waits
  shut_newest : (of : Bytes) (ended : List (File C)) (newest : Option (Newest C)) → Stands of (archive ended newest) → Stands of (shut (archive ended newest))
  shut_newest of ended None stands = record { files = stands.files; newest = tt; safe = stands.safe; newest_safe = tt; above = tt }
  shut_newest of ended (Some file) stands = record { files = stands.files; newest = stands.newest; safe = stands.safe; newest_safe = stands.newest_safe; above = stands.above }

  restarts : (of : Bytes) (a b : Archive C) (image : List (ℕ × List ℕ)) (new : Point F D) → Stands of a → Resolves (shut a) b
      → AllByRecursion (λ (file : ℕ × List ℕ). of file.0 file.1) image
      → RestartsFrom names_in moment left_since model shows accepts next first image new → names_in new.folder ≡ names b → Stands (Now new) b
  restarts of a b image new stands are each starts same =
      let was : Stands of (shut a) = shut_newest of a.ended a.newest stands in
      let now = all_restarted shows next first model of new.disk a.ended b.ended (shut a).newest b.newest image are.0 are.1 was.files was.newest each starts.files (sym starts.names_are ∙ same) in
      record {
        files = now.0;
        newest = now.1;
        safe = safe_resolved a.ended b.ended are.0 stands.safe;
        newest_safe = newest_safe_resolved (shut a).newest b.newest are.1 was.newest_safe;
        above = above_resolved a.ended b.ended (shut a).newest b.newest are.0 are.1 was.above;
      }

  pub shown_now : (a : Archive C) (point : Point F D) (image : List (ℕ × List ℕ)) → Holds a point → IsImageOf names_in moment left_since model shows accepts next first point image
      → ShowsArchive shows next first a image
  shown_now a point image holds is =
      shows_files shows next first (Now point) a.ended a.newest image holds.stands.files holds.stands.newest
      (subst (λ (ns : List Name). IsLeft ns (numbers image)) holds.names_are is.left) is.files

  pub first_now : (a : Archive C) (point : Point F D) (image : List (ℕ × List ℕ)) → Holds a point → IsImageOf names_in moment left_since model shows accepts next first point image
      → ShowsArchive shows next first a image × ShowsCommands shows next first a image
  first_now a point image holds is =
      let shown : ShowsArchive shows next first a image = shown_now a point image holds is in
      (shown, shows_commands shows next first a image holds.stands.safe holds.stands.newest_safe shown)

  -- The law of one file (history), for each moment of a call and after a step.
  module _ (empty_shows : shows [] first)
      (in_call : (w : World C) (call : Call C) (old new : D) → StandsIn shows next first w (model.state old) → Leaves model shows next first w call old new
      → (image : List ℕ) → model.images_since new (model.moment old) image → ShowsWorld shows next first (begun w call) image)
      (after_step : (w : World C) (step : Step C) (old new : D) → StandsIn shows next first w (model.state old) → IsStep model shows accepts next first w step old new
      → StandsIn shows next first (happens w step) (model.state new)) where
    abbrev MayBegin : Archive C → Move C → Type 0
    MayBegin a move = MayMove names_in moment left_since model shows accepts next first a move

    abbrev LeavesIt : Archive C → Move C → Point F D → Point F D → Type 0
    LeavesIt a move old new = LeavesAll names_in moment left_since model shows accepts next first a move old new

    -- what a stop inside a call may leave of each file
    abbrev During : Archive C → Move C → Point F D → Point F D → Bytes
    During a (Making n) old new = MadeBytes names_in moment left_since model shows accepts next first n old
    During a (Recording call) old new = WasBytes names_in moment left_since model shows accepts next first a.newest old new
    During a move old new = Now new

    made : (ended : List (File C)) (n : ℕ) (old new : Point F D) → Stands (Now old) (archive ended None) → MayBegin (archive ended None) (Making n) → LeavesIt (archive ended None) (Making n) old new
        → Stands (During (archive ended None) (Making n) old new) (begun_by (archive ended None) (Making n))
    made ended n old new stands may leaves =
        let below : AreBelow n (names_of ended) = below_append n (names_of ended) [] may.1 in
        record {
          files = files_same shows next first (Now old) (During (archive ended None) (Making n) old new) n ended stands.files below (λ m b less was. ⊎_elim (λ here. absurd (omega (arith, here.0, less))) (λ other. other.1) was);
          newest = λ b was. ⊎_elim (λ here. inl (subst (λ (bs : List ℕ). shows bs first) (sym here.1) empty_shows)) (λ other. absurd (other.0 refl)) was;
          safe = stands.safe;
          newest_safe = inr refl;
          above = below;
        }

    same_disks : (a : Archive C) (old new : Point F D) → new.disk ≡ old.disk → Stands (Now old) a → Stands (Now new) a
    same_disks a old new same stands = subst (λ (disk : ℕ → D). Stands (λ n b. IsImage (model.state (disk n)) b) a) (sym same) stands

    pub threw : (of : Bytes) (a : Archive C) (n : ℕ) → Stands of a → Stands of (begun_by a (Throwing n))
    threw of a n stands = record {
      files = thrown_stand shows next first of n a.ended stands.files;
      newest = stands.newest;
      safe = safe_thrown n a.ended stands.safe;
      newest_safe = stands.newest_safe;
      above = above_thrown a.newest stands.above;
    }
      where
        above_thrown : (newest : Option (Newest C)) → NewestAbove a.ended newest → NewestAbove (thrown n a.ended) newest
        above_thrown None above = tt
        above_thrown (Some file) above = below_thrown file.name.number n a.ended above

    recording : (ended : List (File C)) (newest : Option (Newest C)) (call : Call C) (old new : Point F D) → Stands (Now old) (archive ended newest) → MayBegin (archive ended newest) (Recording call)
        → LeavesIt (archive ended newest) (Recording call) old new → Stands (During (archive ended newest) (Recording call) old new) (begun_by (archive ended newest) (Recording call))
    recording ended None call old new stands may leaves = absurd may
    recording ended (Some file) call old new stands may leaves = record {
      files = files_same shows next first (Now old) (During (archive ended (Some file)) (Recording call) old new) file.name.number ended stands.files stands.above
          (λ m b less was. ⊎_elim (λ here. absurd (omega (arith, here.0, less))) (λ other. other.1) was);
      newest = λ b was. ⊎_elim (λ here. in_call file.world call (old.disk file.name.number) (new.disk file.name.number) stands.newest leaves.0.0 b here.1) (λ other. absurd (other.0 refl)) was;
      safe = stands.safe;
      newest_safe = stands.newest_safe;
      above = stands.above;
    }

    -- each moment of a call
    pub during : (a : Archive C) (move : Move C) (old new : Point F D) → Stands (Now old) a → MayBegin a move → LeavesIt a move old new → Stands (During a move old new) (begun_by a move)
    during a (Making n) old new stands may leaves =
        made a.ended n old new (subst (λ (newest : Option (Newest C)). Stands (Now old) (archive a.ended newest)) may.0 stands)
        (subst (λ (newest : Option (Newest C)). MayBegin (archive a.ended newest) (Making n)) may.0 may)
        (subst (λ (newest : Option (Newest C)). LeavesIt (archive a.ended newest) (Making n) old new) may.0 leaves)
    during a (Throwing n) old new stands may leaves = same_disks (begun_by a (Throwing n)) old new leaves.1 (threw (Now old) a n stands)
    during a Syncing old new stands may leaves = same_disks a old new leaves.1 stands
    during a Asking old new stands may leaves = same_disks a old new leaves.1 stands
    during a (Recording call) old new stands may leaves = recording a.ended a.newest call old new stands may leaves

    abbrev Was : Archive C → Move C → Point F D → Point F D → List (ℕ × List ℕ) → Type 0
    Was a move old new image = WasImage names_in moment left_since model shows accepts next first a move old new image

    each_during : (a : Archive C) (move : Move C) (old new : Point F D) (image : List (ℕ × List ℕ)) → Was a move old new image
        → AllByRecursion (λ (file : ℕ × List ℕ). During a move old new file.0 file.1) image
    each_during a (Making n) old new image was = was.1
    each_during a (Throwing n) old new image was = was.1
    each_during a Syncing old new image was = was.1
    each_during a Asking old new image was = was.1
    each_during a (Recording call) old new image was = was.1

    same_names : (ended : List (File C)) (newest : Option (Newest C)) (call : Call C) → names (archive ended newest) ≡ names (begun_by (archive ended newest) (Recording call))
    same_names ended None call = refl
    same_names ended (Some file) call = refl

    left_during : (a : Archive C) (move : Move C) (old new : Point F D) (image : List (ℕ × List ℕ)) → names_in old.folder ≡ names a → LeavesIt a move old new → Was a move old new image
        → IsLeft (names (begun_by a move)) (numbers image)
    left_during a (Making n) old new image same leaves was = leaves.0.each (numbers image) was.0
    left_during a (Throwing n) old new image same leaves was = leaves.0.each (numbers image) was.0
    left_during a Syncing old new image same leaves was = leaves.0.each (numbers image) was.0
    left_during a Asking old new image same leaves was = leaves.0.each (numbers image) was.0
    left_during a (Recording call) old new image same leaves was =
        subst (λ (ns : List Name). IsLeft ns (numbers image)) (same ∙ same_names a.ended a.newest call) was.0

    pub shown_during : (a : Archive C) (move : Move C) (old new : Point F D) (image : List (ℕ × List ℕ)) → Holds a old → MayBegin a move → LeavesIt a move old new → Was a move old new image
        → ShowsArchive shows next first (begun_by a move) image
    shown_during a move old new image holds may leaves was =
        let stands : Stands (During a move old new) (begun_by a move) = during a move old new holds.stands may leaves in
        shows_files shows next first (During a move old new) (begun_by a move).ended (begun_by a move).newest image stands.files stands.newest
        (left_during a move old new image holds.names_are leaves was) (each_during a move old new image was)

    abbrev Is : Archive C → Event C → Archive C → Point F D → Point F D → Type 0
    Is a event b old new = IsEvent names_in moment left_since model shows accepts next first a event b old new

    recorded_holds : (ended : List (File C)) (newest : Option (Newest C)) (step : Step C) (b : Archive C) (old new : Point F D) → Stands (Now old) (archive ended newest)
        → Is (archive ended newest) (Recorded step) b old new → Stands (Now new) (recorded (archive ended newest) step)
    recorded_holds ended None step b old new stands is = absurd is.0
    recorded_holds ended (Some file) step b old new stands is = record {
      files = files_same shows next first (Now old) (Now new) file.name.number ended stands.files stands.above
          (λ m b less now. subst (λ (d : D). IsImage (model.state d) b) (is.0.2 m (λ same. absurd (omega (arith, same, less)))) now);
      newest = after_step file.world step (old.disk file.name.number) (new.disk file.name.number) stands.newest is.0.1;
      safe = stands.safe;
      newest_safe = is.0.3;
      above = stands.above;
    }

    -- one more file has ended
    stand_more : (of : Bytes) (files more : List (File C)) → FilesStand shows next first of files → FilesStand shows next first of more → FilesStand shows next first of (files ++ more)
    stand_more of [] more stand last = last
    stand_more of (Gone commands ∷ files) more stand last = stand_more of files more stand last
    stand_more of (There is_thrown name content ∷ files) more stand last = (stand.0, stand_more of files more stand.1 last)

    safe_more : (files more : List (File C)) → AreSafe files → AreSafe more → AreSafe (files ++ more)
    safe_more [] more safe last = last
    safe_more (Gone commands ∷ files) more safe last = safe_more files more safe last
    safe_more (There is_thrown name content ∷ files) more safe last = (safe.0, safe_more files more safe.1 last)

    -- without a group in doubt the file shows what is acknowledged
    shown_settled : (w : World C) (bytes : List ℕ) → w.in_doubt ≡ [] → ShowsWorld shows next first w bytes → shows bytes (fold next first w.acknowledged)
    shown_settled w bytes none shown = ⊎_elim (λ s. s) (λ s. subst (λ (group : List C). shows bytes (fold next (now_in next first w) group)) none s) shown

    ended_holds : (ended : List (File C)) (newest : Option (Newest C)) (bytes : List ℕ) (b : Archive C) (old new : Point F D) → Stands (Now old) (archive ended newest)
        → Is (archive ended newest) (Ended bytes) b old new → Stands (Now old) (ended_with (archive ended newest) bytes)
    ended_holds ended None bytes b old new stands is = absurd is.0
    ended_holds ended (Some file) bytes b old new stands is =
        let shown : shows bytes (fold next first file.world.acknowledged) = shown_settled file.world bytes is.0.1 (stands.newest bytes is.0.0.is_image) in
        record {
          files = stand_more (Now old) ended (There false file.name (Whole bytes file.world.acknowledged) ∷ []) stands.files ((λ b now. let here : b ≡ bytes = is.0.0.only b now in (here, subst (λ (bs : List ℕ). shows bs (fold next first file.world.acknowledged)) (sym here) shown)), tt);
          newest = tt;
          safe = safe_more ended (There false file.name (Whole bytes file.world.acknowledged) ∷ []) stands.safe (inr stands.newest_safe, tt);
          newest_safe = tt;
          above = tt;
        }

    -- the newest file was left as it is
    aside_holds : (ended : List (File C)) (newest : Option (Newest C)) (b : Archive C) (old new : Point F D) → Stands (Now old) (archive ended newest)
        → Is (archive ended newest) SetAside b old new → Stands (Now old) (set_aside (archive ended newest))
    aside_holds ended None b old new stands is = absurd is.0
    aside_holds ended (Some file) b old new stands is = record {
      files = stand_more (Now old) ended (There false file.name (Known (closed file.world file.world.in_doubt)) ∷ []) stands.files (stands.newest, tt);
      newest = tt;
      safe = safe_more ended (There false file.name (Known (closed file.world file.world.in_doubt)) ∷ []) stands.safe (inr stands.newest_safe, tt);
      newest_safe = tt;
      above = tt;
    }

    -- a file that had ended is the newest again
    stand_front : (of : Bytes) (files more : List (File C)) → FilesStand shows next first of (files ++ more) → FilesStand shows next first of files
    stand_front of [] more stand = tt
    stand_front of (Gone commands ∷ files) more stand = stand_front of files more stand
    stand_front of (There is_thrown name content ∷ files) more stand = (stand.0, stand_front of files more stand.1)

    stand_back : (of : Bytes) (files more : List (File C)) → FilesStand shows next first of (files ++ more) → FilesStand shows next first of more
    stand_back of [] more stand = stand
    stand_back of (Gone commands ∷ files) more stand = stand_back of files more stand
    stand_back of (There is_thrown name content ∷ files) more stand = stand_back of files more stand.1

    safe_front : (files more : List (File C)) → AreSafe (files ++ more) → AreSafe files
    safe_front [] more safe = tt
    safe_front (Gone commands ∷ files) more safe = safe_front files more safe
    safe_front (There is_thrown name content ∷ files) more safe = (safe.0, safe_front files more safe.1)

    resumed_shows : (of : Bytes) (file : File C) (gone : List (File C)) (newest : Newest C) → MayResume file newest → FilesStand shows next first of (file ∷ gone)
        → (bytes : List ℕ) → of newest.name.number bytes → ShowsWorld shows next first newest.world bytes
    resumed_shows of (There is_thrown name (Whole bytes commands)) gone newest may stand other now =
        let here = stand.0 other (subst (λ (n : Name). of n.number other) may.0 now) in
        subst (λ (w : World C). ShowsWorld shows next first w other) (sym may.1) (inl here.1)
    resumed_shows of (There is_thrown name (Known world)) gone newest may stand other now =
        subst (λ (w : World C). ShowsWorld shows next first w other) (sym may.1) (stand.0 other (subst (λ (n : Name). of n.number other) may.0 now))
    resumed_shows of (There is_thrown name (Foreign bytes)) gone newest may stand other now = absurd may
    resumed_shows of (Gone commands) gone newest may stand other now = absurd may

    resumed_holds : (a b : Archive C) (old : Point F D) → Stands (Now old) a → Resumes a b → Stands (Now old) b
    resumed_holds a b old stands is =
        let last = is.file ∷ is.gone in
        let files : FilesStand shows next first (Now old) (is.files ++ last) = subst (λ (files : List (File C)). FilesStand shows next first (Now old) files) is.ended stands.files in
        subst (Stands (Now old)) (sym is.is) (record {
          files = stand_front (Now old) is.files last files;
          newest = resumed_shows (Now old) is.file is.gone is.newest is.may (stand_back (Now old) is.files last files);
          safe = safe_front is.files last (subst AreSafe is.ended stands.safe);
          newest_safe = inl is.stays;
          above = is.above;
        })

    -- the file that was made is there, and empty, or isn't
    made_newest : (n : ℕ) (file : Newest C) (other : Option (Newest C)) (old new : Point F D) → file.name.number ≡ n → NewestResolves (Some file) other
        → NewestStands shows next first (MadeBytes names_in moment left_since model shows accepts next first n old) other
        → IsEmptyAt names_in moment left_since model shows accepts next first other (model.state (new.disk n)) → NewestStands shows next first (Now new) other
    made_newest n file None old new number are stands empty = tt
    made_newest n file (Some other) old new number are stands empty =
        let here : other.name.number ≡ n = are.0 ∙ number in
        λ b is. stands b (inl (here, empty b (subst (λ (m : ℕ). Now new m b) here is)))

    made_now : (a : Archive C) (n : ℕ) (b : Archive C) (old new : Point F D) → Holds a old → Is a (Called (Making n)) b old new → Stands (Now new) b
    made_now a n b old new holds is =
        let of = MadeBytes names_in moment left_since model shows accepts next first n old in
        let below : AreBelow n (names_of a.ended) = below_append n (names_of a.ended) (newest_names a.newest) is.1.1 in
        let after : Stands of b = resolved of (begun_by a (Making n)) b is.3 (during a (Making n) old new holds.stands is.1 is.2) in
        record {
          files = files_same shows next first of (Now new) n b.ended after.files (below_resolved n a.ended b.ended is.3.0 below)
              (λ m bytes less now. let other : m ≢ n = (λ same. absurd (omega (arith, same, less))) in inr (other, subst (λ (d : D). IsImage (model.state d) bytes) (is.2.1 m other) now));
          newest = made_newest n (record { name = name n Comes; world = start }) b.newest old new refl is.3.1 after.newest is.4;
          safe = after.safe;
          newest_safe = after.newest_safe;
          above = after.above;
        }

    pub event_stands : (a : Archive C) (event : Event C) (b : Archive C) (old new : Point F D) → Holds a old → Is a event b old new → names_in new.folder ≡ names b → Stands (Now new) b
    event_stands a (Called (Making n)) b old new holds is same = made_now a n b old new holds is
    event_stands a (Called (Throwing n)) b old new holds is same = resolved (Now new) (begun_by a (Throwing n)) b is.3 (during a (Throwing n) old new holds.stands is.1 is.2)
    event_stands a (Called Syncing) b old new holds is same = resolved (Now new) a b is.3 (during a Syncing old new holds.stands is.1 is.2)
    event_stands a (Called Asking) b old new holds is same = resolved (Now new) a b is.3 (during a Asking old new holds.stands is.1 is.2)
    event_stands a (Called (Recording call)) b old new holds is same = absurd is.0
    event_stands a (Recorded step) b old new holds is same = subst (Stands (Now new)) (sym is.2) (recorded_holds a.ended a.newest step b old new holds.stands is)
    event_stands a (Ended bytes) b old new holds is same =
        subst (λ (point : Point F D). Stands (Now point) b) (sym is.1) (subst (Stands (Now old)) (sym is.2) (ended_holds a.ended a.newest bytes b old new holds.stands is))
    event_stands a SetAside b old new holds is same =
        subst (λ (point : Point F D). Stands (Now point) b) (sym is.1) (subst (Stands (Now old)) (sym is.2) (aside_holds a.ended a.newest b old new holds.stands is))
    event_stands a Resumed b old new holds is same = subst (λ (point : Point F D). Stands (Now point) b) (sym is.1) (resumed_holds a b old holds.stands is.0)
    event_stands a Halted b old new holds is same = restarts (Now old) a b is.0 new holds.stands is.3 is.1.files is.2 same
    event_stands a (HaltedIn move) b old new holds is same =
        restarts (During a move old is.0) (begun_by a move) b is.3.0 new (during a move old is.0 holds.stands is.1 is.2) is.3.3 (each_during a move old is.0 is.3.0 is.3.1) is.3.2 same

    pub events_hold : (a : Archive C) (old : Point F D) (events : List (Event C × Archive C × Point F D)) → Holds a old → AreEvents names_in moment left_since model shows accepts next first a old events
        → Holds (account_after a events) (point_after old events)
    events_hold a old [] holds are = holds
    events_hold a old ((event, b, new) ∷ events) holds are =
        events_hold b new events (record { names_are = are.1; stands = event_stands a event b old new holds are.0 are.1 }) are.2

    pub history_holds : (start : Point F D) (events : List (Event C × Archive C × Point F D)) (a : Archive C) (now : Point F D)
        → IsArchiveHistory names_in moment left_since model shows accepts next first start events a now → Holds a now
    history_holds start events a now history =
        let begins : Holds nothing start = record { names_are = history.begins; stands = record { files = tt; newest = tt; safe = tt; newest_safe = tt; above = tt } } in
        subst (λ (b : Archive C). Holds b now) history.leads
        (subst (λ (point : Point F D). Holds (account_after nothing events) point) history.ends (events_hold nothing start events begins history.are))

    -- and so the image shows the first commands
    pub first_during : (a : Archive C) (move : Move C) (old new : Point F D) (image : List (ℕ × List ℕ)) → Holds a old → MayBegin a move → LeavesIt a move old new → Was a move old new image
        → ShowsArchive shows next first (begun_by a move) image × ShowsCommands shows next first (begun_by a move) image
    first_during a move old new image holds may leaves was =
        let stands : Stands (During a move old new) (begun_by a move) = during a move old new holds.stands may leaves in
        let shown : ShowsArchive shows next first (begun_by a move) image = shown_during a move old new image holds may leaves was in
        (shown, shows_commands shows next first (begun_by a move) image stands.safe stands.newest_safe shown)

    -- What the answers acknowledge comes to the account's end, and nothing leaves it.
    none_written : (a : Archive C) (move : Move C) → MayBegin a move → (n : ℕ) → move ≡ Making n → a.newest ≡ None
    none_written a move may n is = (subst (λ (m : Move C). MayBegin a m) is may).0

    called_grows : (a b : Archive C) (move : Move C) (old new : Point F D) → Holds a old → MayBegin a move → LeavesIt a move old new → Resolves (begun_by a move) b → all_acknowledged b ≡ all_acknowledged a
    called_grows a b move old new holds may leaves are =
        let stands : Stands (During a move old new) (begun_by a move) = during a move old new holds.stands may leaves in
        resolved_same (begun_by a move) b stands.newest_safe are ∙ begun_same a move (none_written a move may)

    stopped_grows : (of : Bytes) (a b : Archive C) → Stands of a → Resolves (shut a) b → all_acknowledged b ≡ all_acknowledged a
    stopped_grows of a b stands are =
        let was : Stands of (shut a) = shut_newest of a.ended a.newest stands in
        resolved_same (shut a) b was.newest_safe are ∙ shut_same a

    recorded_more : (ended : List (File C)) (newest : Option (Newest C)) (step : Step C) (b : Archive C) (old new : Point F D) → Is (archive ended newest) (Recorded step) b old new
        → Grows (all_acknowledged (archive ended newest)) (all_acknowledged (recorded (archive ended newest) step)) (answered_one newest (Recorded step))
    recorded_more ended None step b old new is = absurd is.0
    recorded_more ended (Some file) step b old new is = recorded_grows ended file step

    event_grows : (a : Archive C) (event : Event C) (b : Archive C) (old new : Point F D) → Holds a old → Is a event b old new → Grows (all_acknowledged a) (all_acknowledged b) (answered_one a.newest event)
    event_grows a (Called move) b old new holds is = same_grows (all_acknowledged a) (all_acknowledged b) (called_grows a b move old new holds is.1 is.2 is.3)
    event_grows a (Recorded step) b old new holds is =
        subst (λ (after : Archive C). Grows (all_acknowledged a) (all_acknowledged after) (answered_one a.newest (Recorded step))) (sym is.2) (recorded_more a.ended a.newest step b old new is)
    event_grows a (Ended bytes) b old new holds is = same_grows (all_acknowledged a) (all_acknowledged b) (ap all_acknowledged is.2 ∙ ended_same a.ended a.newest bytes)
    event_grows a SetAside b old new holds is = same_grows (all_acknowledged a) (all_acknowledged b) (ap all_acknowledged is.2 ∙ aside_same a.ended a.newest)
    event_grows a Resumed b old new holds is = same_grows (all_acknowledged a) (all_acknowledged b) (resumed_same a b is.0)
    event_grows a Halted b old new holds is = same_grows (all_acknowledged a) (all_acknowledged b) (stopped_grows (Now old) a b holds.stands is.3)
    event_grows a (HaltedIn move) b old new holds is =
        same_grows (all_acknowledged a) (all_acknowledged b)
        (stopped_grows (During a move old is.0) (begun_by a move) b (during a move old is.0 holds.stands is.1 is.2) is.3.3 ∙ begun_same a move (none_written a move is.1))

    pub events_grow : (a : Archive C) (old : Point F D) (events : List (Event C × Archive C × Point F D)) → Holds a old → AreEvents names_in moment left_since model shows accepts next first a old events
        → Grows (all_acknowledged a) (all_acknowledged (account_after a events)) (answered a events)
    events_grow a old [] holds are = same_grows (all_acknowledged a) (all_acknowledged a) refl
    events_grow a old ((event, b, new) ∷ events) holds are =
        let after : Holds b new = record { names_are = are.1; stands = event_stands a event b old new holds are.0 are.1 } in
        grows_on (all_acknowledged a) (all_acknowledged b) (all_acknowledged (account_after b events)) (answered_one a.newest event) (answered b events)
        (event_grows a event b old new holds are.0) (events_grow b new events after are.2)

    pub history_grows : (start : Point F D) (events : List (Event C × Archive C × Point F D)) (a : Archive C) (now : Point F D)
        → IsArchiveHistory names_in moment left_since model shows accepts next first start events a now → IsPartOf (answered nothing events) (all_acknowledged a)
    history_grows start events a now history =
        let begins : Holds nothing start = record { names_are = history.begins; stands = record { files = tt; newest = tt; safe = tt; newest_safe = tt; above = tt } } in
        let on : Grows [] (all_acknowledged (account_after nothing events)) (answered nothing events) = events_grow nothing start events begins history.are in
        subst (λ (b : Archive C). IsPartOf (answered nothing events) (all_acknowledged b)) history.leads (subst (IsPartOf (answered nothing events)) (sym on.is) on.has_them)

    -- While nothing is thrown away, all that was acknowledged is kept.
    one_kept : (a : Archive C) (event : Event C) (b : Archive C) (old new : Point F D) (events : List (Event C × Archive C × Point F D)) → Holds a old → Is a event b old new
        → ThrowsNothing ((event, b, new) ∷ events) → AreKept a.ended → AreKept b.ended × ThrowsNothing events
    one_kept a (Called (Making n)) b old new events holds is none kept = (kept_resolved a.ended b.ended is.3.0 holds.stands.safe kept, none)
    one_kept a (Called (Throwing n)) b old new events holds is none kept = absurd none
    one_kept a (Called Syncing) b old new events holds is none kept = (kept_resolved a.ended b.ended is.3.0 holds.stands.safe kept, none)
    one_kept a (Called Asking) b old new events holds is none kept = (kept_resolved a.ended b.ended is.3.0 holds.stands.safe kept, none)
    one_kept a (Called (Recording call)) b old new events holds is none kept = absurd is.0
    one_kept a (Recorded step) b old new events holds is none kept = (subst (λ (after : Archive C). AreKept after.ended) (sym is.2) kept, none)
    one_kept a (Ended bytes) b old new events holds is none kept = (subst (λ (after : Archive C). AreKept after.ended) (sym is.2) (kept_ended a.ended a.newest bytes kept), none)
    one_kept a SetAside b old new events holds is none kept = (subst (λ (after : Archive C). AreKept after.ended) (sym is.2) (kept_aside a.ended a.newest kept), none)
    one_kept a Resumed b old new events holds is none kept =
        (subst (λ (after : Archive C). AreKept after.ended) (sym is.0.is) (kept_front is.0.files (is.0.file ∷ is.0.gone) (subst AreKept is.0.ended kept)), none)
    one_kept a Halted b old new events holds is none kept = (kept_resolved a.ended b.ended is.3.0 holds.stands.safe kept, none)
    one_kept a (HaltedIn (Making n)) b old new events holds is none kept = (kept_resolved a.ended b.ended is.3.3.0 holds.stands.safe kept, none)
    one_kept a (HaltedIn (Throwing n)) b old new events holds is none kept = absurd none
    one_kept a (HaltedIn Syncing) b old new events holds is none kept = (kept_resolved a.ended b.ended is.3.3.0 holds.stands.safe kept, none)
    one_kept a (HaltedIn Asking) b old new events holds is none kept = (kept_resolved a.ended b.ended is.3.3.0 holds.stands.safe kept, none)
    one_kept a (HaltedIn (Recording call)) b old new events holds is none kept = (kept_resolved a.ended b.ended is.3.3.0 holds.stands.safe kept, none)

    events_keep : (a : Archive C) (old : Point F D) (events : List (Event C × Archive C × Point F D)) → Holds a old → AreEvents names_in moment left_since model shows accepts next first a old events
        → ThrowsNothing events → AreKept a.ended → AreKept (account_after a events).ended
    events_keep a old [] holds are none kept = kept
    events_keep a old ((event, b, new) ∷ events) holds are none kept =
        let after : Holds b new = record { names_are = are.1; stands = event_stands a event b old new holds are.0 are.1 } in
        let one = one_kept a event b old new events holds are.0 none kept in
        events_keep b new events after are.2 one.1 one.0

    pub history_keeps : (start : Point F D) (events : List (Event C × Archive C × Point F D)) (a : Archive C) (now : Point F D)
        → IsArchiveHistory names_in moment left_since model shows accepts next first start events a now → ThrowsNothing events → acknowledged a ≡ all_acknowledged a
    history_keeps start events a now history none =
        let begins : Holds nothing start = record { names_are = history.begins; stands = record { files = tt; newest = tt; safe = tt; newest_safe = tt; above = tt } } in
        let kept : AreKept (account_after nothing events).ended = events_keep nothing start events begins history.are none tt in
        let same : AreKept a.ended = subst (λ (b : Archive C). AreKept b.ended) history.leads kept in
        ap (λ (l : List C). l ++ newest_commands a.newest) (kept_is_all a.ended same)
