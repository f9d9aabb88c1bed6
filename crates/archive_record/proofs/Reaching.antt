-- What is done with a file leads from one account of its folder to another, at which the files stand.
use Rattle.std.proofs.lemmas.Bool.Decides.{nat_tests}
use Rattle.std.specs.Prelude.{◌≡◌, ◌==◌, ℕ, Bool, true, false, not, if◌then◌else◌, IfSome, OnErr, Option, Some, None, Result, Ok, Err, List, [], ◌∷◌, ◌++◌, refl}
use Rattle.std.proofs.Common.{inl, inr, ⊎_elim, sym, ◌∙◌, ap, subst, arith}
use Rattle.disk_model.specs.declared.disk.Disk.{Ghosts as DiskModel}
use Rattle.archive_folder.specs.declared.names.FileName.{FileName}
use Rattle.archive_folder.specs.declared.names.Name.{Name}
use Rattle.archive_folder.specs.declared.names.Fate.{Fate}
use Rattle.archive_folder.specs.declared.names.Fate.TheVariants.{Stays, Comes as InDoubt, Goes}
use Rattle.archive_folder.specs.Names.{Place, Kept, listed, name, numbers_of, synced, synced_one}
use Rattle.archive_history.specs.Archive.{Content, There, Whole, Known, Newest, Archive, Resolves, archive, names, recorded, ended_with, ended_file, set_aside, aside_file, with_world}
use Rattle.archive_history.specs.History.{point, with_disk, IsAnswer, IsOnly, IsSafe, Resumes}
use Rattle.archive_history.specs.Starting.{AllStay}
use Rattle.archive_history.specs.Accounted.{NewestAbove, NewestStands, Now}
use Rattle.chain_rules.specs.Recording.{add}
use Rattle.file_recorder.specs.Recorder.{IsIn, RecorderState}
use Rattle.file_recorder.specs.Recovery.{Shows}
use Rattle.gate_file.specs.GateFile.{GateState}
use Rattle.history.specs.History.{StandsIn}
use Rattle.history.specs.World.{Faulted, Flushed, GivenBack, Looked, Opened, Opening, Sealed, Step, World, closed, happens, start}
use Rattle.ogg_command.specs.declared.command.Command.{Command}
use Rattle.archive_record.specs.Account.{IsLastOf, LeadsTo, NewestIsLast, Stands, StaysWritten, WritesNew, WritesNone}
use Rattle.archive_record.specs.FilesState.{FilesState}
use Rattle.archive_record.specs.Filing.{unwritten}
use Rattle.archive_record.specs.Leading.{CallsLeadOn, StepIs}
use Rattle.archive_record.specs.Reaching.{AreAt, Comes, ComesBack, ComesFree, ComesWritten, IsAtHand, IsBegun, IsLetGo, IsWaiting, IsWritten, MayBeWritten, MayStart, Reaches, in_world, with_file, with_newest}
use Rattle.archive_record.specs.Retention.{IsLeftOf}

pub at_same : {D : Type 0} (n : ℕ) (disk : D) (disks : ℕ → D) → with_disk n disk disks n ≡ disk
at_same n disk disks = ap (λ (b : Bool). if b then disk else disks n) (same_test n)
  where
    same_test : (n : ℕ) → (n == n) ≡ true
    same_test n = grind (arith, nat_tests)

pub twice : {D : Type 0} (n : ℕ) (disk : D) (disks : ℕ → D) → with_disk n disk (with_disk n disk disks) ≡ with_disk n disk disks
twice n disk disks = λ i m. (one (m == n) m) i
  where
    one : (b : Bool) (m : ℕ) → (if b then disk else (if b then disk else disks m)) ≡ (if b then disk else disks m)
    one true m = refl
    one false m = refl

kept_disk : {D : Type 0} (disk other : D) → Kept disk ≡ Kept other → disk ≡ other
kept_disk disk other same = cc

-- what holds after any fault
-- after a sync no name is in doubt
pub all_stay : (all : List Name) → AllStay (synced all)
all_stay [] = tt
all_stay (first ∷ others) = by_fate first.fate (all_stay others)
  where
    by_fate : (fate : Fate) → AllStay (synced others) → AllStay (synced_one first.number fate ++ synced others)
    by_fate Stays rest = (refl, rest)
    by_fate InDoubt rest = (refl, rest)
    by_fate Goes rest = rest

pub if_some_where : {A : Type 0} (P Q : A → Type 0) (found : Option A) → ((x : A) → P x → Q x) → IfSome found P → IfSome found Q
if_some_where P Q None each is = tt
if_some_where P Q (Some x) each is = each x is

pub on_err : {A E : Type 0} (result : Result A E) (P : Type 0) → P → OnErr result P
on_err (Ok value) P holds = tt
on_err (Err fault) P holds = holds

pub on_err_where : {A E : Type 0} (result : Result A E) (P Q : Type 0) → (P → Q) → OnErr result P → OnErr result Q
on_err_where (Ok value) P Q each is = tt
on_err_where (Err fault) P Q each is = each is

pub same_some : (m n : ℕ) → Some m ≡ Some n → m ≡ n
same_some m n same = cc

pub if_some : {A : Type 0} (P : A → Type 0) (found : Option A) (x : A) → found ≡ Some x → IfSome found P → P x
if_some P None x same is = absurd (never same)
  where
    never : None ≡ Some x → ⊥
    never same = cc
if_some P (Some y) x same is = subst P (one same) is
  where
    one : Some y ≡ Some x → y ≡ x
    one same = cc

-- the last of some files
last_or : FileName → List FileName → FileName
last_or file [] = file
last_or file (first ∷ files) = last_or first files

last_is : (file last : FileName) (front : List FileName) → last_or file (front ++ last ∷ []) ≡ last
unfolding last_or
last_is file last [] = refl
last_is file last (first ∷ front) = last_is first last front

pub same_last : (one other : FileName) (front before : List FileName) → front ++ one ∷ [] ≡ before ++ other ∷ [] → one ≡ other
same_last one other front before same = sym (last_is one one front) ∙ ap (last_or one) same ∙ last_is one other before

open_again : (b : Bool) → not b ≡ false → b ≡ true
open_again true is = refl
open_again false is = absurd (never is)
  where
    never : true ≡ false → ⊥
    never same = cc

module _ {F D : Type 0} (names_in : F → List Name) (moment : F → ℕ) (left_since : F → ℕ → List ℕ → Type 0) (file_in : F → ℕ → Place D) (model : DiskModel D) where
  abbrev Leads : Archive Command → F → (ℕ → D) → Archive Command → F → (ℕ → D) → Type 0
  Leads a old disks b new after = LeadsTo names_in moment left_since model a old disks b new after

  abbrev At : FilesState F → Archive Command → (ℕ → D) → Type 0
  At files a disks = AreAt names_in model files a disks

  abbrev ComesTo : FilesState F → Archive Command → (ℕ → D) → FilesState F → Archive Command → (ℕ → D) → Type 0
  ComesTo old a disks new b after = Comes names_in moment left_since model old a disks new b after

  abbrev Free : FilesState F → Archive Command → (ℕ → D) → FilesState F → Type 0
  Free old a disks new = ComesFree names_in moment left_since model old a disks new

  abbrev Written : FilesState F → Archive Command → (ℕ → D) → ℕ → RecorderState D → FilesState F → Type 0
  Written old a disks n recorder new = ComesWritten names_in moment left_since model old a disks n recorder new

  abbrev Back : FilesState F → Archive Command → (ℕ → D) → ℕ → FilesState F → Type 0
  Back old a disks n new = ComesBack names_in moment left_since model file_in old a disks n new

  abbrev ReachesTo : Archive Command → F → (ℕ → D) → Archive Command → F → (ℕ → D) → Type 0
  ReachesTo a old disks b new after = Reaches names_in moment left_since model a old disks b new after

  module _ (law : CallsLeadOn names_in moment left_since model) where
    pub last_for : (files : List FileName) (b : Archive Command) (file : Newest Command) → b.newest ≡ Some file → IsLastOf file.name.number files → NewestIsLast files b
    last_for files b file is last = subst (λ (newest : Option (Newest Command)). IfSome newest (λ (one : Newest Command). IsLastOf one.name.number files)) (sym is) last

    pub none_for : (files : List FileName) (b : Archive Command) → b.newest ≡ None → NewestIsLast files b
    none_for files b is = subst (λ (newest : Option (Newest Command)). IfSome newest (λ (one : Newest Command). IsLastOf one.name.number files)) (sym is) tt

    pub its_last : (files : FilesState F) (a : Archive Command) (disks : ℕ → D) (file : Newest Command) → At files a disks → a.newest ≡ Some file → IsLastOf file.name.number files.files
    its_last files a disks file at is = if_some _ a.newest file is at.last

    -- the files stand at the account that this leads to
    pub comes : (old new : FilesState F) (a b : Archive Command) (disks after : ℕ → D) → At old a disks → NewestIsLast new.files b
        → Leads a old.folder disks b new.folder after → ComesTo old a disks new b after
    comes old new a b disks after at last leads =
        (record { stands = law.stands a b old.folder new.folder disks after at.stands leads; last = last }, leads)

    pub and_then : (old mid new : FilesState F) (a b c : Archive Command) (disks between after : ℕ → D) → ComesTo old a disks mid b between
        → ComesTo mid b between new c after → ComesTo old a disks new c after
    and_then old mid new a b c disks between after first later =
        (later.0, law.both a b c old.folder mid.folder new.folder disks between after first.1 later.1)

    pub stays_here : (files : FilesState F) (a : Archive Command) (disks : ℕ → D) → At files a disks → ComesTo files a disks files a disks
    stays_here files a disks at = (at, law.nothing a files.folder disks)

    -- no file is written any more
    pub free_of : (old new : FilesState F) (a : Archive Command) (disks : ℕ → D) → At old a disks → WritesNone names_in moment left_since model a old.folder disks new.folder
        → Free old a disks new
    free_of old new a disks at (b, after, none, named, leads) = (b, after, none, comes old new a b disks after at (none_for new.files b none) leads)

    pub free_reached : (old new : FilesState F) (a : Archive Command) (name : Name) (content : Content Command) (disks after : ℕ → D) → At old a disks
        → ReachesTo a old.folder disks (with_file a name content) new.folder after → Free old a disks new
    free_reached old new a name content disks after at reaches =
        let b = with_file a name content in (b, after, refl, comes old new a b disks after at (none_for new.files b refl) reaches.1)

    -- the newest is set aside
    pub aside : (old new : FilesState F) (a b : Archive Command) (file : Newest Command) (disks after : ℕ → D) → b.newest ≡ Some file → ComesTo old a disks new b after
        → Free old a disks new
    aside old new a b file disks after newest so_far =
        let leads = law.both a b (set_aside b) old.folder new.folder new.folder disks after after so_far.1
        (law.setting_aside b file new.folder after newest so_far.0.stands.names_are) in (
          set_aside b,
          after,
          refl,
          (
            record {
              stands = law.stands b (set_aside b) new.folder new.folder after after so_far.0.stands
                  (law.setting_aside b file new.folder after newest so_far.0.stands.names_are);
              last = none_for new.files (set_aside b) refl;
            },
            leads,
          ),
        )

    -- a file that was set aside may be written again
    pub back_again : (old new : FilesState F) (a : Archive Command) (file : Newest Command) (n : ℕ) (disks : ℕ → D) (disk : D) (world : World Command) → At old a disks
        → a.newest ≡ Some file → file.name.number ≡ n → file.name.fate ≡ Stays → world.is_open ≡ false → new.files ≡ old.files
        → file_in new.folder n ≡ Kept disk → model.is_honest disk
        → ReachesTo a old.folder disks (with_file a file.name (Known world)) new.folder (with_disk n disk disks)
        → Back old a disks n new
    back_again old new a file n disks disk world at newest number stays closed same kept honest reaches =
        let c = with_file a file.name (Known world) in
        let b = with_newest a (in_world file world) in
        let after = with_disk n disk disks in
        let is : Resumes c b = record {
          files = a.ended;
          file = There false file.name (Known world);
          gone = [];
          newest = in_world file world;
          ended = refl;
          none = refl;
          may = (refl, refl);
          no_names = refl;
          no_commands = refl;
          above = subst (λ (newest : Option (Newest Command)). NewestAbove a.ended newest) newest at.stands.stands.above;
          stays = stays;
          is = refl;
        } in
        let leads = law.both a c b old.folder new.folder new.folder disks after after reaches.1 (law.resuming c b new.folder after is reaches.0) in (
          b,
          in_world file world,
          after,
          number,
          record {
            newest = refl;
            stays = stays;
            closed = closed;
            there = λ other there.
                let same_disk = kept_disk disk other (sym kept ∙ subst (λ (k : ℕ). file_in new.folder k ≡ Kept other) number there) in
                (subst (λ (k : ℕ). with_disk n disk disks k ≡ disk) (sym number) (at_same n disk disks) ∙ same_disk, subst model.is_honest same_disk honest);
          },
          comes old new a b disks after at
              (last_for new.files b (in_world file world) refl (subst (λ (l : List FileName). IsLastOf file.name.number l) (sym same) (its_last old a disks file at newest))) leads,
        )

    -- files go, and the newest stays as it is
    pub stays_back : (old new : FilesState F) (a : Archive Command) (file : Newest Command) (disks : ℕ → D) → At old a disks → IsAtHand file_in model old.folder a file disks
        → IsLeftOf old.files new.files → file_in new.folder ≡ file_in old.folder → StaysWritten names_in moment left_since model a old.folder disks new.folder
        → Back old a disks file.name.number new
    stays_back old new a file disks at hand left places (b, same, named, leads) =
        let (front, last, is, its_number) = its_last old a disks file at hand.newest in
        let (rest, here) = left.newest front last is in (
          b,
          file,
          disks,
          refl,
          record {
            newest = same ∙ hand.newest;
            stays = hand.stays;
            closed = hand.closed;
            there = λ disk is. hand.there disk (sym (ap (λ (places : ℕ → Place D). places file.name.number) places) ∙ is);
          },
          comes old new a b disks disks at (last_for new.files b file (same ∙ hand.newest) (rest, last, here, its_number)) leads,
        )

    pub stays_written : (old new : FilesState F) (a : Archive Command) (file : Newest Command) (n : ℕ) (recorder : RecorderState D) (disks : ℕ → D) → At old a disks
        → IsWritten model a file n recorder disks → IsLeftOf old.files new.files → new.out ≡ Some n → StaysWritten names_in moment left_since model a old.folder disks new.folder
        → Written old a disks n recorder new
    stays_written old new a file n recorder disks at written left out (b, same, named, leads) =
        let (front, last, is, number) = its_last old a disks file at written.newest in
        let (rest, here) = left.newest front last is in (
          b,
          file,
          disks,
          record {
            newest = same ∙ written.newest;
            number_is = written.number_is;
            stays = written.stays;
            stands = written.stands;
            here = written.here;
            honest = written.honest;
          },
          out,
          comes old new a b disks disks at (last_for new.files b file (same ∙ written.newest) (rest, last, here, number)) leads,
        )

    -- a file is given back, to which a recorder's steps led
    pub back_reaches : (old new : F) (a b : Archive Command) (disks after : ℕ → D) → names_in new ≡ names_in old → ReachesTo a old disks b old after
        → (names_in old ≡ names b → Leads b old after b new after) → ReachesTo a old disks b new after
    back_reaches old new a b disks after kept so_far asks = (kept ∙ so_far.0, law.both a b b old old new disks after after so_far.1 (asks so_far.0))

    after_step : (a : Archive Command) (file : Newest Command) (step : Step Command) → a.newest ≡ Some file → (recorded a step).newest ≡ Some (in_world file (happens file.world step))
    after_step a file step newest = ap (with_world (λ w. happens w step)) newest

    -- one step of the recorder that writes the newest file
    one_step : (folder : F) (a : Archive Command) (file : Newest Command) (disks : ℕ → D) (step : Step Command) (disk : D) → names_in folder ≡ names a
        → a.newest ≡ Some file → IsSafe file.name.fate (happens file.world step) → IsAnswer step → StepIs model file.world step (disks file.name.number) disk
        → ReachesTo a folder disks (recorded a step) folder (with_disk file.name.number disk disks)
    one_step folder a file disks step disk named newest safe answer it =
        (named ∙ sym (law.recorded_names a step), law.step a file disks folder step disk newest named answer safe it)

    -- after a step the file is set aside as it is
    pub aside_reaches : (folder : F) (a : Archive Command) (file : Newest Command) (disks : ℕ → D) (step : Step Command) (disk : D) → names_in folder ≡ names a
        → a.newest ≡ Some file → IsSafe file.name.fate (happens file.world step) → IsAnswer step
        → closed (happens file.world step) (happens file.world step).in_doubt ≡ closed file.world file.world.in_doubt
        → StepIs model file.world step (disks file.name.number) disk
        → ReachesTo a folder disks (with_file a file.name (Known (closed file.world file.world.in_doubt))) folder (with_disk file.name.number disk disks)
    aside_reaches folder a file disks step disk named newest safe answer same it =
        let after = with_disk file.name.number disk disks in
        let one = one_step folder a file disks step disk named newest safe answer it in
        let two = law.setting_aside (recorded a step) (in_world file (happens file.world step)) folder after (after_step a file step newest) one.0 in
        let is : set_aside (recorded a step) ≡ with_file a file.name (Known (closed file.world file.world.in_doubt)) =
        ap (λ (n : Option (Newest Command)). archive (a.ended ++ aside_file n) None) (after_step a file step newest)
        ∙ ap (λ (w : World Command). with_file a file.name (Known w)) same in
        subst (λ (b : Archive Command). ReachesTo a folder disks b folder after) is (
          one.0 ∙ sym (law.aside_names (recorded a step)),
          law.both a (recorded a step) (set_aside (recorded a step)) folder folder folder disks after after one.1 two,
        )

    -- a step that keeps what was in doubt, and then the file ends
    pub ended_reaches : (folder : F) (a : Archive Command) (file : Newest Command) (disks : ℕ → D) (step : Step Command) (disk : D) (bytes : List ℕ) → names_in folder ≡ names a
        → a.newest ≡ Some file → IsSafe file.name.fate (happens file.world step) → IsAnswer step → (happens file.world step).in_doubt ≡ []
        → StepIs model file.world step (disks file.name.number) disk → IsOnly bytes (model.state disk)
        → ReachesTo a folder disks (with_file a file.name (Whole bytes (happens file.world step).acknowledged)) folder (with_disk file.name.number disk disks)
    ended_reaches folder a file disks step disk bytes named newest safe answer none it only =
        let after = with_disk file.name.number disk disks in
        let one = one_step folder a file disks step disk named newest safe answer it in
        let two = law.ending (recorded a step) (in_world file (happens file.world step)) after folder bytes (after_step a file step newest) one.0 none
        (subst (λ (d : D). IsOnly bytes (model.state d)) (sym (at_same file.name.number disk disks)) only) in
        let is : ended_with (recorded a step) bytes ≡ with_file a file.name (Whole bytes (happens file.world step).acknowledged) =
        ap (λ (n : Option (Newest Command)). archive (a.ended ++ ended_file n bytes) None) (after_step a file step newest) in
        subst (λ (b : Archive Command). ReachesTo a folder disks b folder after) is (
          one.0 ∙ sym (law.ended_names (recorded a step) bytes),
          law.both a (recorded a step) (ended_with (recorded a step) bytes) folder folder folder disks after after one.1 two,
        )

    -- two steps, the second of which leaves the disk as it is, and then the file ends
    pub sealed_reaches : (folder : F) (a : Archive Command) (file : Newest Command) (disks : ℕ → D) (first second : Step Command) (disk : D) (bytes : List ℕ) → names_in folder ≡ names a
        → a.newest ≡ Some file → file.name.fate ≡ Stays → IsAnswer first → IsAnswer second → (happens (happens file.world first) second).in_doubt ≡ []
        → StepIs model file.world first (disks file.name.number) disk → StepIs model (happens file.world first) second disk disk → IsOnly bytes (model.state disk)
        → ReachesTo a folder disks (with_file a file.name (Whole bytes (happens (happens file.world first) second).acknowledged)) folder (with_disk file.name.number disk disks)
    sealed_reaches folder a file disks first second disk bytes named newest stays first_answer second_answer none first_is second_is only =
        let n = file.name.number in
        let after = with_disk n disk disks in
        let reached = in_world file (happens file.world first) in
        let one = one_step folder a file disks first disk named newest (inl stays) first_answer first_is in
        let two = ended_reaches folder (recorded a first) reached after second disk bytes one.0 (after_step a file first newest) (inl stays) second_answer none
        (subst (λ (d : D). StepIs model (happens file.world first) second d disk) (sym (at_same n disk disks)) second_is) only in
        let content = Whole bytes (happens (happens file.world first) second).acknowledged in (
          two.0,
          law.both a (recorded a first) (with_file a file.name content) folder folder folder disks after after one.1
              (subst (λ (later : ℕ → D). Leads (recorded a first) folder after (with_file a file.name content) folder later) (twice n disk disks) two.1),
        )

    -- the file that a recorder wrote is given back
    module _ (old new : F) (a : Archive Command) (file : Newest Command) (n : ℕ) (recorder : RecorderState D) (disks : ℕ → D) (named : names_in old ≡ names a)
        (written : IsWritten model a file n recorder disks) (disk : D) (kept : names_in new ≡ names_in old)
        (asks : (b : Archive Command) (after : ℕ → D) → names_in old ≡ names b → Leads b old after b new after) where
      here : recorder.file.disk ≡ disks file.name.number
      here = sym (ap disks written.number_is ∙ written.here)

      gives : (b : Archive Command) → ReachesTo a old disks b old (with_disk file.name.number disk disks) → ReachesTo a old disks b new (with_disk n disk disks)
      gives b reaches = back_reaches old new a b disks (with_disk n disk disks) kept
          (subst (λ (k : ℕ). ReachesTo a old disks b old (with_disk k disk disks)) written.number_is reaches) (asks b (with_disk n disk disks))

      -- it is set aside as it is
      pub let_aside : (step : Step Command) → IsAnswer step → closed (happens file.world step) (happens file.world step).in_doubt ≡ closed file.world file.world.in_doubt
          → StepIs model file.world step recorder.file.disk disk
          → ReachesTo a old disks (with_file a file.name (Known (closed file.world file.world.in_doubt))) new (with_disk n disk disks)
      let_aside step answer left it =
          gives (with_file a file.name (Known (closed file.world file.world.in_doubt)))
          (aside_reaches old a file disks step disk named written.newest (inl written.stays) answer left
          (subst (λ (d : D). StepIs model file.world step d disk) here it))

      -- it is sealed, and has ended
      pub let_sealed : (bytes : List ℕ) → recorder.file.failed ≡ false → StepIs model file.world Sealed recorder.file.disk disk → IsOnly bytes (model.state disk)
          → ReachesTo a old disks (with_file a file.name (Whole bytes file.world.acknowledged)) new (with_disk n disk disks)
      let_sealed bytes works it only =
          gives (with_file a file.name (Whole bytes file.world.acknowledged))
          (ended_reaches old a file disks Sealed disk bytes named written.newest (inl written.stays) tt
          (written.stands.none (open_again file.world.is_open (sym written.stands.failed ∙ works)))
          (subst (λ (d : D). StepIs model file.world Sealed d disk) here it) only)

      -- what waits in it is kept first
      pub let_flushed : (bytes : List ℕ) → StepIs model file.world Flushed recorder.file.disk disk → StepIs model (happens file.world Flushed) Sealed disk disk → IsOnly bytes (model.state disk)
          → ReachesTo a old disks (with_file a file.name (Whole bytes (file.world.acknowledged ++ file.world.held))) new (with_disk n disk disks)
      let_flushed bytes flush seal only =
          gives (with_file a file.name (Whole bytes (file.world.acknowledged ++ file.world.held)))
          (sealed_reaches old a file disks Flushed Sealed disk bytes named written.newest written.stays tt tt refl
          (subst (λ (d : D). StepIs model file.world Flushed d disk) here flush) seal only)

    -- a step after which the recorder writes it still
    pub faulted_on : (folder : F) (a : Archive Command) (file : Newest Command) (n : ℕ) (recorder : RecorderState D) (disks : ℕ → D) → names_in folder ≡ names a
        → IsWritten model a file n recorder disks → (step : Step Command) → IsAnswer step → (back : RecorderState D) → StepIs model file.world step recorder.file.disk back.file.disk
        → IsIn model [] (happens file.world step) back
        → (b : Archive Command) × (now : Newest Command) × (after : ℕ → D) × (now.name ≡ file.name) × IsWritten model b now n back after × ReachesTo a folder disks b folder after
    faulted_on folder a file n recorder disks named written step answer back it is_in =
        let disk = back.file.disk in
        let is_here : recorder.file.disk ≡ disks file.name.number = sym (ap disks written.number_is ∙ written.here) in
        let on = one_step folder a file disks step disk named written.newest (inl written.stays) answer (subst (λ (d : D). StepIs model file.world step d disk) is_here it) in (
          recorded a step,
          in_world file (happens file.world step),
          with_disk n disk disks,
          refl,
          record {
            newest = after_step a file step written.newest;
            number_is = written.number_is;
            stays = written.stays;
            stands = is_in;
            here = at_same n disk disks;
            honest = it.2;
          },
          subst (λ (k : ℕ). ReachesTo a folder disks (recorded a step) folder (with_disk k disk disks)) written.number_is on,
        )

    -- the newest is handed out
    module _ (old mid : FilesState F) (a : Archive Command) (file : Newest Command) (disks : ℕ → D) (at : At old a disks) (hand : IsAtHand file_in model old.folder a file disks)
        (last : FileName) (front : List FileName) (disk : D) (same : mid.files ≡ old.files) (listed_last : old.files ≡ front ++ last ∷ [])
        (named : names_in mid.folder ≡ names_in old.folder) (was : file_in old.folder last.number ≡ Kept disk)
        (asked : Leads a old.folder disks a mid.folder disks) where
      pub number : last.number ≡ file.name.number
      number =
          let (before, other, is, its_number) = its_last old a disks file at hand.newest in
          ap (λ (f : FileName). f.number) (same_last last other front before (sym listed_last ∙ is)) ∙ its_number

      pub its_disk : (disks file.name.number ≡ disk) × model.is_honest disk
      its_disk = hand.there disk (subst (λ (k : ℕ). file_in old.folder k ≡ Kept disk) number was)

      pub in_its_world : StandsIn Shows add [] file.world (model.state disk)
      in_its_world = subst (λ (d : D). StandsIn Shows add [] file.world (model.state d)) its_disk.0
          (subst (λ (n : Option (Newest Command)). NewestStands Shows add [] (Now model (point old.folder disks)) n) hand.newest at.stands.stands.newest)

      last_there : (b : Archive Command) (world : World Command) (files : List FileName) → files ≡ old.files → b.newest ≡ Some (in_world file world) → NewestIsLast files b
      last_there b world files is newest = last_for files b (in_world file world) newest (front, last, is ∙ listed_last, number)

      -- a step of its recorder, or a look at it
      stepped : (step : Step Command) (now : D) → IsAnswer step → StepIs model file.world step disk now
          → ReachesTo a mid.folder disks (recorded a step) mid.folder (with_disk file.name.number now disks)
      stepped step now answer it =
          one_step mid.folder a file disks step now (named ∙ at.stands.names_are) hand.newest (inl hand.stays) answer
          (subst (λ (d : D). StepIs model file.world step d now) (sym its_disk.0) it)

      pub opened_last : (found : Bool) (recorder : RecorderState D) → StepIs model file.world (Opened found) disk recorder.file.disk
          → IsIn model [] (happens file.world (Opened found)) recorder → mid.out ≡ Some last.number → Written old a disks file.name.number recorder mid
      opened_last found recorder it is_in out =
          let now = recorder.file.disk in
          let b = recorded a (Opened found) in
          let after = with_disk file.name.number now disks in
          let newest = after_step a file (Opened found) hand.newest in (
            b,
            in_world file (happens file.world (Opened found)),
            after,
            record {
              newest = newest;
              number_is = refl;
              stays = hand.stays;
              stands = is_in;
              here = at_same file.name.number now disks;
              honest = it.2;
            },
            out ∙ ap Some number,
            comes old mid a b disks after at (last_there b (happens file.world (Opened found)) mid.files same newest)
                (law.both a a b old.folder mid.folder mid.folder disks disks after asked (stepped (Opened found) now tt it).1),
          )

      -- it was looked at, and is given back
      pub looked_last : (new : FilesState F) (seen : D) → StepIs model file.world Looked disk seen → new.files ≡ mid.files
          → file_in new.folder last.number ≡ Kept seen
          → ((c : Archive Command) (after : ℕ → D) → names_in mid.folder ≡ names c → Leads c mid.folder after c new.folder after)
          → Back old a disks file.name.number new
      looked_last new seen it same_after back asks =
          let b = recorded a Looked in
          let after = with_disk file.name.number seen disks in
          let newest = after_step a file Looked hand.newest in
          let look = stepped Looked seen tt it in (
            b,
            file,
            after,
            refl,
            record {
              newest = newest;
              stays = hand.stays;
              closed = hand.closed;
              there = λ other there.
                  let same_disk = kept_disk seen other (sym back ∙ subst (λ (k : ℕ). file_in new.folder k ≡ Kept other) (sym number) there) in
                  (at_same file.name.number seen disks ∙ same_disk, subst model.is_honest same_disk it.2);
            },
            comes old new a b disks after at (last_there b file.world new.files (same_after ∙ same) newest)
                (law.both a b b old.folder mid.folder new.folder disks after after
                (law.both a a b old.folder mid.folder mid.folder disks disks after asked look.1) (asks b after look.0)),
          )

    -- nothing was done with the newest
    pub asked_back : (old new : FilesState F) (a : Archive Command) (file : Newest Command) (disks : ℕ → D) → At old a disks → IsAtHand file_in model old.folder a file disks
        → new.files ≡ old.files → ((m : ℕ) (other : D) → file_in new.folder m ≡ Kept other → file_in old.folder m ≡ Kept other)
        → Leads a old.folder disks a new.folder disks → Back old a disks file.name.number new
    asked_back old new a file disks at hand same places leads = (
      a,
      file,
      disks,
      refl,
      record { newest = hand.newest; stays = hand.stays; closed = hand.closed; there = λ disk is. hand.there disk (places file.name.number disk is) },
      comes old new a a disks disks at (subst (λ (l : List FileName). NewestIsLast l a) (sym same) at.last) leads,
    )

    -- ---- one after the other
    pub back_then : (old mid new : FilesState F) (a : Archive Command) (disks : ℕ → D) (n : ℕ) → Back old a disks n mid
        → ((b : Archive Command) (file : Newest Command) (after : ℕ → D) → At mid b after → IsAtHand file_in model mid.folder b file after → Back mid b after file.name.number new)
        → Back old a disks n new
    back_then old mid new a disks n (b, file, between, its_number, hand, led) later =
        let (c, next, after, same, hand_on, led_on) = later b file between led.0 hand in
        (c, next, after, same ∙ its_number, hand_on, and_then old mid new a b c disks between after led led_on)

    pub back_then_written : (old mid new : FilesState F) (a : Archive Command) (disks : ℕ → D) (n : ℕ) (recorder : RecorderState D) → Back old a disks n mid
        → ((b : Archive Command) (file : Newest Command) (after : ℕ → D) → At mid b after → IsAtHand file_in model mid.folder b file after
        → Written mid b after file.name.number recorder new)
        → Written old a disks n recorder new
    back_then_written old mid new a disks n recorder (b, file, between, its_number, hand, led) later =
        let (c, next, after, written, out, led_on) = later b file between led.0 hand in (
          c,
          next,
          after,
          subst (λ (k : ℕ). IsWritten model c next k recorder after) its_number written,
          out ∙ ap Some its_number,
          and_then old mid new a b c disks between after led led_on,
        )

    pub back_then_free : (old mid new : FilesState F) (a : Archive Command) (disks : ℕ → D) (n : ℕ) → Back old a disks n mid
        → ((b : Archive Command) (file : Newest Command) (after : ℕ → D) → At mid b after → IsAtHand file_in model mid.folder b file after → Free mid b after new)
        → Free old a disks new
    back_then_free old mid new a disks n (b, file, between, _, hand, led) later =
        let (c, after, none, led_on) = later b file between led.0 hand in
        (c, after, none, and_then old mid new a b c disks between after led led_on)

    -- it is written no more
    pub back_free : (old new : FilesState F) (a : Archive Command) (disks : ℕ → D) (n : ℕ) → Back old a disks n new → Free old a disks new
    back_free old new a disks n (b, file, after, _, hand, led) = aside old new a b file disks after hand.newest led

    pub written_then_back : (old mid new : FilesState F) (a : Archive Command) (disks : ℕ → D) (n : ℕ) (recorder : RecorderState D) → Written old a disks n recorder mid
        → ((b : Archive Command) (file : Newest Command) (after : ℕ → D) → At mid b after → IsWritten model b file n recorder after → mid.out ≡ Some n → Back mid b after n new)
        → Back old a disks n new
    written_then_back old mid new a disks n recorder (b, file, between, written, out, led) later =
        let (c, next, after, same, hand, led_on) = later b file between led.0 written out in
        (c, next, after, same, hand, and_then old mid new a b c disks between after led led_on)

    pub written_then_free : (old mid new : FilesState F) (a : Archive Command) (disks : ℕ → D) (n : ℕ) (recorder : RecorderState D) → Written old a disks n recorder mid
        → ((b : Archive Command) (file : Newest Command) (after : ℕ → D) → At mid b after → IsWritten model b file n recorder after → mid.out ≡ Some n → Free mid b after new)
        → Free old a disks new
    written_then_free old mid new a disks n recorder (b, file, between, written, out, led) later =
        let (c, after, none, led_on) = later b file between led.0 written out in
        (c, after, none, and_then old mid new a b c disks between after led led_on)

    pub written_then : (old mid new : FilesState F) (a : Archive Command) (disks : ℕ → D) (n : ℕ) (recorder now : RecorderState D) → Written old a disks n recorder mid
        → ((b : Archive Command) (file : Newest Command) (after : ℕ → D) → At mid b after → IsWritten model b file n recorder after → mid.out ≡ Some n → Written mid b after n now new)
        → Written old a disks n now new
    written_then old mid new a disks n recorder now (b, file, between, written, out, led) later =
        let (c, next, after, is, out_on, led_on) = later b file between led.0 written out in
        (c, next, after, is, out_on, and_then old mid new a b c disks between after led led_on)

    pub free_then_written : (old mid new : FilesState F) (a : Archive Command) (disks : ℕ → D) (n : ℕ) (recorder : RecorderState D) → Free old a disks mid
        → ((b : Archive Command) (after : ℕ → D) → At mid b after → b.newest ≡ None → Written mid b after n recorder new)
        → Written old a disks n recorder new
    free_then_written old mid new a disks n recorder (b, between, none, led) later =
        let (c, next, after, is, out, led_on) = later b between led.0 none in
        (c, next, after, is, out, and_then old mid new a b c disks between after led led_on)

    -- the recorder was told how many commands may wait
    pub told_written : (old new : FilesState F) (a : Archive Command) (disks : ℕ → D) (n : ℕ) (recorder told : RecorderState D) → told.file ≡ recorder.file
        → ((w : World Command) → IsIn model [] w recorder → IsIn model [] w told) → Written old a disks n recorder new → Written old a disks n told new
    told_written old new a disks n recorder told same stands (b, file, after, written, out, led) = (
      b,
      file,
      after,
      record {
        newest = written.newest;
        number_is = written.number_is;
        stays = written.stays;
        stands = stands file.world written.stands;
        here = written.here ∙ ap (λ (f : GateState D). f.disk) (sym same);
        honest = subst (λ (f : GateState D). model.is_honest f.disk) (sym same) written.honest;
      },
      out,
      led,
    )

    -- a step of the recorder failed, and it writes the file still
    pub faulted_written : (old new : FilesState F) (a b : Archive Command) (file now : Newest Command) (n : ℕ) (back : RecorderState D) (disks after : ℕ → D) → At old a disks
        → a.newest ≡ Some file → old.out ≡ Some n → new ≡ old → now.name ≡ file.name → IsWritten model b now n back after
        → ReachesTo a old.folder disks b old.folder after → Written old a disks n back new
    faulted_written old new a b file now n back disks after at newest out same name written reaches =
        subst (λ (files : FilesState F). Written old a disks n back files) (sym same) (
          b,
          now,
          after,
          written,
          out,
          comes old old a b disks after at
              (last_for old.files b now written.newest (subst (λ (one : Name). IsLastOf one.number old.files) (sym name) (its_last old a disks file at newest))) reaches.1,
        )

    -- a file was made, and the one before was looked at
    pub begun_on : (old mid new : FilesState F) (a : Archive Command) (disks : ℕ → D) (n : ℕ) (disk : D) → At old a disks → model.is_honest disk → IsLastOf n new.files
        → WritesNew names_in moment left_since model a old.folder disks n disk mid.folder
        → ((b : Archive Command) (after : ℕ → D) → names_in mid.folder ≡ names b → StaysWritten names_in moment left_since model b mid.folder after new.folder)
        → (b : Archive Command) × (file : Newest Command) × (after : ℕ → D) × IsBegun model b file n disk after × ComesTo old a disks new b after
    begun_on old mid new a disks n disk at honest last (b, after, newest, here, named, leads) looked =
        let (c, same, named_on, leads_on) = looked b after named in
        let file : Newest Command = record { name = name n Stays; world = start } in (
          c,
          file,
          after,
          record { newest = same ∙ newest; number_is = refl; stays = refl; unopened = refl; here = here; honest = honest },
          comes old new a c disks after at (last_for new.files c file (same ∙ newest) last)
              (law.both a b c old.folder mid.folder new.folder disks after after leads leads_on),
        )

    pub comes_then_free : (old mid new : FilesState F) (a b : Archive Command) (disks between : ℕ → D) → ComesTo old a disks mid b between → Free mid b between new
        → Free old a disks new
    comes_then_free old mid new a b disks between led (c, after, none, led_on) = (c, after, none, and_then old mid new a b c disks between after led led_on)

    pub comes_then_written : (old mid new : FilesState F) (a b : Archive Command) (disks between : ℕ → D) (n : ℕ) (recorder : RecorderState D) → ComesTo old a disks mid b between
        → Written mid b between n recorder new → Written old a disks n recorder new
    comes_then_written old mid new a b disks between n recorder led (c, file, after, written, out, led_on) =
        (c, file, after, written, out, and_then old mid new a b c disks between after led led_on)

    -- a file is let go: it has ended, or may be opened again
    pub let_go_free : (old new : FilesState F) (a : Archive Command) (file : Newest Command) (n : ℕ) (disks : ℕ → D) (is_sealed : Bool) → At old a disks
        → ((content : Content Command) × (disk : D) × IsLetGo is_sealed file.world content × (file_in new.folder n ≡ Kept disk) × model.is_honest disk
        × ReachesTo a old.folder disks (with_file a file.name content) new.folder (with_disk n disk disks))
        → Free old a disks new
    let_go_free old new a file n disks is_sealed at (content, disk, known, kept, honest, reaches) =
        free_reached old new a file.name content disks (with_disk n disk disks) at reaches

    pub let_go_back : (old new : FilesState F) (a : Archive Command) (file : Newest Command) (n : ℕ) (recorder : RecorderState D) (disks : ℕ → D) (is_sealed : Bool) → is_sealed ≡ false
        → At old a disks → IsWritten model a file n recorder disks → new.files ≡ old.files
        → ((content : Content Command) × (disk : D) × IsLetGo is_sealed file.world content × (file_in new.folder n ≡ Kept disk) × model.is_honest disk
        × ReachesTo a old.folder disks (with_file a file.name content) new.folder (with_disk n disk disks))
        → Back old a disks n new
    let_go_back old new a file n recorder disks is_sealed not at written same (content, disk, known, kept, honest, reaches) =
        let is : content ≡ Known (closed file.world file.world.in_doubt) = subst (λ (b : Bool). IsLetGo b file.world content) not known in
        back_again old new a file n disks disk (closed file.world file.world.in_doubt) at written.newest written.number_is written.stays refl same kept honest
        (subst (λ (one : Content Command). ReachesTo a old.folder disks (with_file a file.name one) new.folder (with_disk n disk disks)) is reaches)

    -- a recorder is let go, and its disk is with the folder
    pub given_back : (old new : FilesState F) (a : Archive Command) (file : Newest Command) (n : ℕ) (recorder : RecorderState D) (disks : ℕ → D) (disk : D) → At old a disks
        → IsWritten model a file n recorder disks → disk ≡ recorder.file.disk → new.files ≡ old.files → file_in new.folder n ≡ Kept disk
        → ((b : Archive Command) (after : ℕ → D) → names_in old.folder ≡ names b → ReachesTo b old.folder after b new.folder after)
        → Back old a disks n new
    given_back old new a file n recorder disks disk at written same files kept asks =
        let named = at.stands.names_are in
        let still : model.is_honest disk = subst model.is_honest (sym same) written.honest in
        let reaches = let_aside old.folder new.folder a file n recorder disks named written disk ((asks a disks named).0 ∙ sym named) (λ b after here. (asks b after here).1)
        GivenBack tt refl (tt, same, still) in
        back_again old new a file n disks disk (closed file.world file.world.in_doubt) at written.newest written.number_is written.stays refl files kept still reaches

    -- a recorder's file is set aside
    pub written_free : (old new : FilesState F) (a : Archive Command) (file : Newest Command) (n : ℕ) (recorder : RecorderState D) (disks : ℕ → D) → At new a disks
        → old ≡ new → IsWritten model a file n recorder disks → Free old a disks new
    written_free old new a file n recorder disks at same written =
        subst (λ (first : FilesState F). Free first a disks new) (sym same) (aside new new a a file disks disks written.newest (stays_here new a disks at))

    -- a file that was begun
    module _ (old : F) (a : Archive Command) (file : Newest Command) (n : ℕ) (disk : D) (disks : ℕ → D) (named : names_in old ≡ names a) (begun : IsBegun model a file n disk disks) where
      fresh_is : a.newest ≡ Some (in_world file start)
      fresh_is = begun.newest ∙ ap (λ (w : World Command). Some (in_world file w)) begun.unopened

      disk_is : disk ≡ disks file.name.number
      disk_is = sym (ap disks begun.number_is ∙ begun.here)

      -- it is opened, with nothing in it
      pub opened_new : (found : Bool) (recorder : RecorderState D) → happens start (Opened found) ≡ unwritten
          → StepIs model start (Opened found) disk recorder.file.disk → IsIn model [] unwritten recorder
          → IsWritten model (with_newest a (in_world file unwritten)) (in_world file unwritten) n recorder (with_disk n recorder.file.disk disks)
          × ReachesTo a old disks (with_newest a (in_world file unwritten)) old (with_disk n recorder.file.disk disks)
      opened_new found recorder world it is_in =
          let now = recorder.file.disk in
          let b = with_newest a (in_world file unwritten) in
          let opened = one_step old a (in_world file start) disks (Opened found) now named fresh_is (inl begun.stays) tt (subst (λ (d : D). StepIs model start (Opened found) d now) disk_is it) in
          let same : recorded a (Opened found) ≡ b =
          ap (λ (newest : Option (Newest Command)). archive a.ended newest) (after_step a (in_world file start) (Opened found) fresh_is)
          ∙ ap (λ (w : World Command). with_newest a (in_world file w)) world in
          let reaches = subst (λ (c : Archive Command). ReachesTo a old disks c old (with_disk file.name.number now disks)) same opened in (
            record { newest = refl; number_is = begun.number_is; stays = begun.stays; stands = is_in; here = at_same n now disks; honest = it.2 },
            subst (λ (k : ℕ). ReachesTo a old disks b old (with_disk k now disks)) begun.number_is reaches,
          )

      -- it isn't opened, is set aside, and is given back
      pub unopened_new : (new : F) (now : D) → StepIs model start (Faulted Opening) disk now → names_in new ≡ names_in old
          → ((b : Archive Command) (after : ℕ → D) → names_in old ≡ names b → Leads b old after b new after)
          → ReachesTo a old disks (with_file a file.name (Known start)) new (with_disk n now disks)
      unopened_new new now it kept asks =
          let b = with_file a file.name (Known start) in
          let aside = aside_reaches old a (in_world file start) disks (Faulted Opening) now named fresh_is (inl begun.stays) tt refl
          (subst (λ (d : D). StepIs model start (Faulted Opening) d now) disk_is it) in
          back_reaches old new a b disks (with_disk n now disks) kept
          (subst (λ (k : ℕ). ReachesTo a old disks b old (with_disk k now disks)) begun.number_is aside) (asks b (with_disk n now disks))

    -- ---- a start
    numbers_front : (front : List FileName) (last : FileName) → numbers_of (front ++ last ∷ []) ≡ numbers_of front ++ last.number ∷ []
    numbers_front [] last = refl
    numbers_front (first ∷ front) last = ap (λ (l : List ℕ). first.number ∷ l) (numbers_front front last)

    written_at : (folder : F) (files : FilesState F) (a b : Archive Command) (disks : ℕ → D) (front : List FileName) (last : FileName) → MayStart file_in model folder a disks
        → files.files ≡ front ++ last ∷ [] → file_in files.folder ≡ file_in folder → Stands names_in model a folder disks → names_in files.folder ≡ names b
        → Leads a folder disks b files.folder disks → MayBeWritten b last.number
        → (c : Archive Command) × IsWaiting file_in model files c disks × At files c disks × Leads a folder disks c files.folder disks
    written_at folder files a b disks front last may is places stands named leads (c, file, way, newest, number, stays, closed) = (
      c,
      inr (
        file,
        record {
          newest = newest;
          stays = stays;
          closed = closed;
          there = λ disk there. may.kept file.name.number disk (sym (ap (λ (at : ℕ → Place D). at file.name.number) places) ∙ there);
        },
      ),
      record { stands = law.stands a c folder files.folder disks disks stands on; last = last_for files.files c file newest (front, last, is, sym number) },
      on,
    )
      where
        on : Leads a folder disks c files.folder disks
        on = ⊎_elim
            (λ same. subst (λ (x : Archive Command). Leads a folder disks x files.folder disks) (sym same) leads)
            (λ resumes. law.both a b c folder files.folder files.folder disks disks disks leads (law.resuming b c files.folder disks resumes named))
            way

    -- the folder was synced and listed
    pub started : (folder : F) (files : FilesState F) (a b : Archive Command) (disks : ℕ → D) → MayStart file_in model folder a disks → Stands names_in model a folder disks
        → Resolves a b → AllStay (names b) → names_in files.folder ≡ names b → numbers_of files.files ≡ listed (names b) → file_in files.folder ≡ file_in folder
        → Leads a folder disks b files.folder disks
        → (c : Archive Command) × IsWaiting file_in model files c disks × At files c disks × Leads a folder disks c files.folder disks
    started folder files a b disks may stands resolves stay named all places leads = by_files files.files refl
      where
        ends_so : (first : FileName) (known : List FileName) → (front : List FileName) × (last : FileName) × (first ∷ known ≡ front ++ last ∷ [])
        ends_so first [] = ([], first, refl)
        ends_so first (next ∷ known) =
            let (front, last, same) = ends_so next known in (first ∷ front, last, ap (λ (l : List FileName). first ∷ l) same)

        by_files : (known : List FileName) → files.files ≡ known
            → (c : Archive Command) × IsWaiting file_in model files c disks × At files c disks × Leads a folder disks c files.folder disks
        by_files [] is =
            let none = may.none b resolves stay (sym all ∙ ap numbers_of is) in (
              b,
              inl (none, is),
              record { stands = law.stands a b folder files.folder disks disks stands leads; last = none_for files.files b none },
              leads,
            )
        by_files (first ∷ known) is =
            let (front, last, same) = ends_so first known in
            written_at folder files a b disks front last may (is ∙ same) places stands named leads
            (may.last b (numbers_of front) last.number resolves stay (sym all ∙ ap numbers_of (is ∙ same) ∙ numbers_front front last))
