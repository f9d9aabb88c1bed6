-- Files are looked at and thrown away, and the file that is written stays so.
use Rattle.std.proofs.Common.{◌≡◌, ℕ, Option, Some, None, List, [], ◌∷◌, refl, sym, ◌∙◌, subst}
use Rattle.std.specs.Prelude.{IfSome}
use Rattle.disk_model.specs.declared.disk.Disk.{Ghosts as DiskModel}
use Rattle.archive_folder.specs.declared.names.FileName.{FileName}
use Rattle.archive_folder.specs.declared.names.Name.{Name}
use Rattle.archive_history.specs.Archive.{Archive, Newest, names, with_new}
use Rattle.archive_history.specs.History.{AreEvents, Event, IsNotNewest, Point, account_after, point, point_after, with_disk}
use Rattle.archive_history.specs.Leading.{and_then, stays}
use Rattle.chain_rules.specs.Recording.{add}
use Rattle.file_recorder.specs.Recovery.{Accepts, Shows}
use Rattle.ogg_command.specs.declared.command.Command.{Command}
use Rattle.archive_record.specs.Account.{IsLastOf, LeadsTo, NewestIsLast, StaysWritten, WritesNew, WritesNone}
use Rattle.archive_record.specs.Retention.{IsLeftOf, MayGo}
use Rattle.archive_record.proofs.Leading.{at_same}

newest_same : (files : List FileName) (a b : Archive Command) → b.newest ≡ a.newest → NewestIsLast files a → NewestIsLast files b
newest_same files a b same is = subst (λ (newest : Option (Newest Command)). IfSome newest (λ (file : Newest Command). IsLastOf file.name.number files)) (sym same) is

-- the last file is left, whatever else goes
pub still_last : (before after : List FileName) (a : Archive Command) → IsLeftOf before after → NewestIsLast before a → NewestIsLast after a
still_last before after a left is = still a.newest is
  where
    still : (newest : Option (Newest Command)) → IfSome newest (λ (file : Newest Command). IsLastOf file.name.number before)
        → IfSome newest (λ (file : Newest Command). IsLastOf file.name.number after)
    still None is = tt
    still (Some file) (front, last, is, number) = let (rest, here) = left.newest front last is in (rest, last, here, number)

-- a file that may go isn't the newest of the account
pub not_newest : (n : ℕ) (files : List FileName) (a : Archive Command) → NewestIsLast files a → MayGo n files → IsNotNewest n a.newest
not_newest n files a is may = other a.newest is
  where
    other : (newest : Option (Newest Command)) → IfSome newest (λ (file : Newest Command). IsLastOf file.name.number files) → IsNotNewest n newest
    other None is = tt
    other (Some file) (front, last, is, number) = λ same. may.older front last is (number ∙ same)

none_is_last : (files : List FileName) (a : Archive Command) → a.newest ≡ None → NewestIsLast files a
none_is_last files a is = subst (λ (newest : Option (Newest Command)). IfSome newest (λ (file : Newest Command). IsLastOf file.name.number files)) (sym is) tt

module _ {F D : Type 0} (names_in : F → List Name) (moment : F → ℕ) (left_since : F → ℕ → List ℕ → Type 0) (model : DiskModel D) where
  abbrev Stays : Archive Command → F → (ℕ → D) → F → Type 0
  Stays a old disks new = StaysWritten names_in moment left_since model a old disks new

  named_after : (events : List (Event Command × Archive Command × Point F D)) (a : Archive Command) (old : Point F D)
      → AreEvents names_in moment left_since model Shows Accepts add [] a old events → names_in old.folder ≡ names a
      → names_in (point_after old events).folder ≡ names (account_after a events)
  named_after [] a old are named = named
  named_after ((event, b, new) ∷ later) a old (is, same, rest) named = named_after later b new rest same

  -- where events lead the folder has the account's names
  pub names_led : (a b : Archive Command) (old new : F) (disks after : ℕ → D) → names_in old ≡ names a
      → LeadsTo names_in moment left_since model a old disks b new after → names_in new ≡ names b
  names_led a b old new disks after named led =
      subst (λ (here : Point F D). names_in here.folder ≡ names b) led.ends
      (subst (λ (x : Archive Command). names_in (point_after (point old disks) led.events).folder ≡ names x) led.leads
      (named_after led.events a (point old disks) led.are named))

  pub nothing_goes : (a : Archive Command) (folder : F) (disks : ℕ → D) → names_in folder ≡ names a → Stays a folder disks folder
  nothing_goes a folder disks named = (a, refl, named, stays names_in moment left_since model Shows Accepts add [] a (point folder disks))

  -- a call by which the account stays the same
  pub asked : (a : Archive Command) (old new : F) (disks : ℕ → D) → names_in old ≡ names a → names_in new ≡ names_in old
      → LeadsTo names_in moment left_since model a old disks a new disks → Stays a old disks new
  asked a old new disks named same leads = (a, refl, same ∙ named, leads)

  pub goes_on : (before between : List FileName) (a : Archive Command) (old mid new : F) (disks : ℕ → D) → NewestIsLast before a → IsLeftOf before between
      → Stays a old disks mid → ((b : Archive Command) → NewestIsLast between b → names_in mid ≡ names b → Stays b mid disks new) → Stays a old disks new
  goes_on before between a old mid new disks is left (b, same, named, leads) later =
      let (c, kept, names_are, on) = later b (still_last before between b left (newest_same before a b same is)) named in (
        c,
        kept ∙ same,
        names_are,
        and_then names_in moment left_since model Shows Accepts add [] a b c (point old disks) (point mid disks) (point new disks) leads on,
      )

  -- a file is looked at, and then a call leads to this account
  pub looked_and_led : (a b : Archive Command) (old mid new : F) (disks : ℕ → D) → names_in mid ≡ names a → b.newest ≡ a.newest
      → LeadsTo names_in moment left_since model a old disks a mid disks → LeadsTo names_in moment left_since model a mid disks b new disks
      → Stays a old disks new
  looked_and_led a b old mid new disks named same asks leads = (
    b,
    same,
    names_led a b mid new disks disks named leads,
    and_then names_in moment left_since model Shows Accepts add [] a a b (point old disks) (point mid disks) (point new disks) asks leads,
  )

  -- ---- no file is written
  abbrev Free : Archive Command → F → (ℕ → D) → F → Type 0
  Free a old disks new = WritesNone names_in moment left_since model a old disks new

  pub none_yet : (a : Archive Command) (folder : F) (disks : ℕ → D) → a.newest ≡ None → names_in folder ≡ names a → Free a folder disks folder
  none_yet a folder disks is named = (a, disks, is, named, stays names_in moment left_since model Shows Accepts add [] a (point folder disks))

  -- and then none is, either
  pub none_still : (a : Archive Command) (old mid new : F) (disks : ℕ → D) → Free a old disks mid
      → ((b : Archive Command) (after : ℕ → D) → b.newest ≡ None → names_in mid ≡ names b → Free b mid after new) → Free a old disks new
  none_still a old mid new disks (b, after, is, named, leads) later =
      let (c, last, none, names_are, on) = later b after is named in (
        c,
        last,
        none,
        names_are,
        and_then names_in moment left_since model Shows Accepts add [] a b c (point old disks) (point mid after) (point new last) leads on,
      )

  -- files go meanwhile
  pub none_stays : (files : List FileName) (a : Archive Command) (old mid new : F) (disks : ℕ → D) → Free a old disks mid
      → ((b : Archive Command) (after : ℕ → D) → NewestIsLast files b → names_in mid ≡ names b → Stays b mid after new) → Free a old disks new
  none_stays files a old mid new disks so_far later = none_still a old mid new disks so_far (λ b after is named.
      let (c, same, names_are, leads) = later b after (none_is_last files b is) named in (c, after, same ∙ is, names_are, leads))

  -- and then a file is begun
  pub new_one : (a : Archive Command) (old mid new : F) (disks : ℕ → D) (n : ℕ) (disk : D) → Free a old disks mid
      → ((b : Archive Command) (after : ℕ → D) → b.newest ≡ None → names_in mid ≡ names b
      → LeadsTo names_in moment left_since model b mid after (with_new n b) new (with_disk n disk after))
      → WritesNew names_in moment left_since model a old disks n disk new
  new_one a old mid new disks n disk (b, after, is, named, leads) later =
      let on = later b after is named in (
        with_new n b,
        with_disk n disk after,
        refl,
        at_same n disk after,
        names_led b (with_new n b) mid new after (with_disk n disk after) named on,
        and_then names_in moment left_since model Shows Accepts add [] a b (with_new n b) (point old disks) (point mid after) (point new (with_disk n disk after)) leads on,
      )
