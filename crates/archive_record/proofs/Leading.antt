-- What is recorded into the newest file of an archive leads from one account of its folder to another.
use Rattle.std.proofs.lemmas.Bool.Decides.{nat_tests}
use Rattle.std.proofs.Common.{◌≡◌, inl, ℕ, arith, Option, Some, List, [], ◌∷◌, ◌++◌, refl, sym, ◌∙◌, ap, subst}
use Rattle.std.specs.Prelude.{◌==◌, Bool, true, if◌then◌else◌}
use Rattle.disk_model.specs.declared.disk.Disk.{Ghosts as DiskModel}
use Rattle.archive_folder.specs.declared.names.Name.{Name}
use Rattle.archive_folder.specs.declared.names.Fate.TheVariants.{Stays}
use Rattle.archive_history.specs.Archive.{Archive, Newest, names, names_of, newest_names, recorded, with_world}
use Rattle.archive_history.specs.History.{IsAnswer, with_disk}
use Rattle.chain_rules.specs.Recording.{add}
use Rattle.file_recorder.specs.Recovery.{Accepts, Shows}
use Rattle.history.specs.History.{AreSteps, IsStep}
use Rattle.history.specs.Runs.{AreCommands}
use Rattle.history.specs.World.{Faulted, Flushed, Held, Kept, Refused, Step, World, disk_after, happens, run}
use Rattle.ogg_command.specs.declared.command.Command.{Command}
use Rattle.archive_record.specs.Account.{LeadsTo}
use Rattle.archive_record.specs.Leading.{CallsLeadOn}
use Rattle.archive_record.specs.Reaching.{in_world}

first_is : {D : Type 0} (step : Step Command) (disk : D) (steps : List (Step Command × D)) → AreCommands ((step, disk) ∷ steps)
    → IsAnswer step × AreCommands steps
first_is (Held c) disk steps are = (tt, are)
first_is (Kept c) disk steps are = (tt, are)
first_is Flushed disk steps are = (tt, are)
first_is (Refused c) disk steps are = (tt, are)
first_is (Faulted call) disk steps are = (tt, are.1)
first_is step disk steps are = absurd are

same_test : (n : ℕ) → (n == n) ≡ true
same_test n = grind (arith, nat_tests)

pub at_same : {D : Type 0} (n : ℕ) (disk : D) (disks : ℕ → D) → with_disk n disk disks n ≡ disk
at_same n disk disks = ap (λ (b : Bool). if b then disk else disks n) (same_test n)

named_after : (a : Archive Command) (file : Newest Command) (step : Step Command) → a.newest ≡ Some file → names (recorded a step) ≡ names a
named_after a file step is =
    ap (λ (n : Option (Newest Command)). names_of a.ended ++ newest_names (with_world (λ w. happens w step) n)) is
    ∙ sym (ap (λ (n : Option (Newest Command)). names_of a.ended ++ newest_names n) is)

module _ {F D : Type 0} (names_in : F → List Name) (moment : F → ℕ) (left_since : F → ℕ → List ℕ → Type 0) (model : DiskModel D) where
  abbrev Leads : Archive Command → F → (ℕ → D) → Archive Command → F → (ℕ → D) → Type 0
  Leads a old disks b new after = LeadsTo names_in moment left_since model a old disks b new after

  -- the newest file of the account has come to this world, and to this disk
  abbrev pub LeadsOn : Archive Command → F → (ℕ → D) → Newest Command → World Command → D → Type 0
  LeadsOn a folder disks file world disk =
      (b : Archive Command) × (after : ℕ → D) × (b.newest ≡ Some (in_world file world)) × (b.ended ≡ a.ended) × (after file.name.number ≡ disk)
      × (names_in folder ≡ names b) × Leads a folder disks b folder after

  pub steps_lead : CallsLeadOn names_in moment left_since model → (steps : List (Step Command × D)) (a : Archive Command) (file : Newest Command) (disks : ℕ → D) (folder : F) (disk : D)
      → AreCommands steps → a.newest ≡ Some file → names_in folder ≡ names a → file.name.fate ≡ Stays → disks file.name.number ≡ disk
      → AreSteps model Shows Accepts add [] file.world disk steps
      → LeadsOn a folder disks file (run file.world steps) (disk_after disk steps)
  steps_lead law [] a file disks folder disk are is named stays here steps = (a, disks, is, refl, here, named, law.nothing a folder disks)
  steps_lead law ((step, new) ∷ later) a file disks folder disk are is named stays here (first, rest) =
      let n = file.name.number in
      let (answer, commands) = first_is step new later are in
      let reached : Newest Command = in_world file (happens file.world step) in
      let one = law.step a file disks folder step new is named answer (inl stays)
      (subst (λ (d : D). IsStep model Shows Accepts add [] file.world step d new) (sym here) first) in
      let (b, after, newest, ended, there, names_are, leads) =
      steps_lead law later (recorded a step) reached (with_disk n new disks) folder new commands
      (ap (with_world (λ w. happens w step)) is) (named ∙ sym (named_after a file step is)) stays (at_same n new disks) rest in
      (b, after, newest, ended, there, names_are, law.both a (recorded a step) b folder folder folder disks (with_disk n new disks) after one leads)
