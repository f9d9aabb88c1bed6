-- What a step of an import does. Ours.
use Rattle.std.specs.Prelude.{◌≡◌, ℕ, true, false, Option, Some, None, List, []}
use Rattle.ogg_page.specs.Page.{Page, IsPage}
use Rattle.ogg_command.specs.declared.command.Command.{Command}
use Rattle.import_mend.specs.Gives.{Mending, mending}
use Rattle.import_mend.specs.Whole.{TakesPage}
use Rattle.import_mend.specs.declared.import.Import.{Import}
use Rattle.import_mend.specs.declared.import.Step.{Step}
use Rattle.import_mend.specs.declared.mend.Mend.{Mend}

-- what the next page depends on
abbrev pub mending_of : Import → Mending
mending_of import = mending import.mender.losses import.gatherer

-- a page was found, which is lent from then on, and is taken
abbrev pub TakesFound : Import → Import → Option Mend → List Command → Type 0
TakesFound old new mend more =
    (offset : ℕ) × (page : Page) × IsPage page × (new.pages.lent ≡ Some (offset, page))
    × TakesPage offset page (mending_of old) (mending_of new) mend more

-- there was none: the input has ended
abbrev pub TakesNone : Import → Import → Option Mend → List Command → Type 0
TakesNone old new mend more = (new.pages.lent ≡ None) × (mending_of new ≡ mending_of old) × (mend ≡ None) × (more ≡ [])

-- a step that gives these commands
abbrev pub IsStep : Import → Import → Step → List Command → Type 0
IsStep old new step more =
    (step.is_page ≡ true → TakesFound old new step.mend more) × (step.is_page ≡ false → TakesNone old new step.mend more)
