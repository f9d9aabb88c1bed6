-- An import's commands begin links without a Skeleton.
use Rattle.std.proofs.Common.{◌≡◌, Bool, true, false, Option, List, [], ◌∷◌, ◌++◌, refl, sym, ◌∙◌, ap, subst}
use Rattle.std.specs.List.{AllByRecursion}
use Rattle.ogg_page.specs.Page.{Page}
use Rattle.ogg_page.specs.Window.{LentAt}
use Rattle.ogg_command.specs.declared.command.Command.{Command}
use Rattle.import_gather.specs.Gathered.{Gathered}
use Rattle.import_gather.specs.Giving.{IsPlain as IsBare}
use Rattle.import_mend.specs.Gives.{GivesEnd, Mending}
use Rattle.import_mend.specs.Importing.{TakesFound, TakesNone, mending_of}
use Rattle.import_mend.specs.Whole.{HasMended, IsStart, TakesPage, TakesPages}
use Rattle.import_mend.specs.declared.mend.Mend.{Mend}
use Rattle.import_mend.specs.declared.import.Import.{Import}
use Rattle.import_changes.specs.Changed.{IsPlain}
use Rattle.import_feed.specs.Mending.{AreSteps, ImportStep, commands_of}
use Rattle.import_feed.proofs.Sources.{plain_all}

-- ---- what is known of pages that are mended
abbrev pub PagesArePlain : Type 0
PagesArePlain =
    (pages : List LentAt) (start new : Mending) (mends : List (Option Mend)) (given : List Command)
    → IsStart start → TakesPages pages start new mends given → AllByRecursion IsBare given

abbrev pub PagesHaveLinks : Type 0
PagesHaveLinks =
    (pages : List LentAt) (start new : Mending) (mends : List (Option Mend)) (given : List Command)
    → IsStart start → TakesPages pages start new mends given → (links : List (List Page)) × HasMended links new.gathered given

abbrev pub EndsArePlain : Type 0
EndsArePlain =
    (links : List (List Page)) (old new : Gathered) (given more : List Command) → GivesEnd old new more → HasMended links old given
    → AllByRecursion IsBare more

-- ---- the same of steps
record StepsTake (first last : Import) (steps : List ImportStep) : Type 0 where
  pages : List LentAt
  mends : List (Option Mend)
  takes : TakesPages pages (mending_of first) (mending_of last) mends (commands_of steps)

found : (first last : Import) (s : ImportStep) (steps : List ImportStep) → s.old ≡ first → TakesFound s.old s.new s.step.mend s.commands
    → StepsTake s.new last steps → StepsTake first last (s ∷ steps)
found first last s steps old (offset, page, is, lent, takes) rest = record {
  pages = (offset, page) ∷ rest.pages;
  mends = s.step.mend ∷ rest.mends;
  takes = (
    mending_of s.new,
    s.step.mend,
    s.commands,
    rest.mends,
    commands_of steps,
    subst (λ (i : Import). TakesPage offset page (mending_of i) (mending_of s.new) s.step.mend s.commands) old takes,
    rest.takes,
    refl,
    refl,
  );
}

ended : (first last : Import) (s : ImportStep) (steps : List ImportStep) → s.old ≡ first → TakesNone s.old s.new s.step.mend s.commands
    → StepsTake s.new last steps → StepsTake first last (s ∷ steps)
ended first last s steps old (lent, same, mend, none) rest = record {
  pages = rest.pages;
  mends = rest.mends;
  takes = subst (λ (l : List Command). TakesPages rest.pages (mending_of first) (mending_of last) rest.mends (l ++ commands_of steps)) (sym none)
      (subst (λ (m : Mending). TakesPages rest.pages m (mending_of last) rest.mends (commands_of steps)) (same ∙ ap mending_of old) rest.takes);
}

taken : (first last : Import) (steps : List ImportStep) → AreSteps first steps last → StepsTake first last steps
taken first last [] are = record { pages = []; mends = []; takes = (ap mending_of are, refl, refl) }
taken first last (s ∷ steps) (old, is, are) = by s.step.is_page refl (taken s.new last steps are)
  where
    by : (b : Bool) → s.step.is_page ≡ b → StepsTake s.new last steps → StepsTake first last (s ∷ steps)
    by true page rest = found first last s steps old (is.0 page) rest
    by false none rest = ended first last s steps old (is.1 none) rest

pub steps_plain : PagesArePlain → (first last : Import) (steps : List ImportStep) → IsStart (mending_of first) → AreSteps first steps last
    → AllByRecursion IsPlain (commands_of steps)
steps_plain law first last steps start are =
    let t : StepsTake first last steps = taken first last steps are in
    plain_all (commands_of steps) (law t.pages (mending_of first) (mending_of last) t.mends (commands_of steps) start t.takes)

pub end_plain : PagesHaveLinks → EndsArePlain → (first last now : Import) (closed : Gathered) (steps : List ImportStep) (more : List Command)
    → IsStart (mending_of first) → AreSteps first steps last → mending_of now ≡ mending_of last → GivesEnd now.gatherer closed more
    → AllByRecursion IsPlain more
end_plain has law first last now closed steps more start are reached ends =
    let t : StepsTake first last steps = taken first last steps are in
    let (links, held) = has t.pages (mending_of first) (mending_of last) t.mends (commands_of steps) start t.takes in
    plain_all more
    (law links now.gatherer closed (commands_of steps) more ends
    (subst (λ (m : Mending). HasMended links m.gathered (commands_of steps)) (sym reached) held))
