-- A feed of any input, which is mended: what is told and written, step by step. Ours.
use Rattle.std.specs.Prelude.{◌≡◌, ℕ, ◌+◌, ◌-◌, ◌^◌, min, Bool, true, false, if◌then◌else◌, Option, Some, None, Result, Ok, Err, ⊤, List, [], ◌∷◌, ◌++◌, length}
use Rattle.std.specs.List.{AllByRecursion, filter, flat_map, list_any}
use Rattle.std.specs.Io.KnownBytes.{Appends}
use Rattle.ogg_page.specs.Output.{WritesPrefix}
use Rattle.ogg_command.specs.declared.command.Command.{Command}
use Rattle.ogg_command.specs.declared.command.Command.TheVariants.{Begin as BeginOf, Put as PutOf, End as EndOf}
use Rattle.import_gather.specs.Gathered.{Gathered}
use Rattle.import_mend.specs.Gives.{GivesEnd, mend_at_end}
use Rattle.import_mend.specs.Importing.{IsStep, mending_of}
use Rattle.import_mend.specs.Whole.{IsStart}
use Rattle.import_mend.specs.declared.mend.Mend.{Mend}
use Rattle.import_mend.specs.declared.import.Import.{Import}
use Rattle.import_mend.specs.declared.import.Step.{Step}
use Rattle.import_changes.specs.Changed.{ChangeState, HasChanged, IsPlain}
use Rattle.import_changes.specs.declared.options.ChangeOptions.{ChangeOptions}
use Rattle.import_feed.specs.Feed.{Fits, GivesNot, HasTooLong, feed_of, records_of}
use Rattle.import_feed.specs.declared.made.Made.{Made}
use Rattle.import_feed.specs.declared.mending.Mending.{Mending}
use Rattle.import_feed.specs.declared.fault.MakingFault.{MakingFault}
use Rattle.import_feed.specs.declared.fault.MakingFault.TheVariants.{TooLong, Read, Limit, Write, Memory}

-- ---- the steps of an import
-- a step, and the commands that it gave
pub record ImportStep : Type 0 where
  pub old : Import
  pub new : Import
  pub step : Step
  pub commands : List Command

-- what the import says of it
abbrev pub IsImportStep : ImportStep → Type 0
IsImportStep s = IsStep s.old s.new s.step s.commands

-- step after step, from the first import to the last
abbrev pub AreSteps : Import → List ImportStep → Import → Type 0
AreSteps first [] last = last ≡ first
AreSteps first (s ∷ steps) last = (s.old ≡ first) × IsImportStep s × AreSteps s.new steps last

-- the same without the first import and the last one
abbrev pub AreJoined : List ImportStep → Type 0
AreJoined [] = ⊤
AreJoined (s ∷ []) = IsImportStep s
AreJoined (s ∷ next ∷ steps) = IsImportStep s × (next.old ≡ s.new) × AreJoined (next ∷ steps)

abbrev pub commands_of : List ImportStep → List Command
commands_of steps = flat_map (λ (s : ImportStep). s.commands) steps

-- ---- what is told
-- each mend, and where a link has begun, which is `None`
abbrev pub Telling : Type 0
Telling = Option Mend

abbrev pub begins : Command → Bool
begins (BeginOf begin) = true
begins (PutOf put) = false
begins (EndOf serial) = false

abbrev pub begun_in : List Command → List Telling
begun_in commands = if list_any begins commands then None ∷ [] else []

abbrev pub mended_by : Option Mend → List Telling
mended_by None = []
mended_by (Some mend) = Some mend ∷ []

-- the bytes before the page come first, and then the page
abbrev pub told_of : ImportStep → List Telling
told_of s = mended_by s.step.junk ++ (mended_by s.step.mend ++ begun_in s.commands)

abbrev pub told_by : List ImportStep → List Telling
told_by steps = flat_map told_of steps

-- one after the other
abbrev pub AreTold : {M : Type 0} → (M → Telling → M → Type 0) → M → List Telling → M → Type 0
AreTold tells old [] new = new ≡ old
AreTold tells old (told ∷ more) new = (mid : _) × tells old told mid × AreTold tells mid more new

-- ---- what is written
-- with some state these commands became those in `given`, changed as asked
pub record IsChangedAs (options : ChangeOptions) (commands given : List Command) : Type 0 where
  pub state : ChangeState
  pub changed : HasChanged state commands given
  pub asked : state.options ≡ options

abbrev pub has_page : ImportStep → Bool
has_page s = s.step.is_page

-- Steps were taken. Their mends are told, their commands became these, changed as asked, and the announcement and the
-- records of these are written.
pub record HasMended {M : Type 0} (tells : M → Telling → M → Type 0) (options : ChangeOptions) (before now : Option (List ℕ)) (unaware aware : M) (last : Import) (mending : Mending) (steps : List ImportStep) (given : List Command) : Type 0 where
  pub first : Import
  pub start : IsStart (mending_of first)
  pub are : AreSteps first steps last
  pub reached : mending_of mending.import ≡ mending_of last
  pub told : AreTold tells unaware (told_by steps) aware
  pub changed : HasChanged mending.changes (commands_of steps) given
  pub asked : mending.changes.options ≡ options
  pub fits : AllByRecursion Fits given
  pub written : Appends before now (feed_of given)
  pub pages : mending.made.pages ≡ min (length (filter has_page steps)) (2 ^ 64 - 1)
  pub counted : mending.made.commands ≡ min (length given) (2 ^ 64 - 1)

-- The import was finished after these steps, and all that it gave is written. Which commands such an import gives stands
-- in its crate.
pub record IsMendedFeed {M : Type 0} (tells : M → Telling → M → Type 0) (options : ChangeOptions) (before now : Option (List ℕ)) (unaware aware : M) : Type 0 where
  pub steps : List ImportStep
  pub first : Import
  pub last : Import
  pub start : IsStart (mending_of first)
  pub are : AreSteps first steps last
  -- what was mended at the end, and the commands that still waited
  pub end : Option Mend
  pub rest : List Command
  pub offset : ℕ
  pub end_is : end ≡ mend_at_end offset (mending_of last).gathered.chain
  pub closed : Gathered
  pub ends : GivesEnd (mending_of last).gathered closed rest
  pub told : AreTold tells unaware (told_by steps ++ (mended_by end ++ begun_in rest)) aware
  pub given : List Command
  pub changed : IsChangedAs options (commands_of steps ++ rest) given
  pub fits : AllByRecursion Fits given
  pub written : Appends before now (feed_of given)

-- the last of the steps had no page: the input had ended
pub record HaveEnded (steps : List ImportStep) : Type 0 where
  pub front : List ImportStep
  pub last : ImportStep
  pub steps_are : steps ≡ front ++ last ∷ []
  pub no_page : last.step.is_page ≡ false

-- the input ended, and this was made of it
pub record MendsFeed {M : Type 0} (tells : M → Telling → M → Type 0) (options : ChangeOptions) (before now : Option (List ℕ)) (unaware aware : M) (made : Made) : Type 0 where
  pub feed : IsMendedFeed tells options before now unaware aware
  pub ended : HaveEnded feed.steps
  pub pages : made.pages ≡ min (length (filter has_page feed.steps)) (2 ^ 64 - 1)
  pub counted : made.commands ≡ min (length feed.given) (2 ^ 64 - 1)

-- the feed was written in part: of the commands of these steps, and perhaps of what waited
pub record BreaksMended {M : Type 0} (tells : M → Telling → M → Type 0) (options : ChangeOptions) (before now : Option (List ℕ)) (unaware aware : M) (given : List Command) : Type 0 where
  pub steps : List ImportStep
  pub joined : AreJoined steps
  pub rest : List Command
  pub told : List Telling
  pub are_told : AreTold tells unaware told aware
  pub changed : IsChangedAs options (commands_of steps ++ rest) given
  pub written : WritesPrefix before now (feed_of given)

-- why a mended feed ended early. No page is a reason: a reader that failed is one, and then all before it is written.
abbrev pub StopsMended : {M : Type 0} → (M → Telling → M → Type 0) → ChangeOptions → MakingFault → Option (List ℕ) → Option (List ℕ) → M → M → Type 0
StopsMended tells options (Read at) before now unaware aware = IsMendedFeed tells options before now unaware aware
StopsMended tells options (TooLong at) before now unaware aware = IsMendedFeed tells options before now unaware aware
StopsMended tells options Limit before now unaware aware = (given : List Command) × BreaksMended tells options before now unaware aware given × HasTooLong given
StopsMended tells options Write before now unaware aware = (given : List Command) × BreaksMended tells options before now unaware aware given
StopsMended tells options Memory before now unaware aware = (given : List Command) × BreaksMended tells options before now unaware aware given
StopsMended tells options fault before now unaware aware = ⊥

-- ---- one step after the other
-- no step was taken
pub record IsMendingStart (options : ChangeOptions) (mending : Mending) : Type 0 where
  pub start : IsStart (mending_of mending.import)
  pub changed : HasChanged mending.changes [] []
  pub asked : mending.changes.options ≡ options
  pub no_pages : mending.made.pages ≡ 0
  pub no_commands : mending.made.commands ≡ 0

-- these commands of the import became others, changed as asked, whose records are written
pub record GivesMended (old new : Mending) (commands : List Command) (before now : Option (List ℕ)) : Type 0 where
  pub more : List Command
  pub changed : (earlier given : List Command) → HasChanged old.changes earlier given → AllByRecursion IsPlain commands
      → HasChanged new.changes (earlier ++ commands) (given ++ more)
  pub options : new.changes.options ≡ old.changes.options
  pub fits : AllByRecursion Fits more
  pub written : Appends before now (records_of more)
  pub import : new.import ≡ old.import
  pub page_count : new.made.pages ≡ old.made.pages
  pub counted : new.made.commands ≡ min (old.made.commands + length more) (2 ^ 64 - 1)

pub record GivesMendedNot (old : Mending) (commands : List Command) (before now : Option (List ℕ)) (fault : MakingFault) : Type 0 where
  pub more : List Command
  pub state : ChangeState
  pub changed : (earlier given : List Command) → HasChanged old.changes earlier given → AllByRecursion IsPlain commands
      → HasChanged state (earlier ++ commands) (given ++ more)
  pub options : state.options ≡ old.changes.options
  pub not : GivesNot before now (records_of more) more fault

abbrev pub GivesNoMore : Mending → List Command → Option (List ℕ) → Option (List ℕ) → MakingFault → Type 0
GivesNoMore old commands before now Limit = GivesMendedNot old commands before now Limit
GivesNoMore old commands before now Write = GivesMendedNot old commands before now Write
GivesNoMore old commands before now Memory = now ≡ before
GivesNoMore old commands before now fault = ⊥

-- a step was taken, and these are its commands
pub record TakesStep (old new : Mending) (step : Step) (commands : List Command) : Type 0 where
  pub is : IsImportStep (record { old = old.import; new = new.import; step = step; commands = commands })
  pub changes : new.changes ≡ old.changes
  pub made : new.made ≡ old.made

-- steps were taken, and all that the import gave is written
pub record StillMends {M : Type 0} (tells : M → Telling → M → Type 0) (options : ChangeOptions) (before now : Option (List ℕ)) (unaware aware : M) (last : Import) (mending : Mending) : Type 0 where
  pub steps : List ImportStep
  pub given : List Command
  pub has : HasMended tells options before now unaware aware last mending steps given

-- the same, and the input has ended
pub record EndsMended {M : Type 0} (tells : M → Telling → M → Type 0) (options : ChangeOptions) (before now : Option (List ℕ)) (unaware aware : M) (last : Import) (mending : Mending) : Type 0 where
  pub still : StillMends tells options before now unaware aware last mending
  pub ended : HaveEnded still.steps

-- the same, if the reader failed
pub record StopsReading {M : Type 0} (tells : M → Telling → M → Type 0) (options : ChangeOptions) (before now : Option (List ℕ)) (unaware aware : M) (mending : Mending) : Type 0 where
  pub last : Import
  pub still : StillMends tells options before now unaware aware last mending

-- why no step is taken: if the reader failed, the import can be finished as before
abbrev pub IsNextFault : MakingFault → Import → Import → Type 0
IsNextFault (Read at) old new = mending_of new ≡ mending_of old
IsNextFault Memory old new = ⊤
IsNextFault fault old new = ⊥

abbrev pub TurnsMended : {M : Type 0} → (M → Telling → M → Type 0) → ChangeOptions → Result Bool MakingFault → Option (List ℕ) → Option (List ℕ) → M → M → Mending → Type 0
TurnsMended tells options (Ok true) before now unaware aware mending = StillMends tells options before now unaware aware mending.import mending
TurnsMended tells options (Ok false) before now unaware aware mending = EndsMended tells options before now unaware aware mending.import mending
TurnsMended tells options (Err (Read at)) before now unaware aware mending = StopsReading tells options before now unaware aware mending
TurnsMended tells options (Err (TooLong at)) before now unaware aware mending = StopsReading tells options before now unaware aware mending
TurnsMended tells options (Err fault) before now unaware aware mending = StopsMended tells options fault before now unaware aware

abbrev pub TakesAllMended : {M : Type 0} → (M → Telling → M → Type 0) → ChangeOptions → Result (Unit {0}) MakingFault → Option (List ℕ) → Option (List ℕ) → M → M → Mending → Type 0
TakesAllMended tells options (Ok done) before now unaware aware mending = EndsMended tells options before now unaware aware mending.import mending
TakesAllMended tells options (Err fault) before now unaware aware mending = TurnsMended tells options (Err fault) before now unaware aware mending

-- ---- the end
-- what waited is written too
pub record ClosesWell {M : Type 0} (tells : M → Telling → M → Type 0) (options : ChangeOptions) (before now : Option (List ℕ)) (unaware aware : M) (steps : List ImportStep) (old new : Mending) : Type 0 where
  pub feed : IsMendedFeed tells options before now unaware aware
  pub steps_are : feed.steps ≡ steps
  pub page_count : new.made.pages ≡ old.made.pages
  pub counted : new.made.commands ≡ min (length feed.given) (2 ^ 64 - 1)

abbrev pub ClosesMended : {M : Type 0} → (M → Telling → M → Type 0) → ChangeOptions → Result (Unit {0}) MakingFault → Option (List ℕ) → Option (List ℕ) → M → M → List ImportStep → Mending → Mending → Type 0
ClosesMended tells options (Ok done) before now unaware aware steps old new = ClosesWell tells options before now unaware aware steps old new
ClosesMended tells options (Err fault) before now unaware aware steps old new = StopsMended tells options fault before now unaware aware

abbrev pub FinishesMended : {M : Type 0} → (M → Telling → M → Type 0) → ChangeOptions → Result Made MakingFault → Option (List ℕ) → Option (List ℕ) → M → M → Type 0
FinishesMended tells options (Ok made) before now unaware aware = MendsFeed tells options before now unaware aware made
FinishesMended tells options (Err fault) before now unaware aware = StopsMended tells options fault before now unaware aware
