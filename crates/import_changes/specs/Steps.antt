-- What each command becomes. Ours.
use Rattle.std.specs.Prelude.{slice_set, ◌≡◌, ⊤, ℕ, Option, Some, None, List, [], ◌∷◌, ◌++◌, map, nat_eq}
use Rattle.std.specs.List.{AllZip, IsDistinct}
use Rattle.std.specs.Map.{keys_of, values_of}
use Rattle.ogg_command.specs.declared.command.Command.{Command}
use Rattle.ogg_command.specs.declared.command.Command.TheVariants.{Begin as BeginOf, Put as PutOf, End as EndOf}
use Rattle.ogg_command.specs.declared.command.Begin.{Begin}
use Rattle.ogg_command.specs.declared.command.Entry.{Entry}
use Rattle.ogg_command.specs.declared.command.NewStream.{NewStream}
use Rattle.ogg_command.specs.declared.command.SkeletonHead.{SkeletonHead}
use Rattle.import_changes.specs.declared.options.ChangeOptions.{ChangeOptions}
use Rattle.import_changes.specs.Changed.{ChangeState}
use Rattle.import_changes.specs.Naming.{AreNamed, AreNames, AreOnlyOf, IsFirstFree, IsLow, named, serials_of, stream_named}
use Rattle.import_changes.specs.Renumbered.{avoided}
use Rattle.import_changes.specs.Said.{IsDescribedBy, IsHeadSaid}
use Rattle.import_changes.specs.Skeletons.{begins_of, made_for, said_in, staying}

abbrev pub option_list : Option Command → List Command
option_list None = []
option_list (Some command) = command ∷ []

-- the command, if there is one, stands at this place
abbrev pub put_at : List Command → ℕ → Option Command → List Command
put_at commands place None = commands
put_at commands place (Some command) = slice_set commands place command

-- a `Put` of these packets, if there are any
abbrev pub put_of : List Entry → Option Command
put_of [] = None
put_of (entry ∷ entries) = Some (PutOf (record { entries = entry ∷ entries }))

abbrev pub end_of : Option ℕ → Option Command
end_of None = None
end_of (Some serial) = Some (EndOf serial)

-- these streams are named
pub record Names (old new : ChangeState) (streams : List NewStream) : Type 0 where
  pub options : new.options ≡ old.options
  pub given : new.given ≡ old.given
  pub names : AreNames (avoided old.options.renumber old.given) new.names
  pub named : AreNamed new.names (serials_of streams)
  pub only : AreOnlyOf new.names (serials_of streams)

-- these streams are the link's that are named, and each serial below this one is taken
pub record AreNamedFor (state : ChangeState) (streams : List NewStream) (low : ℕ) : Type 0 where
  pub once : IsDistinct nat_eq (keys_of state.names)
  pub named : AreNamed state.names (serials_of streams)
  pub only : AreOnlyOf state.names (serials_of streams)
  pub taken : IsLow state.given (values_of state.names) low

-- these streams begin under their names, without a Skeleton that is made
pub record BeginsPlain (old new : ChangeState) (skeleton : Option SkeletonHead) (streams : List NewStream) (now : Command) : Type 0 where
  pub options : new.options ≡ old.options
  pub names : new.names ≡ old.names
  pub given : new.given ≡ old.given ++ serials_of (map (stream_named old.names) streams)
  pub now_is : now ≡ BeginOf (record { skeleton = skeleton; streams = map (stream_named old.names) streams })

-- a stream under its name, described as these packets say
pub record IsDescribedUnder (names : List (ℕ × ℕ)) (said : List (List ℕ)) (stream now : NewStream) : Type 0 where
  pub described : IsDescribedBy said stream now
  pub named : now.serial ≡ named names stream.serial

pub record BeginsDescribed (from : ℕ) (utc : List ℕ) (said : List (List ℕ)) (old new : ChangeState) (stay : List NewStream) (now : Command) : Type 0 where
  pub options : new.options ≡ old.options
  pub names : new.names ≡ old.names
  pub head : SkeletonHead
  pub first : IsFirstFree from old.given (values_of old.names) head.serial
  pub head_said : IsHeadSaid utc said head
  pub described : List NewStream
  pub each : AllZip (IsDescribedUnder old.names said) stay described
  pub given : new.given ≡ old.given ++ head.serial ∷ serials_of described
  pub now_is : now ≡ BeginOf (record { skeleton = Some head; streams = described })

abbrev pub BeginsAs : Option ℕ → List ℕ → List (List ℕ) → ChangeState → ChangeState → Option SkeletonHead → List NewStream → Command → Type 0
BeginsAs None utc said old new skeleton streams now = BeginsPlain old new skeleton streams now
BeginsAs (Some from) utc said old new skeleton streams now = BeginsDescribed from utc said old new streams now

-- At this time of day the link's streams that stay are named, and begin under their names.
pub record Begins (utc : List ℕ) (old new : ChangeState) (begin : Begin) (now : Command) : Type 0 where
  pub state : ChangeState
  pub named : Names old state (staying old.options.skeletons begin.streams)
  pub begins :
      BeginsAs (made_for old.options.skeletons (staying old.options.skeletons begin.streams)) utc
      (said_in old.options.skeletons begin.streams) state new begin.skeleton (staying old.options.skeletons begin.streams) now

-- ---- the time of day
-- the Skeleton that is made for a link at this time of day says it, unless one that is left out says another
abbrev pub SaysTime : Option ℕ → List ℕ → List (List ℕ) → Begin → Type 0
SaysTime None utc said now = ⊤
SaysTime (Some from) utc said now = (head : SkeletonHead) × (now.skeleton ≡ Some head) × IsHeadSaid utc said head

pub record BeginsAt (utc : List ℕ) (options : ChangeOptions) (begin now : Begin) : Type 0 where
  pub says :
      SaysTime (made_for options.skeletons (staying options.skeletons begin.streams)) utc (said_in options.skeletons begin.streams) now

-- each link that these commands begin was changed at this time of day
abbrev pub BeginAt : List ℕ → ChangeOptions → List Command → List Command → Type 0
BeginAt utc options commands given = AllZip (BeginsAt utc options) (begins_of commands) (begins_of given)
