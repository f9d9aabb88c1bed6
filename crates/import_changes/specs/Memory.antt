-- Why memory is wanted: only for a link that begins, and only for what there was no room for. Ours.
use Rattle.std.specs.Prelude.{◌≡◌, ◌⊎◌, ◌<◌, ◌≤◌, true, false, List, ◌∷◌, ◌++◌, length}
use Rattle.std.specs.List.{list_all, list_any}
use Rattle.std.specs.Map.{values_of}
use Rattle.ogg_command.specs.declared.command.Command.{Command}
use Rattle.ogg_command.specs.declared.command.Command.TheVariants.{Begin as BeginOf, Put as PutOf, End as EndOf}
use Rattle.ogg_command.specs.declared.command.Begin.{Begin}
use Rattle.ogg_command.specs.declared.command.NewStream.{NewStream}
use Rattle.import_changes.specs.declared.options.Skeletons.{Skeletons}
use Rattle.import_changes.specs.Changed.{Become, ChangeState, begins}
use Rattle.import_changes.specs.Naming.{AreAllTaken}
use Rattle.import_changes.specs.Renumbered.{avoided}
use Rattle.import_changes.specs.Skeletons.{is_skeleton, leaves_out, staying}

-- Skeletons are left out, and another stream is among these: those that stay are put together in new memory.
abbrev pub IsParted : Skeletons → List NewStream → Type 0
IsParted skeletons streams = (leaves_out skeletons ≡ true) × (list_all is_skeleton streams ≡ false)

-- one of these streams has no name, and there is none that is free
pub record LacksName (old new : ChangeState) (streams : List NewStream) : Type 0 where
  pub unnamed : length new.names < length streams
  pub taken : AreAllTaken (avoided old.options.renumber old.given) (values_of new.names)

-- there was no room for a name for each of these streams, or no name
abbrev pub IsUnnamed : ChangeState → ChangeState → List NewStream → Type 0
IsUnnamed old new streams = (old.name_room < length streams) ⊎ LacksName old new streams

-- The streams that stay were to be put together, or there was no name, or no room for a name or a serial, for each.
abbrev pub LacksMemoryFor : ChangeState → ChangeState → Begin → Type 0
LacksMemoryFor old new begin =
    IsParted old.options.skeletons begin.streams
    ⊎ (IsUnnamed old new (staying old.options.skeletons begin.streams)
    ⊎ (old.room < length (staying old.options.skeletons begin.streams)))

-- packets and ends take no memory
abbrev pub LacksMemory : ChangeState → ChangeState → Command → Type 0
LacksMemory old new (BeginOf begin) = LacksMemoryFor old new begin
LacksMemory old new (PutOf put) = ⊥
LacksMemory old new (EndOf serial) = ⊥

-- One of these commands lacks it, after those before it were changed. If none of those begins a link, there was as much
-- room as at first.
pub record LacksMemoryAmong (old new : ChangeState) (commands : List Command) : Type 0 where
  pub before : List Command
  pub command : Command
  pub more : List Command
  pub commands_are : commands ≡ before ++ command ∷ more
  pub mid : ChangeState
  pub given : List Command
  pub changed : Become old mid before given
  pub options : mid.options ≡ old.options
  pub name_room : old.name_room ≤ mid.name_room
  pub same : list_any begins before ≡ false → mid ≡ old
  pub lacks : LacksMemory mid new command
