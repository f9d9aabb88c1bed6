-- A feed of version 2 that has no flush.
use Rattle.std.specs.Prelude.{◌≡◌, ℕ, Option, List, ◌++◌, ⊤}
use Rattle.ogg_page.specs.Output.{WritesPrefix}
use Rattle.import_feed.specs.declared.fault.MakingFault.{MakingFault}
use Rattle.import_feed.specs.declared.fault.MakingFault.TheVariants.{Limit, Write, Memory}
use Rattle.std.specs.List.{AllByRecursion, flat_map}
use Rattle.ogg_command.specs.declared.command.Command.{Command}
use Rattle.feed_records.specs.declared.version.Version.TheVariants.{Two}
use Rattle.feed_records.specs.declared.item.Record.TheVariants.{Command as CommandOf}
use Rattle.feed_records.specs.Record.{FitsRecord, announcement, record_of}

-- a command that can be written as a record
abbrev pub Fits : Command → Type 0
Fits command = FitsRecord Two command

abbrev pub record_bytes : Command → List ℕ
record_bytes command = record_of Two (CommandOf command)

abbrev pub records_of : List Command → List ℕ
records_of commands = flat_map record_bytes commands

-- the announcement, and then the record of each command
abbrev pub feed_of : List Command → List ℕ
feed_of commands = announcement ++ records_of commands

-- one of the commands is too long for a record
abbrev pub HasTooLong : List Command → Type 0
HasTooLong commands = AllByRecursion Fits commands → ⊥

-- why records aren't made
abbrev pub IsOwnFault : List Command → MakingFault → Type 0
IsOwnFault commands Limit = HasTooLong commands
IsOwnFault commands Memory = ⊤
IsOwnFault commands fault = ⊥

-- why these bytes of commands aren't written, and what is: a prefix if the writer failed, and otherwise nothing
abbrev pub GivesNot : Option (List ℕ) → Option (List ℕ) → List ℕ → List Command → MakingFault → Type 0
GivesNot before now bytes commands Write = WritesPrefix before now bytes
GivesNot before now bytes commands Limit = (now ≡ before) × HasTooLong commands
GivesNot before now bytes commands Memory = now ≡ before
GivesNot before now bytes commands fault = ⊥
