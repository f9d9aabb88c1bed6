-- The numbers of what is asked for. Their bounds are ours.
use Rattle.std.specs.Prelude.{◌≤◌, ℕ, ⊤, IfSome}
use Rattle.command_line.specs.declared.action.Action.{Action}
use Rattle.command_line.specs.declared.action.Action.TheVariants.{Archive, Lines, Station, Record, Serve, Live}

-- how many commands may share one commit
abbrev pub IsGroup : ℕ → Type 0
IsGroup most = (1 ≤ most) × (most ≤ 1024)

-- how many connections may be served
abbrev pub IsCount : ℕ → Type 0
IsCount count = (1 ≤ count) × (count ≤ 65536)

-- how many connections a station may have at once
abbrev pub IsRoom : ℕ → Type 0
IsRoom count = (1 ≤ count) × (count ≤ 16384)

-- each number lies within its bounds
abbrev pub IsInBounds : Action → Type 0
IsInBounds (Archive path filing skeletons most strict seal) = IsGroup most
IsInBounds (Lines path filing most acks media stream streams seal) = IfSome most IsGroup
IsInBounds (Station path filing address password_file listeners allow_origin skeletons seal log) = IsRoom listeners
IsInBounds (Record file end_open renumber seal most strict) = IsGroup most
IsInBounds (Serve file address count) = IsCount count
IsInBounds (Live file address feed count most) = IsCount count × IsGroup most
IsInBounds _ = ⊤
