-- How a connection's socket stands, as far as it was told. Ours.
use Rattle.std.specs.Prelude.{Bool, true, false, ◌||◌}
use Rattle.serve_clients.specs.declared.line.Line.{Line}
use Rattle.serve_clients.specs.declared.line.Trouble.{Trouble}
use Rattle.serve_clients.specs.declared.line.Trouble.TheVariants.{Blocked, Interrupted, Broken}

abbrev pub new_line : Line
new_line = record { queued = false; readable = false; writable = false; moved = false }

-- what was told once holds until the system says otherwise
abbrev pub told_of : Bool → Bool → Line → Line
told_of readable writable line = record line { readable = line.readable || readable; writable = line.writable || writable }

abbrev pub queued_as : Bool → Line → Line
queued_as queued line = record line { queued = queued }

abbrev pub taken_off : Line → Line
taken_off line = record line { queued = false; moved = false }

abbrev pub moved_on : Line → Line
moved_on line = record line { moved = true }

-- only `Blocked` says that the system will tell when to try again
abbrev pub read_failed_by : Trouble → Line → Line
read_failed_by Blocked line = record line { readable = false }
read_failed_by Interrupted line = moved_on line
read_failed_by Broken line = line

abbrev pub write_failed_by : Trouble → Line → Line
write_failed_by Blocked line = record line { writable = false }
write_failed_by Interrupted line = moved_on line
write_failed_by Broken line = line
